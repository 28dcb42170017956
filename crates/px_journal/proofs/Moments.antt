-- From one call of a disk to the next: what a crash at a moment of either may leave.
use Rattle.std.proofs.Common.{rules, ◌≡◌, ◌≤◌, ◌⊎◌, inl, inr, ⊎_elim, ℕ, List, length, take, refl, sym, ◌∙◌, ap, subst, arith}
use Rattle.std.specs.Prelude.{Result, Ok, Err}
use Rattle.std.proofs.lemmas.Bool.{cases_lt}
use Rattle.std.proofs.lemmas.List.{take-take, take_all}
use Rattle.std.specs.Option.{ForSome}
use Rattle.px_value.proofs.General.{begins_further, begins_shorter}
use Rattle.px_ports.specs.Disk.{Told, OnlyReads, Writes, Syncs}
use Rattle.px_ports.specs.Moment.{Images, LeftSince, Torn, Elapses, Stays}
use Rattle.px_ports.specs.declared.disk.DiskFault.{DiskFault}
use Rattle.px_ports.specs.declared.moment.Moment.{Moment}
use Rattle.px_journal.specs.Crash.{Puts, LeavesOnly}

pub grows_length : (old new : List Moment) → take (length old) new ≡ old → length old ≤ length new
grows_length old new grows = begins_shorter old new grows

module _ (images : Images) where
  -- what a crash now may leave is among what one since an earlier moment may leave
  pub told_since : (old : List Moment) (told : List ℕ) (t : ℕ) → t ≤ length old → images old told → LeftSince images old t told
  told_since old told t early left =
      (length old, early, omega arith, subst (λ (ms : List Moment). images ms told) (sym (take_all (length old) old (omega arith))) left)

  -- a moment since t is one up to the middle, or one since the middle
  pub left_before_or_after : (mid new : List Moment) (t : ℕ) (image : List ℕ) → take (length mid) new ≡ mid → LeftSince images new t image
      → LeftSince images mid t image ⊎ LeftSince images new (length mid) image
  left_before_or_after mid new t image grows left = elim (cases_lt (length mid) (left.0)) [
    | inl after ↦ inr (left.0, omega (arith, after), left.2, left.3)
    | inr before ↦
        let same : take (left.0) new ≡ take (left.0) mid = sym (take-take (left.0) (length mid) new before) ∙ ap (λ (ms : List Moment). take (left.0) ms) grows in
        inl (left.0, left.1, before, subst (λ (ms : List Moment). images ms image) same (left.3))
  ]

  -- what a crash at a moment of a call that writes nothing may leave is an image from before it
  pub left_before : (old new : List Moment) → Elapses images Stays old new → (image : List ℕ) → LeftSince images new (length old) image → images old image
  left_before old new elapses image left = let from = elapses.each image left in subst (images old) (sym (from.2)) (from.1)

  -- a call that writes nothing goes on from one that does
  pub elapses_on : (step : List ℕ → List ℕ → Type 0) (old mid new : List Moment) → Elapses images step old mid → Elapses images Stays mid new
      → Elapses images step old new
  elapses_on step old mid new first second = record {
    grows = begins_further old mid new first.grows second.grows;
    each = λ image left. ⊎_elim
        (λ early. first.each image early)
        (λ late. first.each image (told_since mid image (length old) (grows_length old mid first.grows) (left_before mid new second image late)))
        (left_before_or_after mid new (length old) image second.grows left);
  }

  pub puts : (at : ℕ) (bytes : List ℕ) (old mid new : Told) (before then now : List Moment) (result : Result Unit DiskFault)
      → Writes images at bytes old mid before then (Ok tt) → Syncs images mid new then now result → Puts images at bytes old new before now result
  puts at bytes old mid new before then now (Ok unit) writes syncs = record {
    written = syncs.bytes ∙ writes.written;
    synced = λ told is image left. syncs.synced told (sym syncs.bytes ∙ is) image left;
    elapses = elapses_on (Torn at (length bytes)) before then now writes.elapses syncs.elapses;
  }
  puts at bytes old mid new before then now (Err fault) writes syncs = record {
    written = tt;
    synced = tt;
    elapses = elapses_on (Torn at (length bytes)) before then now writes.elapses syncs.elapses;
  }

  -- a sync, and calls behind it that only read
  pub synced_on : (old mid new : Told) (before then now : List Moment) → Syncs images old mid before then (Ok tt) → OnlyReads images mid new then now
      → ForSome new (λ told. (image : List ℕ) → images now image → image ≡ told)
  synced_on old mid new before then now syncs reads told is image left =
      syncs.synced told (sym (reads.bytes ∙ syncs.bytes) ∙ is) image
      (left_before then now reads.elapses image (told_since now image (length then) (grows_length then now reads.elapses.grows) left))

  module _ (left : List ℕ → Type 0) where
    -- what a call makes of the images from before it
    pub leaves : (step : List ℕ → List ℕ → Type 0) (old new : List Moment) → Elapses images step old new
        → ((before image : List ℕ) → images old before → step before image → left image) → LeavesOnly images left old new
    leaves step old new elapses each = record {
      grows = elapses.grows;
      each = λ image since. let from = elapses.each image since in each (from.0) image (from.1) (from.2);
    }

    pub leaves_on : (old mid new : List Moment) → LeavesOnly images left old mid → LeavesOnly images left mid new → LeavesOnly images left old new
    leaves_on old mid new first second = record {
      grows = begins_further old mid new first.grows second.grows;
      each = λ image since. ⊎_elim (λ early. first.each image early) (λ late. second.each image late)
          (left_before_or_after mid new (length old) image second.grows since);
    }

  pub leaves_more : (left more : List ℕ → Type 0) (old new : List Moment) → ((image : List ℕ) → left image → more image)
      → LeavesOnly images left old new → LeavesOnly images more old new
  leaves_more left more old new to leaves = record { grows = leaves.grows; each = λ image since. to image (leaves.each image since) }

  -- one call and one behind it, where what either leaves is of one kind
  pub leaves_both : (first second left : List ℕ → Type 0) (old mid new : List Moment) → ((image : List ℕ) → first image → left image)
      → ((image : List ℕ) → second image → left image) → LeavesOnly images first old mid → LeavesOnly images second mid new
      → LeavesOnly images left old new
  leaves_both first second left old mid new of_first of_second before after =
      leaves_on left old mid new (leaves_more first left old mid of_first before) (leaves_more second left mid new of_second after)

  -- calls that only read, one behind the other
  pub elapses_none : (now : List Moment) → Elapses images Stays now now
  elapses_none now = search (rules, take_all)

  pub reads_none : (told : Told) (now : List Moment) → OnlyReads images told told now now
  reads_none told now = record { bytes = refl; elapses = elapses_none now; kept = λ image left. left }

  pub reads_on : (was mid is : Told) (old then now : List Moment) → OnlyReads images was mid old then → OnlyReads images mid is then now
      → OnlyReads images was is old now
  reads_on was mid is old then now first second = record {
    bytes = second.bytes ∙ first.bytes;
    elapses = elapses_on Stays old then now first.elapses second.elapses;
    kept = λ image left. second.kept image (first.kept image left);
  }
