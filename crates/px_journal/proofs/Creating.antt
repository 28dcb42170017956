-- What each moment of a creation leaves: the closed master gate, what goes behind it, and the open one.
use Rattle.std.proofs.Common.{◌≡◌, ◌≤◌, ◌<◌, ◌+◌, ◌⊎◌, inl, inr, ⊎_elim, ℕ, false, List, [], ◌∷◌, ◌++◌, length, take, drop, refl, sym, ◌∙◌, ap, subst, arith, append_assoc, IsTrue}
use Rattle.std.specs.Prelude.{Some, Result, Ok, Err, OnOk, IsFalse, IfOk, is_some, nat_lt, slice_range}
use Rattle.std.specs.Option.{ForSome, option_map}
use Rattle.std.proofs.lemmas.Bool.{cases_Bool, le-ltb, lt-ltb, or_left, or_right, or_from}
use Rattle.std.proofs.lemmas.List.{take_at, drop_at, drop-drop, length-take}
use Rattle.px_value.proofs.General.{is_some_at, option_map_some, told_of}
use Rattle.px_ports.specs.Disk.{Told}
use Rattle.px_ports.specs.Moment.{Images, Torn, Elapses, Stays, overwritten}
use Rattle.px_ports.specs.declared.disk.Disk
use Rattle.px_ports.specs.declared.disk.DiskFault.{DiskFault}
use Rattle.px_ports.specs.declared.moment.Moment.{Moment}
use Rattle.px_journal.specs.Crash.{Puts, LeavesOnly, OldOrNew, OldOrNewAs}
use Rattle.px_journal.specs.Goes.{LeavesAtMost}
use Rattle.px_journal.specs.Journal.{IsReady, IsReadyAs}
use Rattle.px_journal.specs.Layout.{heading, is_open, is_closed, is_nothing, next_gate, StandsAs}
use Rattle.px_journal.specs.declared.fault.CreateFault.{CreateFault}
use Rattle.px_journal.specs.declared.journal.Journal.{Journal}
use Rattle.px_journal.specs.declared.version.Version.{Version}
use Rattle.px_journal.proofs.Appending.{closed_within, open_or_closed, same_told}
use Rattle.px_journal.proofs.Fronts.{is_closed-front}
use Rattle.px_journal.proofs.Moments.{leaves, leaves_both, leaves_more, leaves_on}
use Rattle.px_journal.proofs.Reading.{part_is}
use Rattle.px_journal.proofs.Torn.{torn_below, torn_above, written_below, written_from, written_above}

pub short_nothing : (bytes : List ℕ) → length bytes < 13 → IsTrue (is_nothing bytes)
short_nothing bytes short = or_left (nat_lt (length bytes) 13) (is_closed bytes) (lt-ltb (length bytes) 13 short)

pub closed_nothing : (bytes : List ℕ) → IsTrue (is_closed bytes) → IsTrue (is_nothing bytes)
closed_nothing bytes closed = or_right _ _ closed

pub not_nothing : (bytes : List ℕ) → 13 ≤ length bytes → is_closed bytes ≡ false → IsFalse (is_nothing bytes)
not_nothing bytes long shut = or_from (nat_lt (length bytes) 13) (is_closed bytes) (le-ltb (length bytes) 13 long) shut

-- the first byte that was read
pub gate_read : (told gate : List ℕ) → 13 ≤ length told → gate ≡ slice_range told 0 1 → (gate ≡ take 1 told) × (1 ≤ length gate)
gate_read told gate long read =
    let first : gate ≡ take 1 told = read ∙ part_is told 0 1 in
    (first, omega (arith, long, ap length first, length-take 1 told))

module _ (images : Images) (old : List Moment) where
  pub same_leaves : (new : List Moment) → Elapses images Stays old new → LeavesOnly images (λ image. images old image ⊎ IsTrue (is_nothing image)) old new
  same_leaves new elapses = leaves images (λ image. images old image ⊎ IsTrue (is_nothing image)) Stays old new elapses
      (λ before image was same. inl (subst (images old) (sym same) was))

  -- a torn write of the first byte of a short file leaves a short file
  pub short_leaves : (told : List ℕ) (mid new : List Moment) → length told < 13 → ((image : List ℕ) → images mid image → length image ≤ length told)
      → Elapses images Stays old mid → Elapses images (Torn 0 1) mid new → LeavesOnly images (λ image. images old image ⊎ IsTrue (is_nothing image)) old new
  short_leaves told mid new short longest stays torn = leaves_on images (λ image. images old image ⊎ IsTrue (is_nothing image)) old mid new (same_leaves mid stays)
      (leaves images (λ image. images old image ⊎ IsTrue (is_nothing image)) (Torn 0 1) mid new torn
      (λ before image was step. inr (short_nothing image (omega (arith, step.no_longer, longest before was, short)))))

-- ---- behind the closed master gate

module _ (version : Version) (text told content : List ℕ) (short : length text ≤ 1048576) (content_is : content ≡ heading version text ++ 0 ∷ []) (closed : IsTrue (is_closed told)) where
  within : 1 ≤ length told
  within = omega (arith, closed_within 0 told closed)

  abbrev filled : List ℕ
  filled = overwritten 1 content told

  still_closed : (image : List ℕ) → take 1 image ≡ take 1 told → IsTrue (is_closed image)
  still_closed image same = subst IsTrue (is_closed-front told image (sym same)) closed

  torn_content : (image : List ℕ) → Torn 1 (length content) told image → IsTrue (is_nothing image)
  torn_content image torn = closed_nothing image (still_closed image (torn_below 1 (length content) told image torn within))

  filled_closed : IsTrue (is_closed filled)
  filled_closed = still_closed filled (written_below 1 content told within)

  abbrev rest : List ℕ
  rest = drop (1 + length content) told

  filled_from : drop 1 filled ≡ heading version text ++ 0 ∷ rest
  filled_from = written_from 1 content told within ∙ ap (λ (l : List ℕ). l ++ rest) content_is ∙ append_assoc (heading version text) (0 ∷ []) rest

  filled_within : 1 ≤ length filled
  filled_within = omega (arith, closed_within 0 filled filled_closed)

  open_gate : (image : List ℕ) → drop 1 image ≡ drop 1 filled → IsTrue (is_open image) → StandsAs version image text []
  open_gate image above gate =
      let from : drop 1 image ≡ heading version text ++ 0 ∷ rest = above ∙ filled_from in
      let place : drop (next_gate version text []) image ≡ 0 ∷ rest =
      ap (λ (n : ℕ). drop n image) (let sum : next_gate version text [] ≡ 1 + length (heading version text) = omega arith in sum)
      ∙ sym (drop-drop (length (heading version text)) 1 image)
      ∙ ap (λ (l : List ℕ). drop (length (heading version text)) l) from
      ∙ drop_at (heading version text) (0 ∷ rest) (length (heading version text)) refl in
      record {
        front = record {
          opens = record {
            gate = gate;
            content = ap (λ (l : List ℕ). take (length (heading version text)) l) from ∙ take_at (heading version text) (0 ∷ rest) (length (heading version text)) refl;
          };
          records = tt;
          text_fits = short;
          fit = refl;
        };
        closed = subst IsTrue (sym (ap is_closed place)) refl;
        few = omega arith;
      }

  torn_gate : (image : List ℕ) → Torn 0 1 filled image → IsTrue (is_nothing image) ⊎ StandsAs version image text []
  torn_gate image torn =
      let above = torn_above 0 1 filled image torn filled_within in
      let long : 1 ≤ length image = omega (arith, filled_within, torn.no_shorter) in
      elim (cases_Bool (is_closed image)) [
        | inl shut ↦ inl (closed_nothing image shut)
        | inr not_shut ↦ inr (open_gate image above (open_or_closed image long not_shut))
      ]

  opened_stands : StandsAs version (overwritten 0 (1 ∷ []) filled) text []
  opened_stands =
      open_gate (overwritten 0 (1 ∷ []) filled) (written_above 0 (1 ∷ []) filled (omega arith)) refl

  module _ (images : Images) (was mid : Told) (old half : List Moment) (is : was ≡ Some told) (synced : (image : List ℕ) → images old image → image ≡ told) where
    pub content_leaves : (result : Result Unit DiskFault) → Puts images 1 content was mid old half result
        → LeavesOnly images (λ image. IsTrue (is_nothing image) ⊎ StandsAs version image text []) old half
    content_leaves result puts = leaves images (λ image. IsTrue (is_nothing image) ⊎ StandsAs version image text []) (Torn 1 (length content)) old half puts.elapses
        (λ before image left torn. inl (torn_content image (subst (λ (b : List ℕ). Torn 1 (length content) b image) (synced before left) torn)))

    module _ (first : Puts images 1 content was mid old half (Ok tt)) where
      mid_told : mid ≡ Some filled
      mid_told = first.written ∙ ap (option_map (overwritten 1 content)) is

      pub opened_leaves : (then : Told) (new : List Moment) (result : Result Unit DiskFault) → Puts images 0 (1 ∷ []) mid then half new result
          → LeavesOnly images (λ image. IsTrue (is_nothing image) ⊎ StandsAs version image text []) old new
      opened_leaves then new result puts = leaves_on images (λ image. IsTrue (is_nothing image) ⊎ StandsAs version image text []) old half new (content_leaves (Ok tt) first)
          (leaves images (λ image. IsTrue (is_nothing image) ⊎ StandsAs version image text []) (Torn 0 1) half new puts.elapses
          (λ before image left torn. torn_gate image (subst (λ (b : List ℕ). Torn 0 1 b image) (first.synced filled mid_told before left) torn)))

      pub opened_told : (then : Told) (new : List Moment) → Puts images 0 (1 ∷ []) mid then half new (Ok tt) → ForSome then (λ now. StandsAs version now text [])
      opened_told then new puts now now_is =
          let then_is : then ≡ Some (overwritten 0 (1 ∷ []) filled) = puts.written ∙ ap (option_map (overwritten 0 (1 ∷ []))) mid_told in
          subst (λ (b : List ℕ). StandsAs version b text []) (same_told then _ now then_is now_is) opened_stands

-- at Ok, over the answer of the second write
pub if_opened : (version : Version) (images : Images) (was mid then : Told) (old half new : List Moment) (text content : List ℕ) (result : Result Unit DiskFault)
    → length text ≤ 1048576 → content ≡ heading version text ++ 0 ∷ [] → ForSome was (λ told. IsTrue (is_closed told))
    → ForSome was (λ told. (image : List ℕ) → images old image → image ≡ told)
    → Puts images 1 content was mid old half (Ok tt) → Puts images 0 (1 ∷ []) mid then half new result
    → OnOk result (ForSome then (λ now. StandsAs version now text []))
if_opened version images was mid then old half new text content (Err fault) short content_is closed synced first second = tt
if_opened version images was mid then old half new text content (Ok unit) short content_is closed synced first second = λ now now_is.
    let middle = option_map_some (overwritten 0 (1 ∷ [])) mid now (sym second.written ∙ now_is) in
    let told = option_map_some (overwritten 1 content) was (middle.0) (sym first.written ∙ middle.1) in
    opened_told version text (told.0) content short content_is (closed (told.0) (told.1)) images was mid old half (told.1) (synced (told.0) (told.1)) first then new second now now_is

-- what was told before is told after
pub told_after : (was now : Told) (told : List ℕ) → is_some now ≡ is_some was → was ≡ Some told → (after : List ℕ) × (now ≡ Some after)
told_after was now told same is = told_of now (same ∙ is_some_at was told is)

-- the whole of a creation
pub old_or_new : (version : Version) (images : Images) (text : List ℕ) (old mid new : List Moment)
    → LeavesOnly images (λ image. images old image ⊎ IsTrue (is_nothing image)) old mid
    → LeavesOnly images (λ image. IsTrue (is_nothing image) ⊎ StandsAs version image text []) mid new → LeavesOnly images (OldOrNewAs version (images old) text) old new
old_or_new version images text old mid new first second = leaves_both images _ _ (OldOrNewAs version (images old) text) old mid new
    (λ image left. ⊎_elim (λ was. inl was) (λ none. inr (inl none)) left) (λ image left. inr left) first second

-- ---- the same in whatever version, for those who make a journal

whatever_version : (version : Version) (old : List ℕ → Type 0) (text bytes : List ℕ) → OldOrNewAs version old text bytes → OldOrNew old text bytes
whatever_version version old text bytes = ⊎_elim (λ was. inl was) (λ new. inr (⊎_elim (λ none. inl none)
    (λ stands. inr (record { version = version; named = []; stands = stands; entries_are = refl })) new))

module _ {D : Type 0} (members : Disk.Ghosts D) (text : List ℕ) where
  pub made_ready : (result : Result (Journal D) (CreateFault D)) → IfOk result (λ journal. IsReadyAs members journal text [])
      → IfOk result (λ journal. IsReady members journal text [])
  made_ready (Ok journal) ready = record { named = []; ready = ready; entries_are = refl }
  made_ready (Err fault) ready = tt

  pub made_leaves : (version : Version) (old new : D) → LeavesAtMost members (OldOrNewAs version (members.images (members.moments old)) text) old new
      → LeavesAtMost members (OldOrNew (members.images (members.moments old)) text) old new
  made_leaves version old new leaves told is =
      leaves_more members.images _ _ _ _ (whatever_version version (members.images (members.moments old)) text) (leaves told is)
