-- What each image since some moment stands for, from one post to the next.
use Rattle.std.proofs.Common.{◌≡◌, inl, ⊎_elim, ℕ, List, [], ◌∷◌, ◌++◌, Some, refl, sym, ◌∙◌, ap, subst, append_assoc, append-nil}
use Rattle.std.proofs.Math.Seq.{take-length}
use Rattle.px_event.specs.declared.entry.Entry.{Entry}
use Rattle.px_event.specs.declared.named.NamedEntry.{NamedEntry}
use Rattle.px_journal.specs.Crash.{WithOrWithout, WithOrWithoutAs, LeavesOnly}
use Rattle.px_journal.specs.Journal.{IsReady, IsReadyAs, IsSynced, with_name}
use Rattle.px_journal.specs.Layout.{Stands, StandsAs}
use Rattle.px_journal.specs.declared.journal.Journal.{Journal}
use Rattle.px_journal.proofs.Going.{goes_none, goes_told}
use Rattle.px_journal.proofs.Moments.{elapses_none, leaves_both, left_before}
use Rattle.px_journal.proofs.Ready.{ready_stands, ready_synced}
use Rattle.px_ports.specs.Moment.{Images}
use Rattle.px_ports.specs.declared.disk.Disk
use Rattle.px_ports.specs.declared.moment.Moment.{Moment}
use Rattle.px_exec.specs.Crash.{AddsAtMost}
use Rattle.px_exec.specs.Executive.{StandsWithin}

-- where no moment passes, what each image now is, each since then is
pub leaves_now : (images : Images) (moments : List Moment) (left : List ℕ → Type 0) → ((image : List ℕ) → images moments image → left image)
    → LeavesOnly images left moments moments
leaves_now images moments left now = record { grows = take-length moments; each = λ image since. now image (left_before images moments moments (elapses_none images moments) image since) }

-- what a synced disk leaves at a crash now
synced_leaves : {D : Type 0} (members : Disk.Ghosts D) (disk : D) (told : List ℕ) (left : List ℕ → Type 0) → IsSynced members disk
    → members.content disk ≡ Some told → left told → LeavesOnly members.images left (members.moments disk) (members.moments disk)
synced_leaves members disk told left synced is now =
    leaves_now members.images (members.moments disk) left (λ image here. subst left (sym (synced told is image here)) now)

-- what a ready journal leaves at a crash now
pub ready_leaves : {D : Type 0} (members : Disk.Ghosts D) (journal : Journal D) (text told : List ℕ) (history : List Entry) (left : List ℕ → Type 0)
    → IsReady members journal text history → members.content journal.disk ≡ Some told → ((bytes : List ℕ) → Stands bytes text history → left bytes)
    → LeavesOnly members.images left (members.moments journal.disk) (members.moments journal.disk)
ready_leaves members journal text told history left ready is to =
    synced_leaves members journal.disk told left (ready_synced _ _ _ _ ready) is (to told (ready_stands _ _ _ _ ready told is))

-- the same in its version, with the names
pub ready_leaves_as : {D : Type 0} (members : Disk.Ghosts D) (journal : Journal D) (text told : List ℕ) (named : List NamedEntry) (left : List ℕ → Type 0)
    → IsReadyAs members journal text named → members.content journal.disk ≡ Some told → ((bytes : List ℕ) → StandsAs journal.version bytes text named → left bytes)
    → LeavesOnly members.images left (members.moments journal.disk) (members.moments journal.disk)
ready_leaves_as members journal text told named left ready is to =
    synced_leaves members journal.disk told left ready.synced is (to told (ready.stands told is))

-- a call that doesn't reach the journal
pub adds_nothing : {F D : Type 0} (members : Disk.Ghosts D) (entry : Entry) (journal : Journal D) → ¬ F → AddsAtMost members F entry journal journal
adds_nothing members entry journal right = record {
  whole_or_not = λ text history ready told is. ready_leaves members journal text told history (WithOrWithout text history entry) ready is (λ bytes stands. inl stands);
  keeps = λ told is t early text front since. since;
  named_or_not = λ text named ready told is.
      ready_leaves_as members journal text told named (WithOrWithoutAs journal.version text named (with_name journal entry)) ready is (λ bytes stands. inl stands);
  keeps_names = λ told is t early version text front since. since;
  version = refl;
  names = refl;
  goes = goes_none members journal.disk right;
}

-- the same failure, told in other words
pub adds_told : {F G D : Type 0} (members : Disk.Ghosts D) {entry : Entry} {old new : Journal D} → AddsAtMost members F entry old new → (F → G) → (G → F)
    → AddsAtMost members G entry old new
adds_told members adds to from = record {
  whole_or_not = adds.whole_or_not;
  keeps = adds.keeps;
  named_or_not = adds.named_or_not;
  keeps_names = adds.keeps_names;
  version = adds.version;
  names = adds.names;
  goes = goes_told members adds.goes to from;
}

-- a front of a history is one of a longer history
within_longer : (text : List ℕ) (first history : List Entry) (entry : Entry) (bytes : List ℕ) → StandsWithin text first history bytes
    → StandsWithin text first (history ++ entry ∷ []) bytes
within_longer text first history entry bytes within = record {
  more = within.more;
  rest = within.rest ++ entry ∷ [];
  front = ap (λ (h : List Entry). h ++ entry ∷ []) within.front ∙ append_assoc (first ++ within.more) within.rest (entry ∷ []);
  stands = within.stands;
}

-- the history with an entry or without it is such a front
either_within : (text : List ℕ) (first history since : List Entry) (entry : Entry) (bytes : List ℕ) → history ≡ first ++ since
    → WithOrWithout text history entry bytes → StandsWithin text first (history ++ entry ∷ []) bytes
either_within text first history since entry bytes grown = ⊎_elim
    (λ without. record {
      more = since;
      rest = entry ∷ [];
      front = ap (λ (h : List Entry). h ++ entry ∷ []) grown;
      stands = subst (Stands bytes text) grown without;
    })
    (λ with.
    let longer : history ++ entry ∷ [] ≡ first ++ (since ++ entry ∷ []) = ap (λ (h : List Entry). h ++ entry ∷ []) grown ∙ append_assoc first since (entry ∷ []) in
    record {
      more = since ++ entry ∷ [];
      rest = [];
      front = longer ∙ sym (append-nil (first ++ (since ++ entry ∷ [])));
      stands = subst (Stands bytes text) longer with;
    })

pub within_at_once : (text : List ℕ) (history : List Entry) (bytes : List ℕ) → Stands bytes text history → StandsWithin text history history bytes
within_at_once text history bytes stands = record {
  more = [];
  rest = [];
  front = sym (append-nil (history ++ []) ∙ append-nil history);
  stands = subst (Stands bytes text) (sym (append-nil history)) stands;
}

-- one call that adds an entry at most, behind those since the opening
pub within_more : (images : Images) (text : List ℕ) (first history since : List Entry) (entry : Entry) (old mid new : List Moment) → history ≡ first ++ since
    → LeavesOnly images (StandsWithin text first history) old mid → LeavesOnly images (WithOrWithout text history entry) mid new
    → LeavesOnly images (StandsWithin text first (history ++ entry ∷ [])) old new
within_more images text first history since entry old mid new grown before after =
    leaves_both images (StandsWithin text first history) (WithOrWithout text history entry) (StandsWithin text first (history ++ entry ∷ [])) old mid new
    (within_longer text first history entry) (λ image. either_within text first history since entry image grown) before after
