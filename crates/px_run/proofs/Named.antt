-- The names that a session leaves, from what its posts leave of them since the opening.
use Rattle.std.proofs.Common.{◌≡◌, ◌⊎◌, inl, inr, ⊎_elim, ℕ, List, map, length, take, sym, ◌∙◌, ap, subst}
use Rattle.px_event.specs.declared.entry.Entry.{Entry}
use Rattle.px_event.specs.declared.named.NamedEntry.{NamedEntry}
use Rattle.px_exec.specs.Executive.{StandsNamed}
use Rattle.px_exec.specs.Opening.{GivesNames}
use Rattle.px_journal.proofs.Moments.{leaves_on, leaves_more}
use Rattle.px_journal.specs.Journal.{with_name, name_given}
use Rattle.px_journal.specs.declared.journal.Journal.{Journal}
use Rattle.px_journal.specs.declared.version.Version.{Version}
use Rattle.px_ports.specs.Moment.{LeftSince}
use Rattle.px_ports.specs.declared.disk.Disk
use Rattle.px_session.specs.Posting.{LeavesNames as PostsLeaveNames}
use Rattle.px_session.specs.Session.{Session}
use Rattle.px_run.specs.Naming.{Naming, named_by, others_of, HasNames, LeavesNames}

-- a journal of the version that gives these names names entries as the naming does
same_name : {D : Type 0} (journal : Journal D) (naming : Naming) → journal.version ≡ naming.version → GivesNames journal naming.names → (entry : Entry)
    → with_name journal entry ≡ named_by naming entry
same_name journal naming version gives entry =
    ap (λ name. let it : NamedEntry = record { name = name; entry = entry } in it)
    (gives entry.thread ∙ ap (λ (v : Version). name_given v naming.names entry.thread) version)

same_names : {D : Type 0} (journal : Journal D) (naming : Naming) → journal.version ≡ naming.version → GivesNames journal naming.names → (entries : List Entry)
    → map (with_name journal) entries ≡ map (named_by naming) entries
same_names journal naming version gives entries i = map (λ entry. same_name journal naming version gives entry i) entries

module _ {D : Type 0} (members : Disk.Ghosts D) (session : Session) (naming : Naming) where
  has_names : (journal : Journal D) (text : List ℕ) → session.text ≡ text → journal.version ≡ naming.version → GivesNames journal naming.names → (bytes : List ℕ)
      → StandsNamed journal.version text naming.found (map (with_name journal) (others_of session)) bytes → HasNames session naming bytes
  has_names journal text same version gives bytes stands =
      subst (λ (t : List ℕ). StandsNamed naming.version t naming.found (map (named_by naming) (others_of session)) bytes) (sym same)
      (subst (λ (v : Version). StandsNamed v text naming.found (map (named_by naming) (others_of session)) bytes) version
      (subst (λ (since : List NamedEntry). StandsNamed journal.version text naming.found since bytes)
      (same_names journal naming version gives (others_of session)) stands))

  -- since the start of a call, in which the journal was opened behind images of the start and early ones
  pub leaves_names : (IsEarly : List ℕ → Type 0) (text : List ℕ) (old : D) (opened : Journal D) (new : D) → session.text ≡ text
      → opened.version ≡ naming.version → GivesNames opened naming.names
      → take (length (members.moments old)) (members.moments opened.disk) ≡ members.moments old
      → ((image : List ℕ) → LeftSince members.images (members.moments opened.disk) (length (members.moments old)) image
      → members.images (members.moments old) image ⊎ IsEarly image)
      → PostsLeaveNames members text naming.found (others_of session) opened new → LeavesNames members IsEarly session naming old new
  leaves_names IsEarly text old opened new same version gives grows early posts = record {
    read = λ told here. has_names opened text same version gives told (posts.read told here);
    each = leaves_on members.images _ (members.moments old) (members.moments opened.disk) (members.moments new)
        (record { grows = grows; each = λ image sooner. ⊎_elim (λ was. inl was) (λ is. inr (inl is)) (early image sooner) })
        (leaves_more members.images (StandsNamed opened.version text naming.found (map (with_name opened) (others_of session))) _ (members.moments opened.disk) (members.moments new)
        (λ image stands. inr (inr (has_names opened text same version gives image stands))) posts.since);
  }
