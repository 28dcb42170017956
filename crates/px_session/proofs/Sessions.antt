-- From what the calls of a journal leave of a disk to what a session leaves.
use Rattle.std.proofs.Common.{inl, inr, ⊎_elim, ℕ, List, [], ◌++◌, length, refl, sym, ◌∙◌, ap, subst, append_assoc, append-nil}
use Rattle.std.specs.Option.{ForSome}
use Rattle.px_value.proofs.General.{begins_further, told_of}
use Rattle.px_event.specs.declared.entry.Entry.{Entry}
use Rattle.px_exec.specs.Executive.{TellsBytes}
use Rattle.px_journal.specs.Crash.{OldOrNew}
use Rattle.px_journal.specs.Journal.{IsSynced, IsUnwritten, IsUntouched}
use Rattle.px_journal.specs.Layout.{Stands}
use Rattle.px_journal.proofs.Going.{unwritten_then}
use Rattle.px_journal.proofs.Moments.{grows_length, told_since, left_before, leaves_more, leaves_on, elapses_none}
use Rattle.px_ports.specs.declared.disk.Disk
use Rattle.px_sem.specs.Log.{accepted}
use Rattle.px_session.specs.Creating.{LeavesNew}
use Rattle.px_session.specs.Session.{Session, unposted, unsure, IsEnd, IsFront, HasOneHistory, StandsFor}

-- bytes that stand for what a session has at first are a front of it
pub first_front : (session : Session) (bytes : List ℕ) → Stands bytes session.text session.first → IsFront session bytes
first_front session bytes stands = record {
  more = [];
  rest = accepted session.log ++ unsure session.failed;
  front = append_assoc session.first (accepted session.log) (unsure session.failed)
      ∙ ap (λ h. h ++ (accepted session.log ++ unsure session.failed)) (sym (append-nil session.first));
  stands = subst (λ (h : List Entry). Stands bytes session.text h) (sym (append-nil session.first)) stands;
}

module _ {D : Type 0} (members : Disk.Ghosts D) where
  pub untouched_at_once : (disk : D) → IsUntouched members disk disk
  untouched_at_once disk = record {
    content = refl;
    unwritten = record { writes = refl; elapses = elapses_none members.images (members.moments disk) };
  }

  pub unwritten_on : (old mid new : D) → IsUnwritten members old mid → IsUnwritten members mid new → IsUnwritten members old new
  unwritten_on old mid new first second = unwritten_then members first.writes first.elapses second.writes second.elapses

  pub untouched_on : (old mid new : D) → IsUntouched members old mid → IsUntouched members mid new → IsUntouched members old new
  untouched_on old mid new first second = record {
    content = second.content ∙ first.content;
    unwritten = unwritten_on old mid new first.unwritten second.unwritten;
  }

  pub new_read : (text : List ℕ) (old new : D) → IsUntouched members old new → LeavesNew members text old new
  new_read text old new untouched = record {
    grows = ((untouched.unwritten).elapses).grows;
    each = λ told is. record {
      grows = ((untouched.unwritten).elapses).grows;
      each = λ image since. inl (left_before members.images (members.moments old) (members.moments new) (untouched.unwritten).elapses image since);
    };
  }

  -- a call that writes nothing, and then one that makes a journal
  pub new_on : (text : List ℕ) (old mid new : D) → IsUntouched members old mid → LeavesNew members text mid new → LeavesNew members text old new
  new_on text old mid new untouched leaves = record {
    grows = begins_further (members.moments old) (members.moments mid) (members.moments new) ((untouched.unwritten).elapses).grows leaves.grows;
    each = λ told is. leaves_on members.images (OldOrNew (members.images (members.moments old)) text) (members.moments old) (members.moments mid) (members.moments new)
        ((new_read text old mid untouched).each told is)
        (leaves_more members.images (OldOrNew (members.images (members.moments mid)) text) (OldOrNew (members.images (members.moments old)) text)
        (members.moments mid) (members.moments new) older (leaves.each told (untouched.content ∙ is)));
  }
    where
      older : (image : List ℕ) → OldOrNew (members.images (members.moments mid)) text image → OldOrNew (members.images (members.moments old)) text image
      older image = ⊎_elim
          (λ was. inl (left_before members.images (members.moments old) (members.moments mid) (untouched.unwritten).elapses image (told_since members.images (members.moments mid) image (length (members.moments old)) (grows_length (members.moments old) (members.moments mid) ((untouched.unwritten).elapses).grows) was)))
          (λ new. inr new)

  -- a disk that is synced, and what a read gives is an end of the session
  pub synced_end : (session : Session) (disk : D) → IsSynced members disk → ForSome (members.content disk) (IsEnd session)
      → HasOneHistory members session disk
  synced_end session disk synced read = record {
    read = read;
    left = λ told is image left. subst (IsEnd session) (sym (synced told is image left)) (read told is);
  }

  -- each image of a disk that is synced stands for what the disk stands for
  pub images_stand : (disk : D) (text : List ℕ) (first : List Entry) → IsSynced members disk → TellsBytes members disk → StandsFor members disk text first
      → (image : List ℕ) → members.images (members.moments disk) image → Stands image text first
  images_stand disk text first synced tells stands image left =
      let told = told_of (members.content disk) tells in
      subst (λ (bytes : List ℕ). Stands bytes text first) (sym (synced told.0 told.1 image left)) (stands told.0 told.1)

  -- a disk that is synced, and stands for a text and a history
  pub one_history : (disk : D) (text : List ℕ) (history : List Entry) → IsSynced members disk
      → StandsFor members disk text history → HasOneHistory members (unposted text history) disk
  one_history disk text history synced stands =
      synced_end (unposted text history) disk synced (λ told is. inl (subst (Stands told text) (sym (append-nil history)) (stands told is)))
