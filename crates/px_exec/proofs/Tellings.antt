-- What a post does, by what the stepper, the journal, the history and the log do.
use Rattle.std.proofs.Common.{◌≡◌, ◌<◌, ◌+◌, ◌^◌, ℕ, List, [], ◌∷◌, ◌++◌, Option, Some, None, IsTrue, IsFalse, length, refl, sym, ◌∙◌, ap, subst, arith, length-append}
use Rattle.std.specs.Prelude.{Err}
use Rattle.std.specs.Option.{option_map}
use Rattle.px_value.proofs.General.{option_map_none, option_map_some}
use Rattle.px_event.specs.Fit.{is_fit_entry}
use Rattle.px_event.specs.declared.entry.Entry.{Entry}
use Rattle.px_event.specs.declared.named.NamedEntry.{NamedEntry}
use Rattle.px_event.specs.declared.reply.Reply.{Reply}
use Rattle.px_event.specs.declared.reply.Reply.TheVariants as replies
use Rattle.px_journal.specs.Journal.{IsReady, IsReadyAs, with_name}
use Rattle.px_journal.specs.declared.journal.Journal.{Journal}
use Rattle.px_ports.specs.declared.disk.Disk
use Rattle.px_sem.specs.Log.{Log, is_accepted, accepted, answer, world_after}
use Rattle.px_sem.specs.Stepper.{State, settled_state}
use Rattle.px_sem.specs.World.{standing_of}
use Rattle.px_sem.specs.declared.standing.Standing.{Standing}
use Rattle.px_sem.specs.declared.stepper.Stepper
use Rattle.px_exec.specs.declared.closing.Failed.{Failed}
use Rattle.px_exec.specs.declared.fault.PostFault.TheVariants as faults
use Rattle.px_exec.specs.Answers.{answer_now, answered, logged, Replies, Fails, RanOut, Posts}
use Rattle.px_exec.specs.Crash.{AddsAtMost}
use Rattle.px_exec.specs.Executive.{Executive, Keeps, plan_of, world_of}
use Rattle.px_exec.proofs.Naming.{with_parts}
use Rattle.px_exec.proofs.Keeping.{open_of, keeps_replied, keeps_failed}

-- which append had failed, by its count of faults
pub unfailed_of : (failed : Option Failed) (count : Option ℕ) → count ≡ option_map (λ f. f.faults) failed → count ≡ None → failed ≡ None
unfailed_of failed count is none = option_map_none (λ (f : Failed). f.faults) failed (sym is ∙ none)

pub failed_of : (failed : Option Failed) (count : Option ℕ) (n : ℕ) → count ≡ option_map (λ f. f.faults) failed → count ≡ Some n
    → (entry : Entry) × (failed ≡ Some (record { entry = entry; faults = n }))
failed_of failed count n is some =
    let found = option_map_some (λ (f : Failed). f.faults) failed n (sym is ∙ some) in
    (found.0.entry, found.1 ∙ ap (λ k. let f : Option Failed = Some (record { entry = found.0.entry; faults = k }) in f) found.2)

pub closes_with : (failed : Option Failed) (a b : Entry) (m n : ℕ) → failed ≡ Some (record { entry = a; faults = m }) → a ≡ b → m ≡ n
    → failed ≡ Some (record { entry = b; faults = n })
closes_with failed a b m n is entries counts =
    is ∙ ap (λ e. let f : Option Failed = Some (record { entry = e; faults = m }) in f) entries
    ∙ ap (λ k. let f : Option Failed = Some (record { entry = b; faults = k }) in f) counts

pub grows_from : {T : Type 0} (now mid old more : List T) → now ≡ mid ++ more → mid ≡ old → now ≡ old ++ more
grows_from now mid old more is same = is ∙ ap (λ l. l ++ more) same

pub length_more : {T : Type 0} (items old : List T) (item : T) (n : ℕ) → items ≡ old ++ item ∷ [] → length old + 1 < n → length items < n
length_more items old item n is small = omega (arith, ap length is, length-append old (item ∷ []), small)

-- a reply is no fault of the disk
pub answered_otherwise : (reply : Reply) (limit : ℕ) (standing : Standing) → answered reply limit standing ≡ Err faults.DiskFault → ⊥
answered_otherwise (replies.Accepted position) limit standing same = absurd (cc)
answered_otherwise replies.PlanFinished limit standing same = absurd (cc)
answered_otherwise replies.Full limit standing same = absurd (cc)
answered_otherwise replies.Runaway limit standing same = absurd (cc)

module _ {S D : Type 0} (runs : Stepper.Ghosts S) (members : Disk.Ghosts D) (old : Executive S D) (keeps : Keeps runs members old) where
  nodes_are : (runs.state old.stepper).nodes ≡ plan_of runs old
  nodes_are = ap (λ (s : State). s.nodes) keeps.settled

  pub at_rest : (runs.state old.stepper).pending ≡ (settled_state (plan_of runs old) (world_of runs old)).pending
  at_rest = ap (λ (s : State). s.pending) keeps.settled

  module _ (unfailed : old.failed ≡ None) where
    pub ready_now : IsReady members old.journal (keeps.text.0) old.history
    ready_now = (open_of runs members old keeps unfailed).stands (keeps.text.0) (keeps.text.1)

    module _ (entry : Entry) (stepper : S) (journal : Journal D) (count : ℕ) (counts : count ≡ length old.history) where
      due_now : (reply : Reply) → reply ≡ answer (runs.state old.stepper).nodes old.opening.limit count (runs.state old.stepper).world entry.event
          → reply ≡ answer_now runs old entry
      due_now reply due =
          due ∙ ap (λ nodes. answer nodes old.opening.limit count (world_of runs old) entry.event) nodes_are
          ∙ ap (λ n. answer (plan_of runs old) old.opening.limit n (world_of runs old) entry.event) counts

      -- ---- a reply

      module _ (history : List Entry) (log : Log) (reply : Reply)
          (due : reply ≡ answer (runs.state old.stepper).nodes old.opening.limit count (runs.state old.stepper).world entry.event)
          (moved : runs.state stepper ≡ settled_state (runs.state old.stepper).nodes (world_after (runs.state old.stepper).nodes (runs.state old.stepper).world entry.event reply))
          (logs : log ≡ old.log ++ logged entry reply ∷ []) (grows : history ≡ old.history ++ accepted (logged entry reply ∷ []))
          (kept : IsTrue (is_accepted reply) → (text : List ℕ) (h : List Entry) → IsReady members old.journal text h → IsReady members journal text (h ++ entry ∷ []))
          (still : IsFalse (is_accepted reply) → journal ≡ old.journal) where
        state_now : runs.state stepper ≡ settled_state (plan_of runs old) (world_after (plan_of runs old) (world_of runs old) entry.event reply)
        state_now = moved ∙ ap (λ nodes. settled_state nodes (world_after nodes (world_of runs old) entry.event reply)) nodes_are

        pub keeps_reply : {F : Type 0} → length log < 2 ^ 32
            → (IsTrue (is_accepted reply) → (text : List ℕ) (named : List NamedEntry) → IsReadyAs members old.journal text named
            → IsReadyAs members journal text (named ++ with_name old.journal entry ∷ []))
            → ¬ F → AddsAtMost members F entry old.journal journal → Keeps runs members (with_parts old stepper journal history log old.failed)
        keeps_reply few named right adds = subst (λ (f : Option Failed). Keeps runs members (with_parts old stepper journal history log f)) (sym unfailed)
            (keeps_replied runs members old stepper journal history log entry reply keeps unfailed (due_now reply due) logs grows few state_now kept named still right adds)

        replies_so : Replies runs old (with_parts old stepper journal history log old.failed) entry reply
        replies_so = record {
          was_open = unfailed;
          due = due_now reply due;
          log = logs;
          history = grows;
          state = state_now;
          opening = refl;
          is_open = unfailed;
        }

        pub posts_reply : (standing : Standing) → standing ≡ standing_of (runs.state stepper).nodes (runs.state stepper).world
            → Posts runs members old (with_parts old stepper journal history log old.failed) entry (answered reply old.opening.limit standing)
        posts_reply standing stands = by reply refl
          where
            nodes_now : (runs.state stepper).nodes ≡ plan_of runs old
            nodes_now = ap (λ (s : State). s.nodes) state_now

            by : (r : Reply) → reply ≡ r → Posts runs members old (with_parts old stepper journal history log old.failed) entry (answered r old.opening.limit standing)
            by (replies.Accepted position) is = record {
              replies = subst (Replies runs old (with_parts old stepper journal history log old.failed) entry) is replies_so;
              standing = stands ∙ ap (λ nodes. standing_of nodes (runs.state stepper).world) nodes_now;
              kept = λ text was. kept (ap is_accepted is) text old.history ((open_of runs members old keeps unfailed).stands text was);
            }
            by replies.PlanFinished is = record {
              replies = subst (Replies runs old (with_parts old stepper journal history log old.failed) entry) is replies_so;
              journal = still (ap is_accepted is);
            }
            by replies.Full is = (
              record {
                replies = subst (Replies runs old (with_parts old stepper journal history log old.failed) entry) is replies_so;
                journal = still (ap is_accepted is);
              },
              refl,
            )
            by replies.Runaway is = record {
              replies = subst (Replies runs old (with_parts old stepper journal history log old.failed) entry) is replies_so;
              journal = still (ap is_accepted is);
            }

      -- ---- a failed append

      module _ (history : List Entry) (log : Log) (failed : Option Failed) (same_history : history ≡ old.history) (same_log : log ≡ old.log)
          (closes : failed ≡ Some (record { entry = entry; faults = members.faults journal.disk }))
          (due : answer (runs.state old.stepper).nodes old.opening.limit count (runs.state old.stepper).world entry.event ≡ replies.Accepted (count + 1))
          (same : runs.state stepper ≡ runs.state old.stepper) {F : Type 0} (failing : F) (adds : AddsAtMost members F entry old.journal journal) where
        due_then : answer_now runs old entry ≡ replies.Accepted (length old.history + 1)
        due_then = sym (due_now (replies.Accepted (count + 1)) (sym due)) ∙ ap (λ n. replies.Accepted (n + 1)) counts

        pub keeps_fault : IsTrue (is_fit_entry entry) → Keeps runs members (with_parts old stepper journal history log failed)
        keeps_fault fit =
            subst (λ (f : Option Failed). Keeps runs members (with_parts old stepper journal history log f)) (sym closes)
            (subst (λ (l : Log). Keeps runs members (with_parts old stepper journal history l (Some (record { entry = entry; faults = members.faults journal.disk })))) (sym same_log)
            (subst (λ (h : List Entry). Keeps runs members (with_parts old stepper journal h old.log (Some (record { entry = entry; faults = members.faults journal.disk })))) (sym same_history)
            (keeps_failed runs members old stepper journal entry _ keeps unfailed fit due_then same failing adds)))

        pub posts_fault : Fails runs members old (with_parts old stepper journal history log failed) entry
        posts_fault = record {
          unchanged = record { history = same_history; log = same_log; state = same; opening = refl };
          was_open = unfailed;
          due = due_then;
          rose = adds.goes.faults.rose failing;
          failed = closes;
        }

    -- ---- want of memory

    module _ (stepper : S) (journal : Journal D) (history : List Entry) (log : Log) (same : runs.state stepper ≡ runs.state old.stepper)
        (still : journal ≡ old.journal) (same_history : history ≡ old.history) (same_log : log ≡ old.log) where
      pub posts_out : RanOut runs old (with_parts old stepper journal history log old.failed)
      posts_out = record {
        unchanged = record { history = same_history; log = same_log; state = same; opening = refl };
        was_open = unfailed;
        is_open = unfailed;
        journal = still;
      }
