use Rattle.std.proofs.Common.{◌≡◌, ap, sym, ◌∙◌, subst, List, ℕ, ◌++◌, ◌∷◌, [], append_assoc, length, rules}
use Rattle.px_value.proofs.General.{on_err}
use Rattle.px_core.specs.Plan.{Site}
use Rattle.px_event.specs.declared.entry.Entry.{Entry}
use Rattle.px_event.specs.declared.reply.Reply.{Reply}
use Rattle.px_sem.specs.Log.{Log, logged_as, answer, world_after, PostsPart}
use Rattle.px_sem.specs.Stepper.{State, settled_state}
use Rattle.px_sem.proofs.Logs.{IsPosting, counted_after, history_after, posting_more, posting_then, posts_part}
use Rattle.px_sem.proofs.posting.post_each.Goals as goal

-- one entry of the rest is posted too
one_further : (all yielded : List Entry) (entry : Entry) (rest left : List Entry) → all ≡ yielded ++ rest → rest ≡ entry ∷ left
    → all ≡ (yielded ++ entry ∷ []) ++ left
one_further all yielded entry rest left front is =
    front ∙ ap (λ more. yielded ++ more) is ∙ sym (append_assoc yielded (entry ∷ []) left)

-- what a fault behind a post leaves
posts_one_more : (plan : List Site) (limit : ℕ) (all yielded rest left : List Entry) (log : Log) (history : List Entry) (now next : State)
    (count : ℕ) (entry : Entry) (reply : Reply) → IsPosting plan limit yielded log history now count → all ≡ yielded ++ rest
    → rest ≡ entry ∷ left → reply ≡ answer now.nodes limit count now.world entry.event
    → next ≡ settled_state now.nodes (world_after now.nodes now.world entry.event reply) → PostsPart plan limit all next.world
posts_one_more plan limit all yielded rest left log history now next count entry reply so_far front is answers moves =
    posts_part plan limit all (yielded ++ entry ∷ []) left (log ++ logged_as entry reply ∷ []) (history_after history entry reply) next
    (counted_after count reply) (posting_more plan limit yielded log history now next count entry reply so_far answers moves)
    (one_further all yielded entry rest left front is)

pub loop-entry-preserved : goal.loop-entry-preserved
loop-entry-preserved g c =
    let plan = (g.S.Stepper.state c.args.stepper.now).nodes in
    let now : State = g.S.Stepper.state c.loop-entry.stepper in
    let so_far = c.loop-entry.posted in
    let count : c.len-count.result ≡ length so_far.history.items = search rules in
    record {
      posting = posting_then plan c.args.limit c.loop-entry.yielded so_far.log.items c.note.new.self.log.items so_far.history.items
          c.note.new.self.history.items now (g.S.Stepper.state c.post.new.stepper) c.in-Some.entry c.in_ok-reply.reply
          c.loop-entry.invariant.posting
          (c.in_ok-reply.ensures.reply ∙ ap (λ n. answer now.nodes c.args.limit n now.world c.in-Some.entry.event) count)
          c.in_ok-reply.ensures.state c.in_ok-note.ensures.log c.in_ok-note.ensures.history;
      front = one_further c.args.entries.items c.loop-entry.yielded c.in-Some.entry c.loop-entry.entry-iterator.rest.items c.next.new.self.rest.items
          c.loop-entry.invariant.front c.in-Some.ensures.steps.0;
    }

pub returns-in_err-reply-clause-part : goal.returns-in_err-reply-clause-part
returns-in_err-reply-clause-part g c =
    let plan = (g.S.Stepper.state c.args.stepper.now).nodes in
    let before : State = g.S.Stepper.state c.loop-entry.stepper in
    let so_far = c.loop-entry.posted in
    on_err c.from_residual-in_err-reply.result
    (subst (λ (s : State). PostsPart plan c.args.limit c.args.entries.items s.world) (sym c.in_err-reply.ensures.err)
    (posts_part plan c.args.limit c.args.entries.items c.loop-entry.yielded c.loop-entry.entry-iterator.rest.items so_far.log.items
    so_far.history.items before (length so_far.history.items) c.loop-entry.invariant.posting c.loop-entry.invariant.front))

pub returns-in_err-note-clause-part : goal.returns-in_err-note-clause-part
returns-in_err-note-clause-part g c =
    let now : State = g.S.Stepper.state c.loop-entry.stepper in
    let so_far = c.loop-entry.posted in
    let count : c.len-count.result ≡ length so_far.history.items = search rules in
    on_err c.from_residual-in_err-note.result
    (posts_one_more (g.S.Stepper.state c.args.stepper.now).nodes c.args.limit c.args.entries.items c.loop-entry.yielded
    c.loop-entry.entry-iterator.rest.items c.next.new.self.rest.items so_far.log.items so_far.history.items now
    (g.S.Stepper.state c.post.new.stepper) (length so_far.history.items) c.in-Some.entry c.in_ok-reply.reply c.loop-entry.invariant.posting
    c.loop-entry.invariant.front c.in-Some.ensures.steps.0
    (c.in_ok-reply.ensures.reply ∙ ap (λ n. answer now.nodes c.args.limit n now.world c.in-Some.entry.event) count)
    c.in_ok-reply.ensures.state)
