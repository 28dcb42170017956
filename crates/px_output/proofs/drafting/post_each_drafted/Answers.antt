use Rattle.std.proofs.Common.{◌≡◌, ap, sym, ◌∙◌, ◌++◌, ◌∷◌, [], append_assoc, length, rules}
use Rattle.px_sem.specs.Log.{answer}
use Rattle.px_sem.specs.Stepper.{State}
use Rattle.px_output.proofs.Drafted.{drafting_more}
use Rattle.px_output.proofs.drafting.post_each_drafted.Goals as goal

pub loop-entry-preserved : goal.loop-entry-preserved
loop-entry-preserved g c =
    let plan = (g.S.Stepper.state c.args.stepper.now).nodes in
    let now : State = g.S.Stepper.state c.loop-entry.stepper in
    let so_far = c.loop-entry.posted in
    let entry = c.in-Some.entry in
    let count : c.len-count.result ≡ length so_far.history.items = search rules in
    record {
      drafting = drafting_more plan c.args.limit c.loop-entry.yielded so_far.log.items c.note.new.self.log.items so_far.history.items
          c.note.new.self.history.items now (g.S.Stepper.state c.post_drafted.new.stepper) entry c.in_ok-reply.reply c.loop-entry.draft
          c.post_drafted.new.draft c.loop-entry.invariant.drafting
          (c.in_ok-reply.ensures.reply ∙ ap (λ n. answer now.nodes c.args.limit n now.world entry.event) count)
          c.in_ok-reply.ensures.state c.in_ok-reply.ensures.keeps c.in_ok-note.ensures.log c.in_ok-note.ensures.history;
      front = c.loop-entry.invariant.front ∙ ap (λ more. c.loop-entry.yielded ++ more) c.in-Some.ensures.steps.0
          ∙ sym (append_assoc c.loop-entry.yielded (entry ∷ []) c.next.new.self.rest.items);
    }
