use Rattle.std.proofs.Common.{◌≡◌, ◌++◌}
use Rattle.px_output.proofs.Drafted.{IsDrafting}
use Rattle.px_output.proofs.drafting.post_each_drafted.Given as goal

abbrev pub invariant-loop-entry : goal.invariant-loop-entry
invariant-loop-entry g l = record {
  drafting : IsDrafting (g.S.Stepper.state l.fn.stepper).nodes l.limit l.yielded l.posted.log.items l.posted.history.items
      (g.S.Stepper.state l.stepper) l.draft;
  front : l.fn.entries.items ≡ l.yielded ++ l.entry-iterator.rest.items;
}
