use Rattle.std.proofs.Common.{◌≡◌, length}
use Rattle.px_machine.specs.Queue.{behind_in}
use Rattle.px_machine.specs.Right.{IsRight}
use Rattle.px_machine.proofs.catching_up.catch_up.Given as goal

abbrev pub invariant-behind : goal.invariant-behind
invariant-behind l = record {
  right : IsRight l.parts l.kept;
  conditions : l.kept.conditions ≡ l.initial.kept.conditions;
}

abbrev pub decreases-behind : goal.decreases-behind
decreases-behind l = length (behind_in l.kept.queue)
