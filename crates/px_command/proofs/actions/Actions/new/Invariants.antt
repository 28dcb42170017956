use Rattle.std.proofs.Common.{◌≡◌, replicate}
use Rattle.px_flat.specs.declared.act.Act.TheVariants as acts
use Rattle.px_command.proofs.actions.Actions.new.Given as goal

abbrev pub invariant-loop : goal.invariant-loop
invariant-loop l = l.acts.items ≡ replicate l.counter acts.Idle
