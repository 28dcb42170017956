use Rattle.std.proofs.Common.{arith, rules}
use Rattle.std.proofs.lemmas.Grind.{common_steps}
use Rattle.std.proofs.lemmas.List.Folds.{length-flat_map-take}
use Rattle.px_event.specs.Bytes.{value_bytes}
use Rattle.px_event.proofs.Appends.{begins_with}
use Rattle.px_event.proofs.bytes.values.push_values.Goals as goal

pub returns-in_err-push_value : goal.returns-in_err-push_value
returns-in_err-push_value c = record {
  ok = search rules;
  succeeds = grind (arith, common_steps, length-flat_map-take value_bytes c.args.values.now c.loop-value.value-index c.value-item.result);
  err = grind (arith, common_steps, begins_with);
  capacity = grind (arith, common_steps);
}
