use Rattle.std.proofs.Common.{◌≡◌, arith}
use Rattle.std.proofs.lemmas.Grind.{common_steps}
use Rattle.std.specs.String.{string_bytes}
use Rattle.px_value.specs.Name.{generated_name}
use Rattle.px_value.proofs.Names.{generated_is_name}
use Rattle.px_value.proofs.name.Name.generated.Goals as goal

pub invariant_of-result : goal.invariant_of-result
invariant_of-result c =
    let spelled : string_bytes c.push_str-2.new.self ≡ generated_name c.args.k = grind (arith, common_steps) in
    rw (c.in_ok-from_string.ensures.ok, spelled) (generated_is_name c.args.k (omega arith))
