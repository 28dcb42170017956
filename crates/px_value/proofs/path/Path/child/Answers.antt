use Rattle.std.proofs.lemmas.Grind.{common_steps}
use Rattle.std.proofs.Common.{◌≡◌, arith}
use Rattle.std.specs.String.{string_bytes}
use Rattle.px_value.specs.Path.{below}
use Rattle.px_value.proofs.Paths.{child_is_path}
use Rattle.px_value.proofs.path.Path.child.Goals as goal

pub invariant_of-result : goal.invariant_of-result
invariant_of-result c =
    let joined : string_bytes c.push_str-3.new.self ≡ below c.args.self.now c.args.name.now = grind (arith, common_steps) in
    rw (c.in_ok-from_string.ensures.ok, joined) (child_is_path c.args.self.now c.args.name.now (rw c.self.view_is at c.self.invariant) c.as_str-4.ensures.name c.requires)
