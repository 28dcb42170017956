use Rattle.px_value.proofs.Paths.{root_is_path}
use Rattle.px_value.proofs.path.Path.root.Goals as goal

pub invariant_of-result : goal.invariant_of-result
invariant_of-result c =
    rw (c.in_ok-from_str.ensures.ok, c.as_str.ensures.value) (root_is_path c.args.name.now c.as_str.ensures.name)
