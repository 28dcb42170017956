use Rattle.std.proofs.Common.{◌≡◌, take, map}
use Rattle.px_flat.specs.NumberedData.{expr_data}
use Rattle.px_cached.proofs.copies.+copy.Given as goal

abbrev pub invariant-copy_each-loop-expr : goal.invariant-copy_each-loop-expr
invariant-copy_each-loop-expr l = map expr_data l.copies.items ≡ map expr_data (take l.expr-index l.exprs)
