use Rattle.std.proofs.Common.{◌≡◌, take, map}
use Rattle.px_core.specs.Expr.{term_of}
use Rattle.px_core.proofs.expr.+copy.Given as goal

abbrev pub invariant-copy_each-loop-expr : goal.invariant-copy_each-loop-expr
invariant-copy_each-loop-expr l = map term_of l.copies.items ≡ map term_of (take l.expr-index l.exprs)
