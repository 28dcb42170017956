use Rattle.std.proofs.Common.{◌≡◌, map, take}
use Rattle.px_syntax.specs.Expr.{term_of as text_of}
use Rattle.px_core.specs.Expr.{term_of}
use Rattle.px_scope.specs.Resolving.{resolved}
use Rattle.px_scope.proofs.resolve.+resolved.Given as goal

abbrev pub invariant-resolved_each-loop-expr : goal.invariant-resolved_each-loop-expr
invariant-resolved_each-loop-expr l =
    map term_of l.made.items ≡ map (λ e. resolved l.scope (text_of e)) (take l.expr-index l.exprs)
