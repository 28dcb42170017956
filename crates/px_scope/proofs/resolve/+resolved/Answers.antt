use Rattle.std.proofs.Common.{◌∙◌, map, ap, sym}
use Rattle.std.proofs.lemmas.List.{take_all}
use Rattle.px_syntax.specs.Expr.{term_of as text_of}
use Rattle.px_scope.specs.Resolving.{resolved}
use Rattle.px_scope.proofs.EachResolved.{each_resolved}
use Rattle.px_scope.proofs.resolve.+resolved.Goals as goal

pub resolved_each-returns : goal.resolved_each-returns
resolved_each-returns t c =
    c.loop-expr.invariant
    ∙ ap (map (λ e. resolved c.args.scope.now (text_of e)))
    (take_all c.loop-expr.expr-index c.args.exprs.now c.loop-expr-test.false)
    ∙ sym (each_resolved c.args.scope.now c.args.exprs.now)
