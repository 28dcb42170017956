use Rattle.std.proofs.Common.{◌≡◌, fold, take}
use Rattle.std.specs.List.{flat_map}
use Rattle.px_core.specs.Expr.{term_of}
use Rattle.px_sem.specs.Tolerances.{tolerances_in, with_tolerance}
use Rattle.px_flat.proofs.tolerances.+add.Given as goal

abbrev pub invariant-add_each-loop-expr : goal.invariant-add_each-loop-expr
invariant-add_each-loop-expr l = l.tolerances.items
    ≡ fold with_tolerance l.fn.tolerances.items (flat_map (λ e. tolerances_in (term_of e)) (take l.expr-index l.exprs))
