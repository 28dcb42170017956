use Rattle.std.proofs.Common.{◌≡◌, fold, take}
use Rattle.std.specs.List.{flat_map}
use Rattle.px_core.specs.Expr.{term_of}
use Rattle.px_flat.specs.Lookups.{with_name, lookups_in}
use Rattle.px_flat.proofs.lookups.+add.Given as goal

abbrev pub invariant-add_each-loop-expr : goal.invariant-add_each-loop-expr
invariant-add_each-loop-expr l = l.names.keys
    ≡ fold with_name l.fn.names.keys (flat_map (λ e. lookups_in (term_of e)) (take l.expr-index l.exprs))
