use Rattle.std.proofs.Common.{◌≡◌, map, take}
use Rattle.std.specs.List.{All}
use Rattle.px_flat.specs.Flat.{plan_of}
use Rattle.px_flat.specs.Numbered.{numbered_value}
use Rattle.px_flat.specs.NumberedData.{expr_data}
use Rattle.px_flat.specs.Within.{IsWithin}
use Rattle.px_eval.proofs.values.+lent_value.Given as goal

abbrev pub invariant-each_value-loop-expr : goal.invariant-each_value-loop-expr
invariant-each_value-loop-expr l =
    (l.values.items ≡ map (numbered_value (plan_of l.flat) l.cells.contents.values l.reports.reports)
    (map expr_data (take l.expr-index l.exprs)))
    × All (λ expr. IsWithin (plan_of l.flat) (expr_data expr)) l.exprs
