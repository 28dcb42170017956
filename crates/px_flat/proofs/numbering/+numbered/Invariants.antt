use Rattle.std.proofs.Common.{◌≡◌, map, take}
use Rattle.px_core.specs.Expr.{term_of}
use Rattle.px_flat.specs.Names.{plan_in}
use Rattle.px_flat.specs.Numbered.{numbered}
use Rattle.px_flat.specs.NumberedData.{expr_data}
use Rattle.px_flat.proofs.numbering.+numbered.Given as goal

abbrev pub invariant-each_numbered-loop-expr : goal.invariant-each_numbered-loop-expr
invariant-each_numbered-loop-expr l = map expr_data l.made.items
    ≡ map (numbered (plan_in l.names)) (map term_of (take l.expr-index l.exprs))
