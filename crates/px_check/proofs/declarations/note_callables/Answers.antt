use Rattle.std.proofs.Common.{List, map, ap, ◌∙◌}
use Rattle.std.specs.Borrow.{Bor}
use Rattle.px_syntax.specs.BlockFaults.{redeclared}
use Rattle.px_syntax.specs.declared.expr.Identifier.{Identifier}
use Rattle.px_check.specs.Found.{noted}
use Rattle.px_check.proofs.Noting.{noted_then}
use Rattle.px_check.proofs.declarations.note_callables.Goals as goal

pub returns : goal.returns
returns c =
    noted_then _ c.note_redeclared.new.found _ _ _
    (c.in_ok-note_redeclared.ensures
    ∙ ap (λ (names : List (Bor Identifier)). noted c.args.found.now (redeclared (map (λ name. name.now) names)))
    c.deref.ensures.value
    ∙ ap (λ names. noted c.args.found.now (redeclared names)) c.in_ok-names_of.ensures)
    c.note_parameters.ensures
