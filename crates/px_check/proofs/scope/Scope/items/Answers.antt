use Rattle.std.proofs.Common.{List, map, ap, ◌∙◌}
use Rattle.std.specs.Borrow.{Bor}
use Rattle.px_syntax.specs.BlockFaults.{redeclared}
use Rattle.px_syntax.specs.declared.expr.Identifier.{Identifier}
use Rattle.px_check.specs.Found.{noted}
use Rattle.px_check.proofs.Noting.{noted_then}
use Rattle.px_check.proofs.scope.Scope.items.Goals as goal

pub returns : goal.returns
returns c =
    noted_then _ c.note_repeated.new.found _ _ _
    (noted_then _ c.note_redeclared.new.found _ _ _
    (c.in_ok-note_redeclared.ensures
    ∙ ap (λ (identifiers : List (Bor Identifier)). noted c.args.found.now (redeclared (map (λ one. one.now) identifiers)))
    c.deref.ensures.value
    ∙ ap (λ identifiers. noted c.args.found.now (redeclared identifiers)) c.in_ok-identifiers_in.ensures)
    c.in_ok-note_repeated.ensures)
    c.each_item.ensures
