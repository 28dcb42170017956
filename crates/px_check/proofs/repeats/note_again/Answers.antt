use Rattle.std.proofs.Common.{List, map, is_some, bytes_eq, ap, ◌∙◌, refl}
use Rattle.std.specs.Borrow.{Bor}
use Rattle.std.proofs.lemmas.Map.Made.{is_some-lookup}
use Rattle.px_syntax.specs.BlockFaults.{repeated, spots}
use Rattle.px_syntax.specs.declared.expr.Identifier.{Identifier}
use Rattle.px_syntax.specs.declared.fault.FaultKind.TheVariants.{Redeclared}
use Rattle.px_check.proofs.Repeating.{name_walked}
use Rattle.px_check.proofs.Walking.{all_walked}
use Rattle.px_check.proofs.repeats.note_again.Goals as goal

pub loop-identifier-preserved : goal.loop-identifier-preserved
loop-identifier-preserved c =
    name_walked c.args.identifiers.now c.loop-identifier.identifier-index c.identifier-item.result c.loop-identifier.before
    c.push.new.self c.is_some-is_again.result _ _ c.loop-identifier-test.true c.identifier-item.is
    (c.is_some-is_again.ensures ∙ ap is_some c.get.ensures ∙ is_some-lookup (bytes_eq c.identifier-item.result.now.name) c.loop-identifier.before)
    c.note_where.ensures c.in_ok-push.ensures.ok
    ∙ c.loop-identifier.invariant

pub returns : goal.returns
returns c =
    all_walked (λ (left : List (Bor Identifier)). repeated bytes_eq Redeclared (map (λ one. one.0) c.loop-identifier.before)
    (spots (map (λ one. one.now) left)))
    c.args.identifiers.now c.loop-identifier.identifier-index c.loop-identifier.found refl c.loop-identifier-test.false
    ∙ c.loop-identifier.invariant
