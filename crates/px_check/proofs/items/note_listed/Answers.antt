use Rattle.std.proofs.Common.{flat_map, refl, ◌∙◌}
use Rattle.px_syntax.specs.BlockFaults.{literal_fault}
use Rattle.px_syntax.specs.ValueType.{named_type}
use Rattle.px_syntax.specs.declared.block.ListedLiteral.{ListedLiteral}
use Rattle.px_check.proofs.Walking.{part_walked, all_walked}
use Rattle.px_check.proofs.items.note_listed.Goals as goal

pub loop-listed-preserved : goal.loop-listed-preserved
loop-listed-preserved c =
    part_walked (flat_map (λ listed. literal_fault (named_type c.args.of_type) listed.value listed.token))
    (λ (listed : ListedLiteral). literal_fault (named_type c.args.of_type) listed.value listed.token) (λ _ _. refl) c.args.values.now c.loop-listed.listed-index c.listed-item.result _ _
    c.loop-listed-test.true c.listed-item.is c.note_literal.ensures
    ∙ c.loop-listed.invariant

pub returns : goal.returns
returns c =
    all_walked (flat_map (λ listed. literal_fault (named_type c.args.of_type) listed.value listed.token))
    c.args.values.now c.loop-listed.listed-index c.loop-listed.found refl c.loop-listed-test.false
    ∙ c.loop-listed.invariant
