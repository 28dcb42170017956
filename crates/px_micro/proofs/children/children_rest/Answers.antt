use Rattle.std.proofs.Common.{◌≡◌, ◌<◌, false, true, length, ap, arith, rules}
use Rattle.px_sem.specs.Guards.{is_at_rest}
use Rattle.px_flat.specs.declared.row.Extent.{Extent}
use Rattle.px_flat.specs.Row.{after_last}
use Rattle.px_parts.specs.Parts.{plan_in, record_of}
use Rattle.px_micro.proofs.Families.{end_within}
use Rattle.px_micro.proofs.Resting.{seen_more, all_rest, one_moves}
use Rattle.px_micro.proofs.children.children_rest.Goals as goal

pub returns-then-not-is_at_rest : goal.returns-then-not-is_at_rest
returns-then-not-is_at_rest c =
    let parts = c.args.parts.now in
    let end : c.extent-end.result.end ≡ after_last (plan_in parts) c.args.node =
    ap (λ (extent : Extent). extent.end) c.extent-end.ensures.extent in
    let there : c.children.child < length (plan_in parts) =
    omega (arith, c.children-test.true, end, end_within (plan_in parts) c.args.node c.requires.node) in
    let moves : is_at_rest (record_of parts c.children.child).state ≡ false = search rules in
    one_moves parts c.args.node c.children.child c.requires.node there (omega (arith, c.children-test.true, end))
    c.children.invariant moves

pub children-preserved : goal.children-preserved
children-preserved c =
    let parts = c.args.parts.now in
    let end : c.extent-end.result.end ≡ after_last (plan_in parts) c.args.node =
    ap (λ (extent : Extent). extent.end) c.extent-end.ensures.extent in
    let there : c.children.child < length (plan_in parts) =
    omega (arith, c.children-test.true, end, end_within (plan_in parts) c.args.node c.requires.node) in
    let quiet : is_at_rest (record_of parts c.children.child).state ≡ true = search rules in
    seen_more parts c.args.node c.children.child c.extent-child.result.end c.requires.node there
    (ap (λ (extent : Extent). extent.end) c.extent-child.ensures.extent) c.children.invariant quiet

pub returns : goal.returns
returns c =
    let parts = c.args.parts.now in
    let end : c.extent-end.result.end ≡ after_last (plan_in parts) c.args.node =
    ap (λ (extent : Extent). extent.end) c.extent-end.ensures.extent in
    all_rest parts c.args.node c.children.child c.requires.node (omega (arith, c.children-test.false, end))
    c.children.invariant
