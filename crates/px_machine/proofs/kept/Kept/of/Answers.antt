use Rattle.std.proofs.Common.{false, length, replicate, ap, sym, ◌∙◌, arith}
use Rattle.std.proofs.lemmas.List.{length-replicate}
use Rattle.px_value.specs.declared.enums.NodeState.TheVariants as states
use Rattle.px_flat.specs.declared.flat.Flat.{Flat}
use Rattle.px_flat.specs.Flat.{plan_of}
use Rattle.px_tally.specs.Tally.{TallyData, nobody}
use Rattle.px_told.specs.Told.{ToldData, silent}
use Rattle.px_parts.specs.Parts.{plan_in}
use Rattle.px_machine.proofs.Places.{parents_long}
use Rattle.px_machine.proofs.Starting.{right_at_first}
use Rattle.px_machine.proofs.kept.Kept.of.Goals as goal

pub new-requires-clause-few : goal.new-requires-clause-few
new-requires-clause-few c =
    omega (
      arith,
      ap length c.in_ok-parents.ensures.parents,
      parents_long (plan_in c.args.parts.now),
      c.nodes-nodes.ensures.count,
      c.nodes-nodes.ensures.few,
    )

pub returns-clause-right : goal.returns-clause-right
returns-clause-right c =
    let plan = plan_in c.args.parts.now in
    let count = c.nodes-nodes.ensures.count in
    let waiting = c.in_ok-vec.ensures.items_if_clones_equal (λ y same. same) in
    let told = c.in_ok-new-2.ensures in
    let busy = c.in_ok-new.ensures in
    let claims = c.in_ok-new-3.ensures in
    let conditions = c.in_ok-new-4.ensures in
    let queue = c.in_ok-all_behind.ensures in
    let parents = c.in_ok-parents.ensures.parents in
    right_at_first c.args.parts.now _ (record {
      conditions = ap (λ (flat : Flat). plan_of flat) conditions.flat;
      states = ap length waiting ∙ length-replicate c.nodes-nodes.result _ ∙ count;
      tree = ap (λ (told : ToldData). told.tree) told ∙ c.in_ok-places.ensures.places;
      parents = ap (λ (tally : TallyData). tally.group_of) busy ∙ parents;
      groups = ap (λ (tally : TallyData). tally.groups) busy ∙ count;
      claims = claims.plan;
      wanting = ap length claims.nobody.wanting ∙ length-replicate (length plan) false;
      holding = ap length claims.nobody.holding ∙ length-replicate (length plan) false;
      cells = queue.cells ∙ count;
      lists = queue.lists;
      few = conditions.few;
    })
    (λ node here. queue.all node (omega (arith, here, count)))
    (waiting ∙ ap (λ n. replicate n states.Waiting) count)
    (told ∙ ap silent (sym (ap (λ (told : ToldData). told.tree) told)))
    (busy ∙ (λ i. nobody (count i) (parents i))) claims.nobody
