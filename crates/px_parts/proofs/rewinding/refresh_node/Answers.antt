use Rattle.std.proofs.Common.{◌≡◌, ◌+◌, ◌∙◌, subst, arith, refl, false}
use Rattle.px_flat.specs.Flat.{plan_of}
use Rattle.px_flat.specs.Layout.{node_cell}
use Rattle.px_value.specs.declared.enums.NodeState.TheVariants.{Inactive}
use Rattle.px_value.specs.declared.value.Value.TheVariants as values
use Rattle.px_parts.specs.Fresh.{AreFreshUpTo}
use Rattle.px_parts.proofs.Refreshing.{node_fresh}
use Rattle.px_parts.proofs.rewinding.refresh_node.Goals as goal

pub returns-clause-fresh : goal.returns-clause-fresh
returns-clause-fresh c =
    let plan = plan_of c.args.flat.now in
    let node = c.args.node in
    let within = c.requires.within in
    let first : node_cell plan node ≡ node_cell plan node + 0 = omega arith in
    let all : node_cell plan node + 5 ≡ node_cell plan (node + 1) = omega arith in
    subst (λ count. AreFreshUpTo plan count c.overwrite-5.new.self.contents) all
    (node_fresh plan node 4 _ (values.Boolean false) _ _ within (omega arith) c.acknowledgement_cell.ensures.cell refl
    (node_fresh plan node 3 _ values.Unknown _ _ within (omega arith) c.handle_cell.ensures.cell refl
    (node_fresh plan node 2 _ values.Unknown _ _ within (omega arith) c.failure_cell.ensures.cell refl
    (node_fresh plan node 1 _ values.Unknown _ _ within (omega arith) c.outcome_cell.ensures.cell refl
    (node_fresh plan node 0 _ (values.State Inactive) _ _ within (omega arith) (c.state_cell.ensures.cell ∙ first) refl
    (subst (λ count. AreFreshUpTo plan count c.args.cells.now.contents) first c.requires.before)
    c.overwrite.ensures.contents) c.overwrite-2.ensures.contents) c.overwrite-3.ensures.contents) c.overwrite-4.ensures.contents)
    c.overwrite-5.ensures.contents)

pub returns-clause-seen : goal.returns-clause-seen
returns-clause-seen c = c.overwrite-5.ensures.news.0 ∙ c.overwrite-4.ensures.news.0 ∙ c.overwrite-3.ensures.news.0
    ∙ c.overwrite-2.ensures.news.0 ∙ c.overwrite.ensures.news.0
