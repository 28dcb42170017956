use Rattle.std.proofs.Common.{sym, ◌∙◌, arith}
use Rattle.px_syntax.specs.Plan.{tree_of_surface}
use Rattle.px_expand.proofs.Verdicts.{refused, counted, within}
use Rattle.px_expand.proofs.plan.check_size.Goals as goal
use Rattle.px_expand.proofs.plan.check_size.Goals.{then-nodes-gt-NODE_LIMIT-via-then-nodes-gt-NODE_LIMIT, then-nodes-gt-NODE_LIMIT-via-else-nodes-gt-NODE_LIMIT+then-not-has_short_paths}

pub returns-then-nodes-gt-NODE_LIMIT-clause-fault : goal.returns-then-nodes-gt-NODE_LIMIT-clause-fault
returns-then-nodes-gt-NODE_LIMIT-clause-fault c =
    refused (tree_of_surface c.args.tree.now) c.block_nodes-nodes.result c.block_nodes-nodes.ensures
    (λ few. elim c.then-nodes-gt-NODE_LIMIT.branch [
      | then-nodes-gt-NODE_LIMIT-via-then-nodes-gt-NODE_LIMIT w ↦ absurd (omega (arith, few, w.if-nodes-gt-NODE_LIMIT.true))
      | then-nodes-gt-NODE_LIMIT-via-else-nodes-gt-NODE_LIMIT+then-not-has_short_paths w ↦
          sym w.has_short_paths.ensures ∙ w.if-not-has_short_paths.true
    ])

pub returns-clause-nodes : goal.returns-clause-nodes
returns-clause-nodes c =
    counted (tree_of_surface c.args.tree.now) c.block_nodes-nodes.result c.block_nodes-nodes.ensures
    (omega (arith, c.if-nodes-gt-NODE_LIMIT.false))

pub returns-clause-within : goal.returns-clause-within
returns-clause-within c =
    within (tree_of_surface c.args.tree.now) c.block_nodes-nodes.result c.block_nodes-nodes.ensures
    (omega (arith, c.if-nodes-gt-NODE_LIMIT.false)) (sym c.has_short_paths.ensures ∙ c.if-not-has_short_paths.false)
