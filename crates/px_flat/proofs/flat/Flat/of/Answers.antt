use Rattle.std.proofs.Common.{ap, ◌∙◌}
use Rattle.px_core.specs.Plan.{tree_of}
use Rattle.px_flat.specs.Laying.{heads_of}
use Rattle.px_flat.specs.Names.{plan_in}
use Rattle.px_flat.proofs.Heads.{heads_are}
use Rattle.px_flat.proofs.flat.Flat.of.Goals as goal

pub of-requires-clause-nodes : goal.of-requires-clause-nodes
of-requires-clause-nodes c = ap heads_of c.deref.ensures.value ∙ c.in_ok-lent.ensures

pub numbered_nodes-requires : goal.numbered_nodes-requires
numbered_nodes-requires c =
    ap heads_of c.deref-2.ensures.value
    ∙ heads_are c.in_ok-lent.lent.items (tree_of c.args.plan.now) (plan_in c.in_ok-names.names) c.in_ok-lent.ensures
    c.in_ok-names.ensures
