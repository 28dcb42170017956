use Rattle.std.proofs.Common.{ap, sym, ◌∙◌, subst}
use Rattle.px_flat.specs.Flat.{plan_of}
use Rattle.px_flat.specs.NumberedData.{node_data}
use Rattle.px_flat.specs.Within.{IsNodeWithin}
use Rattle.px_flat.proofs.Tables.{flat_sound, flat_node}
use Rattle.px_flat.proofs.Withins.{node_is_within}
use Rattle.px_flat.proofs.flat.Flat.node.Goals as goal

pub returns-clause-node : goal.returns-clause-node
returns-clause-node c =
    ap node_data c.index.ensures ∙ flat_node c.args.self.now c.args.node c.index.result.now c.requires

pub returns-clause-within : goal.returns-clause-within
returns-clause-within c =
    let flat = c.args.self.now in
    subst (IsNodeWithin (plan_of flat))
    (sym (ap node_data c.index.ensures ∙ flat_node flat c.args.node c.index.result.now c.requires))
    (node_is_within (plan_of flat) c.args.node (flat_sound flat) c.requires)
