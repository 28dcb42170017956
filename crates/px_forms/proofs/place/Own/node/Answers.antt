use Rattle.std.proofs.Common.{refl}
use Rattle.px_core.specs.declared.node.CoreNode.{CoreNode}
use Rattle.px_core.specs.declared.node.CoreNode.TheOpen.{CoreNode-F}
use Rattle.px_core.specs.Plan.{head_of}
use Rattle.px_core.proofs.Trees.{node_made}
use Rattle.px_forms.proofs.place.Own.node.Goals as goal

pub returns : goal.returns
returns c =
    let made : CoreNode-F CoreNode = record {
      name = c.args.name;
      kind = c.args.kind;
      conditions = c.args.conditions;
      priority = c.args.self.priority;
      variables = c.args.self.variables;
      body = c.args.self.body;
      children = c.args.children;
    } in
    node_made made (head_of made) refl
