use Rattle.std.proofs.Common.{ap, ◌∙◌, map}
use Rattle.px_core.specs.declared.node.CoreNode.TheViews.{out-CoreNode}
use Rattle.px_core.specs.Plan.{Head, condition_terms, variable_data}
use Rattle.px_flat.proofs.laying.head_at.Goals as goal

pub returns-clause-head : goal.returns-clause-head
returns-clause-head c = λ i.
    let node = out-CoreNode c.args.node.now in
    let head : Head = record {
      name = c.in_ok-copy.ensures.copy i;
      kind = node.kind;
      conditions = condition_terms (c.of.ensures i);
      priority = node.priority;
      variables = (c.in_ok-copy_each.ensures ∙ ap (map variable_data) c.deref.ensures.value) i;
      body = c.in_ok-copy-2.ensures i;
    } in
    head
