use Rattle.std.proofs.Common.{◌≡◌, ◌+◌, List, length, ap, sym, ◌∙◌, subst, arith}
use Rattle.px_core.specs.Plan.{Site}
use Rattle.px_flat.specs.Names.{plan_in}
use Rattle.px_flat.specs.Numbered.{numbered_node}
use Rattle.px_flat.proofs.Heads.{head_at, length-heads}
use Rattle.px_flat.proofs.InNumbers.{AreNumberedSoFar, numbered_more}
use Rattle.px_flat.proofs.numbering.numbered_nodes.Goals as goal

pub loop-node-preserved : goal.loop-node-preserved
loop-node-preserved c =
    let plan : List Site = plan_in c.args.names.now in
    let i = c.loop-node.node-index in
    subst (λ made. AreNumberedSoFar plan made (i + 1)) (sym c.in_ok-push.ensures.items)
    (numbered_more plan c.loop-node.made.items c.in_ok-numbered_node.field-0 i c.loop-node.invariant
    (c.in_ok-numbered_node.ensures ∙ ap (numbered_node plan)
    (head_at c.args.nodes.now plan i c.node-item.result c.requires c.loop-node-test.true c.node-item.is)))

pub returns : goal.returns
returns c =
    let plan : List Site = plan_in c.args.names.now in
    let all : c.loop-node.node-index ≡ length plan =
    omega (
      arith,
      length-heads c.args.nodes.now plan c.requires,
      c.loop-node-test.false,
      c.loop-node.auto.node-index-end,
    ) in
    record {
      long = c.loop-node.invariant.long ∙ all;
      each = λ node d within. c.loop-node.invariant.each node d (omega (arith, c.loop-node.invariant.long));
    }
