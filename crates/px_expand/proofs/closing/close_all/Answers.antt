use Rattle.std.proofs.Common.{ap, ◌∙◌, drop, length}
use Rattle.px_forms.specs.Placed.{tree_in}
use Rattle.px_expand.proofs.Chains.{left_again, closed_again}
use Rattle.px_expand.proofs.closing.close_all.Goals as goal

pub loop-opened-preserved : goal.loop-opened-preserved
loop-opened-preserved c =
    let outer = c.loop-opened.outer.items in
    let rest = c.pop.new.self.items in
    let opened = c.in-Some.opened in
    record {
      scope =
          ap (drop (length rest)) c.leave.ensures
          ∙ left_again outer rest opened c.loop-opened.scope c.in-Some.ensures.items
          ∙ c.loop-opened.invariant.scope;
      node =
          closed_again outer rest opened (tree_in c.loop-opened.node) (tree_in c.in_ok-node.node)
          c.in-Some.ensures.items c.in_ok-node.ensures
          ∙ c.loop-opened.invariant.node;
    }
