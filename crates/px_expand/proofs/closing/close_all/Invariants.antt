use Rattle.std.proofs.Common.{◌≡◌, drop, length, vec_len}
use Rattle.px_forms.specs.Placed.{tree_in}
use Rattle.px_expand.specs.Chain.{all_closed}
use Rattle.px_expand.proofs.closing.close_all.Given as goal

abbrev pub invariant-loop-opened : goal.invariant-loop-opened
invariant-loop-opened l = record {
  scope : drop (length l.outer.items) l.scope ≡ drop (length l.fn.outer.items) l.fn.scope;
  node : all_closed l.outer.items (tree_in l.node) ≡ all_closed l.fn.outer.items (tree_in l.fn.node);
}

abbrev pub decreases-loop-opened : goal.decreases-loop-opened
decreases-loop-opened l = vec_len l.outer
