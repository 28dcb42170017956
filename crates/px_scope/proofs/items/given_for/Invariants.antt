use Rattle.std.proofs.Common.{◌≡◌, map, length}
use Rattle.px_syntax.specs.Block.{item_data}
use Rattle.px_scope.specs.Items.{given_for}
use Rattle.px_scope.proofs.items.given_for.Given as goal

abbrev pub invariant-loop-item : goal.invariant-loop-item
invariant-loop-item l =
    given_for l.scope l.condition (map item_data l.items) ≡ given_for l.scope l.condition (map item_data l.fn.items)

abbrev pub decreases-loop-item : goal.decreases-loop-item
decreases-loop-item l = length l.items
