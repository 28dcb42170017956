use Rattle.std.proofs.Common.{◌-◌, length, map}
use Rattle.px_syntax.specs.Block.{item_data}
use Rattle.px_syntax.specs.BlockGrammar.{item}
use Rattle.px_plan_parse.specs.Start.{NoItem}
use Rattle.px_plan_parse.proofs.Parts.{IsFront}
use Rattle.px_plan_parse.proofs.item.items.Given as goal

abbrev pub invariant-loop-alloc : goal.invariant-loop-alloc
invariant-loop-alloc l = IsFront item NoItem l.tokens l.from (map item_data l.items.items) l.at

abbrev pub decreases-loop-alloc : goal.decreases-loop-alloc
decreases-loop-alloc l = length l.tokens - l.at
