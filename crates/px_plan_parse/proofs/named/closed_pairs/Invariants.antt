use Rattle.std.proofs.Common.{◌-◌, length, map}
use Rattle.px_lex.specs.declared.sign.Sign.TheVariants as signs
use Rattle.px_syntax.specs.Block.{pair_data}
use Rattle.px_syntax.specs.BlockGrammar.{pair}
use Rattle.px_plan_parse.specs.Part.{Ended}
use Rattle.px_plan_parse.specs.Tail.{Only}
use Rattle.px_plan_parse.proofs.Commas.{HasCommas}
use Rattle.px_plan_parse.proofs.named.closed_pairs.Given as goal

abbrev pub invariant-loop-alloc : goal.invariant-loop-alloc
invariant-loop-alloc l = HasCommas pair Ended (Only signs.Semicolon) l.tokens l.from (map pair_data l.pairs.items) l.at

abbrev pub decreases-loop-alloc : goal.decreases-loop-alloc
decreases-loop-alloc l = length l.tokens - l.at
