use Rattle.std.proofs.Common.{◌-◌, length}
use Rattle.px_lex.specs.declared.sign.Sign.TheVariants as signs
use Rattle.px_syntax.specs.BlockGrammar.{listed}
use Rattle.px_plan_parse.specs.Tail.{Only}
use Rattle.px_plan_parse.proofs.Parts.{IsFront}
use Rattle.px_plan_parse.proofs.literal.listed_values.Given as goal

abbrev pub invariant-loop-alloc : goal.invariant-loop-alloc
invariant-loop-alloc l = IsFront listed (Only signs.CloseParen) l.tokens l.from l.values.items l.at

abbrev pub decreases-loop-alloc : goal.decreases-loop-alloc
decreases-loop-alloc l = length l.tokens - l.at
