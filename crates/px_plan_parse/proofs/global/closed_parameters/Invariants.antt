use Rattle.std.proofs.Common.{◌-◌, length}
use Rattle.px_lex.specs.declared.sign.Sign.TheVariants as signs
use Rattle.px_syntax.specs.PlanGrammar.{parameter}
use Rattle.px_plan_parse.specs.Start.{NoName}
use Rattle.px_plan_parse.specs.Tail.{Only}
use Rattle.px_plan_parse.proofs.Commas.{HasCommas}
use Rattle.px_plan_parse.proofs.global.closed_parameters.Given as goal

abbrev pub invariant-loop-alloc : goal.invariant-loop-alloc
invariant-loop-alloc l = HasCommas parameter NoName (Only signs.CloseParen) l.tokens l.from l.parameters.items l.at

abbrev pub decreases-loop-alloc : goal.decreases-loop-alloc
decreases-loop-alloc l = length l.tokens - l.at
