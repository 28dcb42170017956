use Rattle.std.proofs.Common.{◌-◌, length, map}
use Rattle.px_lex.specs.declared.sign.Sign.TheVariants as signs
use Rattle.px_syntax.specs.Block.{variable_data}
use Rattle.px_syntax.specs.BlockGrammar.{variable}
use Rattle.px_plan_parse.specs.Tail.{Only, VariableEnded}
use Rattle.px_plan_parse.proofs.Commas.{HasCommas}
use Rattle.px_plan_parse.proofs.variable.variables.Given as goal

abbrev pub invariant-loop-alloc : goal.invariant-loop-alloc
invariant-loop-alloc l =
    HasCommas variable VariableEnded (Only signs.Semicolon) l.tokens l.from (map variable_data l.variables.items) l.at

abbrev pub decreases-loop-alloc : goal.decreases-loop-alloc
decreases-loop-alloc l = length l.tokens - l.at
