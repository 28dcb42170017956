use Rattle.std.proofs.Common.{◌-◌, length, map}
use Rattle.px_syntax.specs.Expr.{term_of}
use Rattle.px_expr_parse.proofs.Arguments.{HasArguments}
use Rattle.px_expr_parse.proofs.Loops.{HasSpine}
use Rattle.px_expr_parse.proofs.Parts.{left}
use Rattle.px_expr_parse.proofs.+expression.Given as goal

abbrev pub decreases-operation::operation : goal.decreases-operation::operation
decreases-operation::operation l = left l.tokens.now l.from 4

abbrev pub decreases-operation::operand : goal.decreases-operation::operand
decreases-operation::operand l = left l.tokens.now l.from 3

abbrev pub decreases-primary::primary : goal.decreases-primary::primary
decreases-primary::primary l = left l.tokens.now l.from 2

abbrev pub decreases-primary::named : goal.decreases-primary::named
decreases-primary::named l = left l.tokens.now l.from 1

abbrev pub decreases-primary::look : goal.decreases-primary::look
decreases-primary::look l = left l.tokens.now l.from 1

abbrev pub decreases-primary::unary_call : goal.decreases-primary::unary_call
decreases-primary::unary_call l = left l.tokens.now l.from 1

abbrev pub decreases-primary::binary_call : goal.decreases-primary::binary_call
decreases-primary::binary_call l = left l.tokens.now l.from 1

abbrev pub decreases-argument::closed : goal.decreases-argument::closed
decreases-argument::closed l = left l.tokens.now l.from 5

abbrev pub decreases-argument::arguments : goal.decreases-argument::arguments
decreases-argument::arguments l = left l.tokens.now l.from 5

abbrev pub decreases-lookup::look_rest : goal.decreases-lookup::look_rest
decreases-lookup::look_rest l = left l.tokens.now l.from 6

abbrev pub invariant-argument::arguments-loop-args : goal.invariant-argument::arguments-loop-args
invariant-argument::arguments-loop-args l =
    HasArguments l.tokens l.from (map term_of l.args.items) l.at

abbrev pub decreases-argument::arguments-loop-args : goal.decreases-argument::arguments-loop-args
decreases-argument::arguments-loop-args l = length l.tokens - l.at

abbrev pub invariant-operation::operation-loop-operator : goal.invariant-operation::operation-loop-operator
invariant-operation::operation-loop-operator l = HasSpine l.floor l.tokens l.from (term_of l.left) l.at

abbrev pub decreases-operation::operation-loop-operator : goal.decreases-operation::operation-loop-operator
decreases-operation::operation-loop-operator l = length l.tokens - l.at
