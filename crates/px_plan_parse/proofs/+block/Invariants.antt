use Rattle.std.proofs.Common.{◌-◌, length, map}
use Rattle.px_lex.specs.declared.sign.Sign.TheVariants as signs
use Rattle.px_syntax.specs.Block.{action_of, guarded_of}
use Rattle.px_syntax.specs.BlockGrammar.{action}
use Rattle.px_expr_parse.proofs.Parts.{left}
use Rattle.px_plan_parse.specs.Start.{NoElseIf}
use Rattle.px_plan_parse.specs.Tail.{Only}
use Rattle.px_plan_parse.proofs.Bodies.{one_else_if}
use Rattle.px_plan_parse.proofs.Parts.{IsFront}
use Rattle.px_plan_parse.proofs.+block.Given as goal

abbrev pub decreases-block::block : goal.decreases-block::block
decreases-block::block l = left l.tokens.now l.from 1

abbrev pub decreases-block::actions : goal.decreases-block::actions
decreases-block::actions l = left l.tokens.now l.from 4

abbrev pub decreases-action::action : goal.decreases-action::action
decreases-action::action l = left l.tokens.now l.from 3

abbrev pub decreases-body::body : goal.decreases-body::body
decreases-body::body l = left l.tokens.now l.from 2

abbrev pub decreases-body::conditional : goal.decreases-body::conditional
decreases-body::conditional l = left l.tokens.now l.from 1

abbrev pub decreases-body::counted : goal.decreases-body::counted
decreases-body::counted l = left l.tokens.now l.from 1

abbrev pub decreases-branch::branch : goal.decreases-branch::branch
decreases-branch::branch l = left l.tokens.now l.from 2

abbrev pub decreases-branch::guarded : goal.decreases-branch::guarded
decreases-branch::guarded l = left l.tokens.now l.from 3

abbrev pub decreases-branch::closed_branch : goal.decreases-branch::closed_branch
decreases-branch::closed_branch l = left l.tokens.now l.from 3

abbrev pub decreases-branch::else_ifs : goal.decreases-branch::else_ifs
decreases-branch::else_ifs l = left l.tokens.now l.from 4

abbrev pub decreases-branch::otherwise : goal.decreases-branch::otherwise
decreases-branch::otherwise l = left l.tokens.now l.from 3

abbrev pub invariant-block::actions-loop-alloc : goal.invariant-block::actions-loop-alloc
invariant-block::actions-loop-alloc l =
    IsFront action (Only signs.CloseBrace) l.tokens l.from (map action_of l.actions.items) l.at

abbrev pub decreases-block::actions-loop-alloc : goal.decreases-block::actions-loop-alloc
decreases-block::actions-loop-alloc l = length l.tokens - l.at

abbrev pub invariant-branch::else_ifs-loop-alloc : goal.invariant-branch::else_ifs-loop-alloc
invariant-branch::else_ifs-loop-alloc l = IsFront one_else_if NoElseIf l.tokens l.from (map guarded_of l.others.items) l.at

abbrev pub decreases-branch::else_ifs-loop-alloc : goal.decreases-branch::else_ifs-loop-alloc
decreases-branch::else_ifs-loop-alloc l = length l.tokens - l.at
