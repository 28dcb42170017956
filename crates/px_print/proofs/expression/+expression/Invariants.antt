use Rattle.std.proofs.Common.{◌≡◌, ◌++◌, map, drop}
use Rattle.px_syntax.specs.Expr.{in_turn, term_of}
use Rattle.px_print.specs.ExprLayout.{arguments_text}
use Rattle.px_print.proofs.Walking.{text_from}
use Rattle.px_print.proofs.expression.+expression.Given as goal

abbrev pub invariant-push_arguments-loop-place : goal.invariant-push_arguments-loop-place
invariant-push_arguments-loop-place l =
    l.out.items ++ text_from l.place (in_turn (map term_of (drop l.place l.args)))
    ≡ l.initial.out.items ++ arguments_text (in_turn (map term_of l.args))
