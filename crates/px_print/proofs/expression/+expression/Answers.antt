use Rattle.std.proofs.lemmas.Result.{on_ok_weaker}
use Rattle.px_print.proofs.Walking.{optional_laid}
use Rattle.px_print.proofs.expression.+expression.Goals as goal

pub push_optional-returns : goal.push_optional-returns
push_optional-returns t c =
    on_ok_weaker c.push_all-2.result
    (optional_laid c.args.args.now _ _ _ _ c.is_empty.result c.is_empty.ensures c.if-is_empty.false c.in_ok-push_all.ensures c.in_ok-push_arguments.ensures)
    c.push_all-2.ensures
