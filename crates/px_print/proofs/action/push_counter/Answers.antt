use Rattle.std.proofs.Common.{◌≡◌, rules}
use Rattle.std.specs.Fmt.{signed_decimal}
use Rattle.std.proofs.lemmas.Result.{on_ok_weaker}
use Rattle.px_print.proofs.Laid.{counter_laid}
use Rattle.px_print.proofs.action.push_counter.Goals as goal

pub returns : goal.returns
returns c =
    let digits : c.format.result.now ≡ signed_decimal c.args.first = search rules in
    on_ok_weaker c.push_all-4.result
    (counter_laid _ _ _ _ _ _ _ _ _ _ _ _ _ c.as_str.ensures.value digits c.in_ok-push_all.ensures
    c.in_ok-push_all-2.ensures c.in_ok-push_expression.ensures c.in_ok-push_all-3.ensures c.in_ok-push_expression-2.ensures)
    c.push_all-4.ensures
