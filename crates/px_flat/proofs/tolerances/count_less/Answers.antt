use Rattle.std.proofs.Common.{rules, ◌<◌, take, get_or, All, sym, subst}
use Rattle.std.proofs.lemmas.List.{take_more}
use Rattle.std.proofs.lemmas.List.Elements.{All-push}
use Rattle.px_flat.proofs.Tolerating.{IsLess}
use Rattle.px_flat.proofs.tolerances.count_less.Goals as goal

pub loop-at-preserved : goal.loop-at-preserved
loop-at-preserved c =
    let tolerances = c.args.tolerances.now in
    let at = c.loop-at.at in
    let less : get_or tolerances at 0 < c.args.tolerance = search rules in
    subst (All (IsLess c.args.tolerance)) (sym (take_more tolerances at 0 c.loop-at-test.true))
    (All-push (IsLess c.args.tolerance) (take at tolerances) (get_or tolerances at 0) c.loop-at.invariant less)
