use Rattle.std.proofs.Common.{rules, ◌≡◌, ◌≤◌, true, nat_eq, length, get_or, ap, sym, ◌∙◌, arith}
use Rattle.std.proofs.lemmas.List.Sums.{position_or_len_is}
use Rattle.px_cached.specs.Conditions.{place_among}
use Rattle.px_cached.proofs.sources.place_among.Goals as goal

-- the first that is the tolerance
pub returns-else-tolerances-at : goal.returns-else-tolerances-at
returns-else-tolerances-at c =
    let tolerances = c.args.tolerances.now in
    let tolerance = c.in-Some.tolerance in
    let at = c.loop-at.at in
    let here : nat_eq tolerance (get_or tolerances at 0) ≡ true = search rules in
    sym (position_or_len_is (nat_eq tolerance) tolerances at 0 c.loop-at.invariant.within c.loop-at.invariant.before (λ _. here))
    ∙ ap (place_among tolerances) (sym c.in-Some.is)

-- none is
pub returns-after-loop-at : goal.returns-after-loop-at
returns-after-loop-at c =
    let tolerances = c.args.tolerances.now in
    let tolerance = c.in-Some.tolerance in
    let at = c.loop-at.at in
    let behind : length tolerances ≤ at = search rules in
    sym (position_or_len_is (nat_eq tolerance) tolerances at 0 c.loop-at.invariant.within c.loop-at.invariant.before
    (λ inside. absurd (omega (arith, inside, behind))))
    ∙ ap (place_among tolerances) (sym c.in-Some.is)
