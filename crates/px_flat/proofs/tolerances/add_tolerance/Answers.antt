use Rattle.std.proofs.Common.{rules, ◌≡◌, ◌≢◌, ℕ, ◌<◌, ◌≤◌, length, take, get_or, All, subst, ◌∙◌, arith}
use Rattle.std.proofs.lemmas.List.{get_or_default}
use Rattle.px_flat.proofs.Tolerating.{IsLess, inserted, present}
use Rattle.px_flat.proofs.tolerances.add_tolerance.Goals as goal
use Rattle.px_flat.proofs.tolerances.add_tolerance.Goals.{else-at-len-via-then-at-len+else-index-tolerance, else-at-len-via-else-at-len}

pub returns-then-index-tolerance : goal.returns-then-index-tolerance
returns-then-index-tolerance c =
    let tolerances = c.args.tolerances.now.items in
    let at = c.count_less-at.result in
    let less : All (IsLess c.args.tolerance) (take at tolerances) =
    subst (λ items. All (IsLess c.args.tolerance) (take at items)) c.deref.ensures.value c.count_less-at.ensures.less in
    let inside : at < length tolerances = search rules in
    let same : get_or tolerances at c.index.result.now ≡ c.args.tolerance = search rules in
    present c.args.tolerance tolerances at less inside (λ d. get_or_default tolerances at d c.index.result.now inside ∙ same)

pub returns : goal.returns
returns c =
    let tolerances = c.args.tolerances.now.items in
    let at = c.count_less-at.result in
    let less : All (IsLess c.args.tolerance) (take at tolerances) =
    subst (λ items. All (IsLess c.args.tolerance) (take at items)) c.deref.ensures.value c.count_less-at.ensures.less in
    let within : at ≤ length tolerances = search rules in
    let others : (d : ℕ) → at < length tolerances → c.args.tolerance ≤ get_or tolerances at d =
    subst (λ items. (d : ℕ) → at < length items → c.args.tolerance ≤ get_or items at d) c.deref.ensures.value
    c.count_less-at.ensures.others in
    c.in_ok-insert.ensures.items ∙ elim c.else-at-len.branch [
      | else-at-len-via-then-at-len+else-index-tolerance w ↦
          let here : get_or tolerances at w.index.result.now ≡ w.index.result.now = search rules in
          let apart : w.index.result.now ≢ c.args.tolerance = search rules in
          inserted c.args.tolerance tolerances at less within (λ d inside.
          let least : c.args.tolerance ≤ get_or tolerances at w.index.result.now = others w.index.result.now inside in
          let above : c.args.tolerance < w.index.result.now = omega (arith, least, here, apart) in
          omega (arith, above, here, get_or_default tolerances at d w.index.result.now inside))
      | else-at-len-via-else-at-len w ↦
          let behind : length tolerances ≤ at = search rules in
          inserted c.args.tolerance tolerances at less within (λ d inside. absurd (omega (arith, inside, behind)))
    ]
