use Rattle.std.proofs.Common.{◌≡◌, ℕ, ◌+◌, ap, sym, ◌∙◌, [], ◌∷◌, ◌++◌, arith}
use Rattle.std.specs.List.{range_with_len}
use Rattle.px_value.proofs.General.{range_more}
use Rattle.px_naive.proofs.naive.numbers.Goals as goal

pub loop-number-preserved : goal.loop-number-preserved
loop-number-preserved c =
    let number = c.loop-number.number in
    let here : 0 + number ≡ number = omega arith in
    c.in_ok-push.ensures.items ∙ ap (λ numbers. numbers ++ number ∷ []) c.loop-number.invariant
    ∙ sym (range_more 0 number ∙ ap (λ (last : ℕ). range_with_len 0 number ++ last ∷ []) here)
