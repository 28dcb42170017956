-- Faults are noted one after another.
use Rattle.std.proofs.Common.{◌≡◌, List, [], ◌++◌, refl, sym, ap, ◌∙◌}
use Rattle.std.proofs.lemmas.List.Sums.{fold-append}
use Rattle.px_syntax.specs.Fault.{Fault}
use Rattle.px_check.specs.Found.{Sought, earlier, noted}

pub noted_append : (found : Sought) (xs ys : List Fault) → noted found (xs ++ ys) ≡ noted (noted found xs) ys
unfolding noted
noted_append found xs ys = fold-append earlier found xs ys

pub noted_none : (found : Sought) → noted found [] ≡ found
unfolding noted
noted_none found = refl

pub noted_then : (found between new : Sought) (xs ys : List Fault) → between ≡ noted found xs → new ≡ noted between ys
    → new ≡ noted found (xs ++ ys)
noted_then found between new xs ys first second =
    second ∙ ap (λ between. noted between ys) first ∙ sym (noted_append found xs ys)

pub ruleset noting = (noted_append, noted_none)
