-- A generated name is a name.
use Rattle.std.proofs.Common.{◌≡◌, ℕ, ◌<◌, ◌≤◌, ◌^◌, true, List, [], ◌∷◌, length, arith}
use Rattle.std.specs.Prelude.{nat_le, decimal}
use Rattle.std.specs.List.{list_all}
use Rattle.std.proofs.lemmas.Bool.{and_from, le-leb}
use Rattle.std.proofs.lemmas.Bool.Decides.{nat_tests}
use Rattle.std.proofs.lemmas.Fmt.{decimal_nonempty, length-decimal-le}
use Rattle.px_value.specs.Name.{is_digit, is_letter_or_digit, is_generated, generated_name, is_name}
use Rattle.px_value.proofs.Ascii.{list_all-weaker}
use Rattle.px_value.proofs.Digits.{decimal_digits}

digit_passes : (c : ℕ) → is_digit c ≡ true → is_letter_or_digit c ≡ true
digit_passes c is = grind (arith, nat_tests)

decimal_passes : (k : ℕ) → k < 2 ^ 64 → list_all is_letter_or_digit (decimal k) ≡ true
decimal_passes k small = list_all-weaker is_digit is_letter_or_digit digit_passes (decimal k) (decimal_digits k small)

hash_before : (ds : List ℕ) → 0 < length ds → list_all is_letter_or_digit ds ≡ true → is_generated (35 ∷ ds) ≡ true
hash_before [] some pass = absurd (omega arith)
hash_before (d ∷ ds) some pass = pass

pub generated_is_name : (k : ℕ) → k < 2 ^ 32 → is_name (generated_name k) ≡ true
generated_is_name k small =
    let short : length (decimal k) ≤ 10 = length-decimal-le 10 k (omega arith) (omega arith) (omega arith) in
    and_from (is_generated (35 ∷ decimal k)) (nat_le (length (35 ∷ decimal k)) 64)
    (hash_before (decimal k) (decimal_nonempty k (omega arith)) (decimal_passes k (omega arith)))
    (le-leb _ _ (omega arith))
