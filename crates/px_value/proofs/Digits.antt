-- Bytes that are all digits are those of a decimal numeral, and a decimal numeral is all digits.
use Rattle.std.proofs.Common.{◌≡◌, ℕ, ◌+◌, ◌<◌, ◌%◌, ◌^◌, ◌≤◌, true, List, [], ◌∷◌, arith}
use Rattle.std.specs.Prelude.{◌&&◌, nat_le, nat_lt, decimal, length}
use Rattle.std.specs.Char.{digit_value}
use Rattle.std.specs.List.{list_all}
use Rattle.std.specs.Str.Parse.{AllDigits, IsNumeral, without_leading_plus}
use Rattle.std.proofs.lemmas.Bool.{and_parts, leb-true, ltb-true}
use Rattle.std.proofs.lemmas.Bool.Decides.{nat_tests}
use Rattle.std.proofs.lemmas.Fmt.{decimal_by_steps}
use Rattle.std.proofs.lemmas.List.Folds.{list_all-append}
use Rattle.std.proofs.lemmas.Str.Parse.{without_leading_plus_none}
use Rattle.px_value.specs.Name.{is_digit, is_digits}
use Rattle.px_value.proofs.Ascii.{list_all-weaker}

-- bytes that are each a digit of a base, and those of base 10
pub all_digits_of : (base : ℕ) (ds : List ℕ) → list_all (λ c. nat_lt (digit_value c) base) ds ≡ true → AllDigits base ds
all_digits_of base [] h = tt
all_digits_of base (c ∷ cs) h =
    let parts : (nat_lt (digit_value c) base ≡ true) × (list_all (λ c. nat_lt (digit_value c) base) cs ≡ true) = and_parts (nat_lt (digit_value c) base) (list_all (λ c. nat_lt (digit_value c) base) cs) h in
    (ltb-true (digit_value c) base parts.0, all_digits_of base cs parts.1)

pub of_ten : (c : ℕ) → is_digit c ≡ true → nat_lt (digit_value c) 10 ≡ true
of_ten c h = grind (arith, nat_tests)

pub all_digits : (digits : List ℕ) → list_all is_digit digits ≡ true → AllDigits 10 digits
all_digits digits pass = all_digits_of 10 digits (list_all-weaker is_digit (λ c. nat_lt (digit_value c) 10) of_ten digits pass)

-- digits are a numeral, which begins with no sign
pub record ArePlain (ds : List ℕ) : Type 0 where
  pub numeral : IsNumeral 10 ds
  pub sign : without_leading_plus ds ≡ ds

pub digits_plain : (most : ℕ) (ds : List ℕ) → is_digits most ds ≡ true → ArePlain ds
digits_plain most [] h = cc
digits_plain most (c ∷ cs) h =
    let all : list_all is_digit (c ∷ cs) ≡ true =
    (and_parts (nat_le 1 (length (c ∷ cs)) && nat_le (length (c ∷ cs)) most) (list_all is_digit (c ∷ cs)) h).1 in
    let digit : is_digit c ≡ true = (and_parts (is_digit c) (list_all is_digit cs) all).0 in
    let low : 48 ≤ c = leb-true 48 c (and_parts (nat_le 48 c) (nat_le c 57) digit).0 in
    record {
      numeral = (omega arith, all_digits (c ∷ cs) all);
      sign = without_leading_plus_none (c ∷ cs) (λ plus. absurd (omega arith));
    }

digit_is : (d : ℕ) → d < 10 → is_digit (48 + d) ≡ true
digit_is d small = grind (arith, nat_tests)

pub decimal_digits : (n : ℕ) → n < 2 ^ 64 → list_all is_digit (decimal n) ≡ true
decimal_digits n small =
    decimal_by_steps (λ _ ds. list_all is_digit ds ≡ true)
    (λ d below. rw (digit_is d below))
    (λ n ds _ front. rw (list_all-append is_digit ds ((48 + n % 10) ∷ []), front, digit_is (n % 10) (omega arith)))
    n small
