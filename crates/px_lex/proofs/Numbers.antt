-- What the standard library reads of a numeral.
use Rattle.std.proofs.Common.{◌≡◌, ℕ, ◌<◌, ◌≤◌, ◌^◌, true, false, List, [], ◌∷◌, ◌++◌, length, Some, None, Result, Ok, Err, arith, inl, inr}
use Rattle.std.specs.Prelude.{nat_lt, MatchOption, ℤ, pos, FitsSigned}
use Rattle.std.specs.Int.{w32}
use Rattle.std.specs.Result.{result_ok, OkIff}
use Rattle.std.specs.Char.{digit_value}
use Rattle.std.specs.List.{list_all}
use Rattle.std.specs.Str.Parse.{ParsesSigned, digits_value, IsNumeral}
use Rattle.std.proofs.lemmas.Bool.{and_parts, ltb-true, le-ltb, ne_eqb, cases_lt, false≢true}
use Rattle.std.proofs.lemmas.Bool.Decides.{nat_tests}
use Rattle.px_value.proofs.Digits.{all_digits_of}
use Rattle.px_lex.specs.Number.{IsNumber, is_numeral, numeral, number_of, is_fraction}
use Rattle.px_lex.specs.Fault.{Bad, Real, TooLong, IsFaulty}

digit_from_0 : (c base : ℕ) → base ≤ 36 → nat_lt (digit_value c) base ≡ true → 48 ≤ c
digit_from_0 c base low h = let small : digit_value c < base = ltb-true (digit_value c) base h in
    elim (cases_lt c 48) [ inl less ↦ absurd (no_digit c base less low small) | inr more ↦ more ]
  where
    no_digit : (c base : ℕ) → c < 48 → base ≤ 36 → digit_value c < base → ⊥
    no_digit c base less low small = grind (arith, nat_tests)

by_result : {E : Type 0} (base : ℕ) (ds : List ℕ) (r : Result ℤ E) → IsNumeral base ds → OkIff r (IsNumeral base ds × FitsSigned w32 (pos (digits_value base ds))) (pos (digits_value base ds)) → MatchOption (result_ok r) (2 ^ 31 ≤ digits_value base ds) (λ z. (z ≡ pos (digits_value base ds)) × (digits_value base ds < 2 ^ 31))
by_result base ds (Ok z) n h = (h.1, h.0.1.sfits)
by_result base ds (Err e) n h = elim (cases_lt (digits_value base ds) (2 ^ 31)) [
  | inl small ↦ absurd (h (n, record { sfits = small }))
  | inr large ↦ large
]

pub parsed : {E : Type 0} (base : ℕ) (ds : List ℕ) (r : Result ℤ E) → base ≤ 36 → is_numeral base ds ≡ true → ParsesSigned w32 base ds r → MatchOption (result_ok r) (2 ^ 31 ≤ digits_value base ds) (λ z. (z ≡ pos (digits_value base ds)) × (digits_value base ds < 2 ^ 31))
parsed base [] r low h p = absurd (false≢true h)
parsed base (c ∷ cs) r low h p =
    let each : list_all (λ c. nat_lt (digit_value c) base) (c ∷ cs) ≡ true = (and_parts (nat_lt 0 (length (c ∷ cs))) (list_all (λ c. nat_lt (digit_value c) base) (c ∷ cs)) h).1 in
    let first : 48 ≤ c = digit_from_0 c base low (and_parts (nat_lt (digit_value c) base) (list_all (λ c. nat_lt (digit_value c) base) cs) each).0 in
    by_result base (c ∷ cs) r (omega arith, all_digits_of base (c ∷ cs) each) (rw (ne_eqb c 45 (λ e. omega arith), ne_eqb c 43 (λ e. omega arith)) at p)

pub numeral_none : (base : ℕ) (ds : List ℕ) → is_numeral base ds ≡ false → numeral base ds ≡ None
numeral_none base ds h = rw h

pub numeral_some : (base : ℕ) (ds : List ℕ) → is_numeral base ds ≡ true → numeral base ds ≡ Some (digits_value base ds)
numeral_some base ds h = rw h

-- ---- the faults of a number

pub real_number : (text number rest : List ℕ) → text ≡ number ++ rest → IsNumber number rest → is_fraction number rest ≡ true
    → IsFaulty Real text
real_number text number rest split stands fraction = IsFaulty.number number rest split stands (rw fraction)

pub bad_number : (text number rest : List ℕ) → text ≡ number ++ rest → IsNumber number rest → is_fraction number rest ≡ false
    → number_of number ≡ None → IsFaulty Bad text
bad_number text number rest split stands whole none = IsFaulty.number number rest split stands (rw (whole, none))

pub large_number : (text number rest : List ℕ) (value : ℕ) → text ≡ number ++ rest → IsNumber number rest
    → is_fraction number rest ≡ false → number_of number ≡ Some value → 2 ^ 31 ≤ value → IsFaulty TooLong text
large_number text number rest value split stands whole some large =
    IsFaulty.number number rest split stands (rw (whole, some, le-ltb value (2 ^ 31) large))
