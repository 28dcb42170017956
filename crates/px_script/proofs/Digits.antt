-- Numbers in digits, as the library reads them; these and names are text.
use Rattle.std.proofs.Common.{◌≡◌, ℕ, ◌^◌, ◌<◌, ◌≤◌, true, List, length, refl, ap, arith, Result, Ok, Err, Option, Some, None}
use Rattle.std.specs.Prelude.{nat_le, if◌then◌else◌}
use Rattle.std.specs.List.{list_all}
use Rattle.std.specs.Result.{result_ok}
use Rattle.std.specs.Str.{IsUtf8}
use Rattle.std.specs.Str.Parse.{AllDigits, ParsesUnsigned, digits_value}
use Rattle.std.proofs.lemmas.Bool.{and_parts, false_from_ne_true, leb-true}
use Rattle.std.proofs.lemmas.Fmt.{IsAscii-from_digits}
use Rattle.std.proofs.lemmas.Str.{IsUtf8-from_ascii}
use Rattle.std.proofs.lemmas.Str.Parse.{IsNumeralModel, numerals_by_value, tells_digits, digits_value_short, parse_digits, parse_gives}
use Rattle.px_value.specs.Name.{is_digit, is_identifier}
use Rattle.px_value.proofs.Digits.{all_digits}
use Rattle.px_value.proofs.Ascii.{identifier_text}
use Rattle.px_event.specs.Fit.{is_report_name}
use Rattle.px_script.specs.ThreadLine.{are_digits, is_thread}

numerals : IsNumeralModel (AllDigits 10) (digits_value 10)
numerals = numerals_by_value (AllDigits 10) tells_digits

digits_of : (ds : List ℕ) → are_digits ds ≡ true → AllDigits 10 ds
digits_of ds digits = all_digits ds (and_parts (nat_le 1 (length ds)) (list_all is_digit ds) digits).1

some_of : (ds : List ℕ) → are_digits ds ≡ true → 1 ≤ length ds
some_of ds digits = leb-true 1 (length ds) (and_parts (nat_le 1 (length ds)) (list_all is_digit ds) digits).0

-- six digits are always read
pub read_short : {E : Type 0} (ds : List ℕ) (read : Result ℕ E) → are_digits ds ≡ true → length ds ≤ 6 → ParsesUnsigned 32 10 ds read
    → result_ok read ≡ None → ⊥
read_short ds read digits short parses none =
    let small : digits_value 10 ds < 10 ^ 6 = digits_value_short numerals ds 6 (digits_of ds digits) short in
    let is : read ≡ Ok (digits_value 10 ds)
    = parse_gives numerals 32 ds read parses (digits_of ds digits) (omega (arith, some_of ds digits)) (omega arith) in
    let some : result_ok read ≡ Some (digits_value 10 ds) = ap result_ok is in
    cc

-- digits are text
pub digits_text : (ds : List ℕ) → are_digits ds ≡ true → IsUtf8 ds
digits_text ds digits = IsUtf8-from_ascii ds (IsAscii-from_digits ds (digits_of ds digits))

-- and so are names
pub no_name : (word : List ℕ) → (IsUtf8 word → ⊥) → None ≡ (if is_report_name word then Some word else None)
no_name word other =
    rw (false_from_ne_true (is_report_name word) (λ is.
    other (identifier_text word (and_parts (is_identifier word) (nat_le (length word) 64) is).0))) refl

-- the thread of a number
abbrev pub thread_at : ℕ → Option ℕ
thread_at number = if is_thread number then Some number else None

-- a number that is too large to be read
pub unread : {E : Type 0} (ds : List ℕ) (read : Result ℕ E) → are_digits ds ≡ true → ParsesUnsigned 8 10 ds read → result_ok read ≡ None
    → None ≡ thread_at (digits_value 10 ds)
unread ds (Ok number) digits parses none = cc
unread ds (Err fault) digits parses none =
    let value : ℕ = digits_value 10 ds in
    let large : ¬ ((0 < length ds) × (value < 2 ^ 8)) = parse_digits numerals 8 ds (Err fault) parses (digits_of ds digits) in
    rw (false_from_ne_true (is_thread value) (λ is.
    let small : value ≤ 8 = leb-true value 8 (and_parts (nat_le 1 value) (nat_le value 8) is).1 in
    large (omega (arith, some_of ds digits), omega arith))) refl
