-- The limit that words give is one that a history may have.
use Rattle.std.proofs.Common.{◌≡◌, ℕ, true, List, [], ◌∷◌, Option, Some, None, sym, ap, ◌∙◌, arith, codes}
use Rattle.std.specs.Prelude.{⊤, ◌&&◌, nat_le, if◌then◌else◌}
use Rattle.std.specs.Option.{option_map, option_and_then, ForSome, IfSome}
use Rattle.std.specs.Str.Parse.{digits_value}
use Rattle.std.proofs.lemmas.Bool.{and_parts, cond_both, leb-true}
use Rattle.std.proofs.lemmas.Option.{MatchOption-at_some}
use Rattle.px_value.specs.Name.{is_digits}
use Rattle.px_value.proofs.General.{IfSome-map, IfSome-and_then}
use Rattle.px_core.specs.Plan.{is_same}
use Rattle.px_words.specs.Asked.{asked}
use Rattle.px_words.specs.Limited.{event_limit, is_limit, IsLimit, count_of, behind_text, Limited, with_limit, with_operand, limited_by, limited_by_next, behind_option, limited}
use Rattle.px_words.specs.Operands.{is_option, operands, of_two, of_three}
use Rattle.px_words.specs.Seed.{seed_of}
use Rattle.px_words.specs.Words.{Command, Run, Resume, HasFitLimit, run_of, resume_of, soak_by, soak_of}
use Rattle.px_words.specs.declared.command.Command.{Command as Asked}

-- ---- the limit

limit_of : (count : ℕ) → is_limit count ≡ true → IsLimit count
limit_of count is = let parts = and_parts (nat_le 1 count) (nat_le count event_limit) is in (leb-true 1 count parts.0, leb-true count event_limit parts.1)

counted : (word : List ℕ) → IfSome (count_of word) IsLimit
counted word = cond_both (is_digits 6 word && is_limit (digits_value 10 word)) (Some (digits_value 10 word)) None (λ count. IfSome count IsLimit)
    (λ is. limit_of (digits_value 10 word) (and_parts (is_digits 6 word) (is_limit (digits_value 10 word)) is).1) (λ _. tt)

abbrev Fits : Limited → Type 0
Fits read = IsLimit read.limit

by_number : (number : Option ℕ) (words : List (List ℕ)) → IfSome number IsLimit → IfSome (limited_by number words) Fits
by_number None words fit = tt
by_number (Some limit) words fit = IfSome-map Fits (with_limit limit) (operands words) (λ found is. fit)

by_next : (words : List (List ℕ)) → IfSome (limited_by_next words) Fits
by_next [] = tt
by_next (number ∷ words) = by_number (count_of number) words (counted number)

by_option : (word : List ℕ) (words : List (List ℕ)) → IfSome (behind_option word words) Fits
by_option word words = cond_both (is_same word (codes "--events")) (limited_by_next words) (limited_by (option_and_then count_of (behind_text (codes "--events=") word)) words)
    (λ read. IfSome read Fits) (λ _. by_next words) (λ _. by_number _ words (IfSome-and_then IsLimit count_of (behind_text (codes "--events=") word) (λ number is. counted number)))

limits : (words : List (List ℕ)) → IfSome (limited words) Fits
limits [] = (omega arith, omega arith)
limits (word ∷ words) =
    cond_both (is_same word (codes "--")) (Some (with_limit event_limit words)) (if is_option word then behind_option word words else option_map (with_operand word) (limited words))
    (λ read. IfSome read Fits) (λ _. (omega arith, omega arith))
    (λ _. cond_both (is_option word) (behind_option word words) (option_map (with_operand word) (limited words)) (λ read. IfSome read Fits) (λ _. by_option word words)
    (λ _. IfSome-map Fits (with_operand word) (limited words) (λ read is. MatchOption-at_some ⊤ Fits read is (limits words))))

-- ---- the command

two_fit : (make : List ℕ → List ℕ → Command) (words : List (List ℕ)) → ((a b : List ℕ) → HasFitLimit (make a b)) → IfSome (of_two make words) HasFitLimit
two_fit make [] fit = tt
two_fit make (a ∷ []) fit = tt
two_fit make (a ∷ b ∷ []) fit = fit a b
two_fit make (a ∷ b ∷ c ∷ more) fit = tt

three_fit : (make : List ℕ → List ℕ → List ℕ → Command) (words : List (List ℕ)) → ((a b c : List ℕ) → HasFitLimit (make a b c)) → IfSome (of_three make words) HasFitLimit
three_fit make [] fit = tt
three_fit make (a ∷ []) fit = tt
three_fit make (a ∷ b ∷ []) fit = tt
three_fit make (a ∷ b ∷ c ∷ []) fit = fit a b c
three_fit make (a ∷ b ∷ c ∷ d ∷ more) fit = tt

pub run_fits : (words : List (List ℕ)) → IfSome (option_and_then run_of (limited words)) HasFitLimit
run_fits words = IfSome-and_then HasFitLimit run_of (limited words) (λ read is. three_fit (λ p s j. Run p s j read.limit) read.operands (λ a b c. MatchOption-at_some ⊤ Fits read is (limits words)))

pub resume_fits : (words : List (List ℕ)) → IfSome (option_and_then resume_of (limited words)) HasFitLimit
resume_fits words = IfSome-and_then HasFitLimit resume_of (limited words) (λ read is. two_fit (λ s j. Resume s j read.limit) read.operands (λ a b. MatchOption-at_some ⊤ Fits read is (limits words)))

soak_by_fits : (count seed : Option ℕ) (journal : List ℕ) → IfSome count IsLimit → IfSome (soak_by count seed journal) HasFitLimit
soak_by_fits None seed journal fit = tt
soak_by_fits (Some count) None journal fit = tt
soak_by_fits (Some count) (Some seed) journal fit = fit

soaks_fit : (words : List (List ℕ)) → IfSome (soak_of words) HasFitLimit
soaks_fit [] = tt
soaks_fit (a ∷ []) = tt
soaks_fit (a ∷ b ∷ []) = tt
soaks_fit (a ∷ b ∷ c ∷ []) = soak_by_fits (count_of a) (seed_of b) c (counted a)
soaks_fit (a ∷ b ∷ c ∷ d ∷ more) = tt

pub soak_fits : (words : List (List ℕ)) → IfSome (option_and_then soak_of (operands words)) HasFitLimit
soak_fits words = IfSome-and_then HasFitLimit soak_of (operands words) (λ found is. soaks_fit found)

-- the command of the program's own kind
pub fit_answer : (found : Option Asked) (o : Option Command) → option_map asked found ≡ o → IfSome o HasFitLimit → ForSome found (λ f. HasFitLimit (asked f))
fit_answer found o is fits = λ f found_is. MatchOption-at_some ⊤ HasFitLimit (asked f) (sym is ∙ ap (option_map asked) found_is) fits
