-- The first line of a text.
use Rattle.std.proofs.Common.{rules, ◌≡◌, ℕ, ◌+◌, ◌-◌, ◌<◌, ◌≤◌, List, [], ◌∷◌, length, take, drop, arith}
use Rattle.std.specs.Prelude.{◌==◌}
use Rattle.std.specs.List.{position_or_len}
use Rattle.std.proofs.lemmas.List.{take_rest}
use Rattle.std.proofs.lemmas.List.Sums.{fails_before_first, count_by-le-length}
use Rattle.std.proofs.lemmas.List.Splits.{slice_split_first, slice_split_none, length-slice_split}
use Rattle.px_script.specs.Text.{lines_of}

-- where there is a line feed
pub first_line : (text : List ℕ) (end : ℕ) → end ≡ position_or_len (λ c. c == 10) text → end < length text
    → lines_of text ≡ take end text ∷ lines_of (take (length text - (end + 1)) (drop (end + 1) text))
first_line text end place within =
    search (rules, slice_split_first, take_rest)

-- where there is none
pub last_line : (text : List ℕ) (end : ℕ) → end ≡ position_or_len (λ c. c == 10) text → length text ≤ end
    → lines_of text ≡ text ∷ []
last_line text end place past =
    slice_split_none (λ c. c == 10) text (λ k d within. fails_before_first (λ c. c == 10) text k d (omega arith))

-- there is at most one line more than there are bytes
pub few_lines : (text : List ℕ) → length (lines_of text) ≤ length text + 1
few_lines text = omega (arith, length-slice_split (λ c. c == 10) text, count_by-le-length (λ c. c == 10) text)
