-- Words and numbers: the run of letters, digits and _ at the front of a text.
use Rattle.std.proofs.Common.{◌≡◌, ℕ, ◌<◌, ◌≤◌, true, false, List, [], ◌∷◌, ◌++◌, length, sym, ◌∙◌}
use Rattle.std.specs.List.{list_all}
use Rattle.std.proofs.lemmas.Bool.{and_parts, and_from, or_right, false≢true, lt-ltb, le-ltb}
use Rattle.px_value.specs.Name.{begins_identifier, continues_identifier, is_digit}
use Rattle.px_lex.specs.Gap.{begins}
use Rattle.px_lex.specs.Word.{IsWord}
use Rattle.px_lex.specs.Number.{IsNumber}
use Rattle.px_lex.specs.Word.{is_real_type}
use Rattle.px_lex.specs.Fault.{Real, TooLong, IsFaulty}

pub word_of : (text word rest : List ℕ) → begins begins_identifier text ≡ true → text ≡ word ++ rest → list_all continues_identifier word ≡ true → begins continues_identifier rest ≡ false → IsWord word rest
word_of text [] [] first e pass stop = cc
word_of text [] (c ∷ cs) first e pass stop = let here : begins_identifier c ≡ true = rw e at first in cc
word_of text (c ∷ cs) rest first e pass stop =
    let here : begins_identifier c ≡ true = rw e at first in
    record { word = and_from (begins_identifier c) (list_all continues_identifier cs) here (and_parts (continues_identifier c) (list_all continues_identifier cs) pass).1; longest = stop }

pub number_of_run : (text run rest : List ℕ) → begins is_digit text ≡ true → text ≡ run ++ rest → list_all continues_identifier run ≡ true → begins continues_identifier rest ≡ false → IsNumber run rest
number_of_run text [] [] first e pass stop = cc
number_of_run text [] (c ∷ cs) first e pass stop = let here : is_digit c ≡ true = rw e at first in
    absurd (false≢true (sym stop ∙ or_right (begins_identifier c) (is_digit c) here))
number_of_run text (c ∷ cs) rest first e pass stop = record { first = rw e at first; going_on = pass; longest = stop }

-- ---- the faults of a word

pub long_word : (text word rest : List ℕ) → text ≡ word ++ rest → IsWord word rest → 64 < length word → IsFaulty TooLong text
long_word text word rest split stands long = IsFaulty.word word rest split stands (rw (lt-ltb 64 (length word) long))

pub real_word : (text word rest : List ℕ) → text ≡ word ++ rest → IsWord word rest → length word ≤ 64 → is_real_type word ≡ true
    → IsFaulty Real text
real_word text word rest split stands short real = IsFaulty.word word rest split stands (rw (le-ltb 64 (length word) short, real))
