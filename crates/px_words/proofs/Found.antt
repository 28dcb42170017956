-- The line of what the reader of command lines has found.
use Rattle.std.proofs.Common.{◌≡◌, ℕ, true, List, [], Option, ap, ◌∙◌, codes}
use Rattle.std.specs.Prelude.{option_and_then, option_map}
use Rattle.std.proofs.lemmas.Bool.{and_parts}
use Rattle.clap.specs.Words.{App, Row, Text, first_value, fault_of, is_simple, is_simple_and_free, matches_of, rows_of, built}
use Rattle.clap.specs.Faults.{is_free_app}
use Rattle.clap.specs.declared.parser.matches.Found.{Found}
use Rattle.clap.proofs.WalkLemmas.{first_value-rows}
use Rattle.px_words.specs.Limited.{with_limit}
use Rattle.px_words.specs.Line.{limit_in, line_in, operands_in, rows_read}

pub line_by : (found : Found) (number : Option Text) (limit : Option ℕ) → number ≡ first_value found (codes "events") → limit ≡ limit_in number
    → option_map (λ l. with_limit l (operands_in (rows_of found))) limit ≡ line_in (rows_of found)
line_by found number limit given is =
    ap (option_map (λ l. with_limit l (operands_in (rows_of found)))) (is ∙ ap limit_in (given ∙ first_value-rows found (codes "events")))

pub line_found : {More : Type 0} (app : App) (words : List Text) (rows : List Row) → is_simple_and_free app ≡ true
    → (is_simple app ≡ true → (rows ≡ matches_of app words) × More) → (is_simple_and_free app ≡ true → fault_of app words ≡ [])
    → line_in rows ≡ option_and_then line_in (rows_read app words)
line_found app words rows simple matches kinds =
    rw (kinds simple) (ap line_in (matches (and_parts (is_simple app) (is_free_app (built app)) simple).0).0)
