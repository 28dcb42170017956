-- How the reading of a string goes on behind a byte.
use Rattle.std.proofs.Common.{◌≡◌, ℕ, ◌-◌, ◌≤◌, Bool, true, false, List, [], ◌∷◌, length, get_or, take, drop, Option, Some, None, refl, ap, ◌∙◌, arith}
use Rattle.std.specs.Prelude.{if◌then◌else◌}
use Rattle.std.proofs.lemmas.List.{take_rest}
use Rattle.px_value.specs.Text.{unescaped}
use Rattle.std.proofs.lemmas.Option.{none-some}
use Rattle.px_lex.proofs.Fronts.{opened}
use Rattle.px_lex.proofs.StringFronts.{inner}
use Rattle.px_lex.specs.String.{is_quote, is_backslash, is_line_end, with_byte, string_from, escape_from, read_string}
use Rattle.px_script.specs.Place.{behind_byte}
use Rattle.px_script.specs.declared.place.Quoting.{Quoting}
use Rattle.px_script.specs.declared.place.Quoting.TheVariants.{Outside, Inside, Escaped}

-- what is read of a string from behind a byte of it on; behind its closing quote nothing more is
abbrev pub read_behind : Quoting → List ℕ → Option (List ℕ × List ℕ)
read_behind Outside text = Some ([], text)
read_behind Inside text = string_from text
read_behind Escaped text = escape_from text

inside_on : (quote backslash line_end : Bool) (c : ℕ) (cs content rest : List ℕ)
    → (if quote then Some ([], cs) else if backslash then escape_from cs else if line_end then None else with_byte (Some c) (string_from cs)) ≡ Some (content, rest)
    → (less : List ℕ) × (read_behind (if quote then Outside else if backslash then Escaped else Inside) cs ≡ Some (less, rest))
inside_on true backslash line_end c cs content rest h = (content, h)
inside_on false true line_end c cs content rest h = (content, h)
inside_on false false true c cs content rest h = absurd (none-some (content, rest) h)
inside_on false false false c cs content rest h = inner (Some c) (string_from cs) content rest h

-- a string goes on behind its next byte
pub goes_on : (quoting : Quoting) (c : ℕ) (cs content rest : List ℕ) → (quoting ≡ Outside → ⊥)
    → read_behind quoting (c ∷ cs) ≡ Some (content, rest) → (less : List ℕ) × (read_behind (behind_byte quoting c) cs ≡ Some (less, rest))
goes_on Outside c cs content rest within h = absurd (within refl)
goes_on Escaped c cs content rest within h = inner (unescaped c) (string_from cs) content rest h
goes_on Inside c cs content rest within h = inside_on (is_quote c) (is_backslash c) (is_line_end c) c cs content rest h

-- the same of a list that is there, by its first byte and what is behind it
pub list_goes_on : (quoting : Quoting) (text content rest : List ℕ) → (quoting ≡ Outside → ⊥) → 1 ≤ length text
    → read_behind quoting text ≡ Some (content, rest)
    → (less : List ℕ) × (read_behind (behind_byte quoting (get_or text 0 0)) (take (length text - 1) (drop 1 text)) ≡ Some (less, rest))
list_goes_on quoting [] content rest within some h = absurd (omega arith)
list_goes_on quoting (c ∷ cs) content rest within some h =
    rw (take_rest (c ∷ cs) 1) (goes_on quoting c cs content rest within h)

-- behind the quote with which it begins
pub opened_by : (text content rest : List ℕ) → read_string text ≡ Some (content, rest)
    → (less : List ℕ) × (string_from (take (length text - 1) (drop 1 text)) ≡ Some (less, rest))
opened_by text content rest h =
    let begun = opened text content rest h in
    (content, ap string_from (take_rest text 1 ∙ ap (drop 1) begun.1) ∙ begun.2)
