-- Each identifier among the tokens of a text is a name.
use Rattle.std.proofs.Common.{◌≡◌, ℕ, true, List, length, Some, subst}
use Rattle.std.specs.Prelude.{◌||◌, nat_le}
use Rattle.std.proofs.lemmas.Bool.{and_from, or_left, le-leb}
use Rattle.px_value.specs.Name.{is_identifier, is_generated, is_name}
use Rattle.px_lex.specs.declared.token.Token.{Token}
use Rattle.px_lex.specs.declared.token.TokenKind.TheVariants as kinds
use Rattle.px_lex.specs.Lexer.{Splits}
use Rattle.px_lex.specs.Token.{SpellsIdentifier}
use Rattle.px_syntax.specs.Form.{kind_at}
use Rattle.px_syntax.proofs.Spelled.{IsSpelled, spelled_in}

-- each identifier among the tokens is a name
pub record AreNames (tokens : List Token) : Type 0 where
  pub at :
      (number : ℕ) (name : List ℕ) → kind_at tokens number ≡ Some (kinds.Identifier name) → is_name name ≡ true

is_a_name : (name spelling rest : List ℕ) → SpellsIdentifier name spelling rest → is_name name ≡ true
is_a_name name spelling rest is =
    subst (λ text. is_name text ≡ true) is.same
    (and_from (is_identifier spelling || is_generated spelling) (nat_le (length spelling) 64)
    (or_left (is_identifier spelling) (is_generated spelling) is.word.word) (le-leb _ _ is.short))

pub names_at : (text : List ℕ) (tokens : List Token) → Splits text tokens → AreNames tokens
names_at text tokens splits = record {
  at =
      λ number name has.
      let there : IsSpelled text (kinds.Identifier name) = spelled_in text tokens splits (kinds.Identifier name) number has in
      is_a_name name there.spelling there.rest there.token;
}
