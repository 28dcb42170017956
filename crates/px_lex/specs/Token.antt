-- The spelling of a token before the rest of a text, as long as it can be.
use Rattle.std.specs.Prelude.{◌≡◌, ℕ, false, true, ◌≤◌, ◌<◌, ◌^◌, pos, List, ◌++◌, length, Some, None}
use Rattle.px_lex.specs.declared.token.TokenKind.{TokenKind}
use Rattle.px_lex.specs.declared.token.TokenKind.TheVariants as kinds
use Rattle.px_lex.specs.Keyword.{keyword_of}
use Rattle.px_lex.specs.Word.{IsWord, is_real_type}
use Rattle.px_lex.specs.Number.{IsNumber, number_of, is_fraction}
use Rattle.px_lex.specs.String.{read_string}
use Rattle.px_lex.specs.Sign.{sign_of, ends_sign}

-- a name: a word that is no keyword, of at most 64 bytes
pub record SpellsIdentifier (name spelling rest : List ℕ) : Type 0 where
  pub same : spelling ≡ name
  pub word : IsWord spelling rest
  pub no_keyword : keyword_of spelling ≡ None
  pub allowed : is_real_type spelling ≡ false
  pub short : length spelling ≤ 64

-- an integer of 32 bits
pub record SpellsInteger (value : ℕ) (spelling rest : List ℕ) : Type 0 where
  pub number : IsNumber spelling rest
  pub writes : number_of spelling ≡ Some value
  pub whole : is_fraction spelling rest ≡ false
  pub small : value < 2 ^ 31

-- a string of at most 1,024 bytes of content
pub record SpellsText (content spelling rest : List ℕ) : Type 0 where
  pub read : read_string (spelling ++ rest) ≡ Some (content, rest)
  pub short : length content ≤ 1024

-- a token of this kind before the rest
abbrev pub IsToken : TokenKind → List ℕ → List ℕ → Type 0
IsToken (kinds.Identifier name) spelling rest = SpellsIdentifier name spelling rest
IsToken (kinds.Keyword word) spelling rest = IsWord spelling rest × (keyword_of spelling ≡ Some word)
IsToken (kinds.Integer z) spelling rest =
    (value : ℕ) × (z ≡ pos value) × SpellsInteger value spelling rest
IsToken (kinds.Text content) spelling rest = SpellsText content spelling rest
IsToken (kinds.Sign sign) spelling rest =
    (sign_of spelling ≡ Some sign) × (ends_sign spelling rest ≡ true)
