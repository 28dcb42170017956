-- A whole text as gaps and tokens in turn, and the first fault of one that isn't.
use Rattle.std.specs.Prelude.{◌≡◌, ℕ, ◌+◌, ◌<◌, List, [], ◌∷◌, ◌++◌, length, Option, Some, None}
use Rattle.std.specs.List.{flat_map}
use Rattle.px_lex.specs.declared.fault.LexFault.{LexFault}
use Rattle.px_lex.specs.declared.fault.LexFault.TheVariants as faults
use Rattle.px_lex.specs.declared.token.Token.{Token}
use Rattle.px_lex.specs.declared.token.TokenKind.{TokenKind}
use Rattle.px_lex.specs.Gap.{IsGap}
use Rattle.px_lex.specs.Token.{IsToken}
use Rattle.px_lex.specs.Fault.{Bad, Real, TooLong, IsFaulty}

-- a gap, which has no kind, or the spelling of a token
pub record Piece : Type 0 where
  pub kind : Option TokenKind
  pub spelling : List ℕ

-- a piece stands before the rest, as long as it can be
abbrev pub Stands : Option TokenKind → List ℕ → List ℕ → Type 0
Stands None spelling rest = IsGap spelling rest
Stands (Some kind) spelling rest = IsToken kind spelling rest

-- a piece stands at the front of a text, and this is what is behind it
pub record Begins (kind : Option TokenKind) (text rest : List ℕ) : Type 0 where
  pub spelling : List ℕ
  pub split : text ≡ spelling ++ rest
  pub some : 0 < length spelling
  pub stands : Stands kind spelling rest

-- the text of pieces
abbrev pub spelled : List Piece → List ℕ
spelled = flat_map (λ piece. piece.spelling)

-- each piece stands before those behind it and the rest
abbrev pub AllStand : List Piece → List ℕ → Type 0
AllStand [] rest = Unit {0}
AllStand (piece ∷ pieces) rest =
    Stands piece.kind piece.spelling (spelled pieces ++ rest) × AllStand pieces rest

-- the token that a piece at a place is, where it is one
abbrev pub token_at : ℕ → Option TokenKind → List Token
token_at at None = []
token_at at (Some kind) = record { kind = kind; at = at } ∷ []

-- the tokens of pieces, the first of which stands at a place
abbrev pub tokens_from : ℕ → List Piece → List Token
tokens_from at [] = []
tokens_from at (piece ∷ pieces) =
    token_at at piece.kind ++ tokens_from (at + length piece.spelling) pieces

-- the text is gaps and tokens in turn, and these are the tokens
pub record Splits (text : List ℕ) (tokens : List Token) : Type 0 where
  pub pieces : List Piece
  pub whole : text ≡ spelled pieces
  pub stand : AllStand pieces []
  pub listed : tokens ≡ tokens_from 0 pieces

-- what stands at a place is at fault; want of memory says nothing
abbrev pub IsFault : LexFault → ℕ → List ℕ → Type 0
IsFault (faults.Bad at) place rest = (at ≡ place) × IsFaulty Bad rest
IsFault (faults.Real at) place rest = (at ≡ place) × IsFaulty Real rest
IsFault (faults.TooLong at) place rest = (at ≡ place) × IsFaulty TooLong rest
IsFault faults.NoMemory place rest = Unit {0}

-- the text is gaps and tokens up to a place where neither begins, and this fault stands there
pub record FirstFault (text : List ℕ) (fault : LexFault) : Type 0 where
  pub pieces : List Piece
  pub rest : List ℕ
  pub whole : text ≡ spelled pieces ++ rest
  pub stand : AllStand pieces rest
  pub there : IsFault fault (length (spelled pieces)) rest
