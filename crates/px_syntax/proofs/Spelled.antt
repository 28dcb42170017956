-- Each token that a text splits into stands in it.
use Rattle.std.proofs.Common.{◌≡◌, ℕ, zero, suc, ◌+◌, List, [], ◌∷◌, ◌++◌, length, Option, Some, None, sym, ap, ◌∙◌, subst, append_assoc, append-nil}
use Rattle.px_lex.specs.declared.token.Token.{Token}
use Rattle.px_lex.specs.declared.token.TokenKind.{TokenKind}
use Rattle.px_lex.specs.Lexer.{Piece, Stands, AllStand, spelled, token_at, tokens_from, Splits}
use Rattle.px_lex.specs.Token.{IsToken}
use Rattle.px_syntax.specs.Form.{kind_at}

-- the token of a kind that a text has, as it stands in the text
pub record IsSpelled (text : List ℕ) (kind : TokenKind) : Type 0 where
  pub front : List ℕ
  pub spelling : List ℕ
  pub rest : List ℕ
  pub there : text ≡ front ++ (spelling ++ rest)
  pub token : IsToken kind spelling rest

spelled_at :
    (text front : List ℕ) (at : ℕ) (pieces : List Piece) (rest : List ℕ) → text ≡ front ++ (spelled pieces ++ rest) → AllStand pieces rest
    → (kind : TokenKind) (number : ℕ) → kind_at (tokens_from at pieces) number ≡ Some kind → IsSpelled text kind
spelled_at text front at [] rest is stand kind number has = absurd (cc)
spelled_at text front at (piece ∷ pieces) rest is stand kind number has =
    by piece.kind stand.0 number has
    (spelled_at text (front ++ piece.spelling) (at + length piece.spelling) pieces rest
    (here ∙ sym (append_assoc front piece.spelling (spelled pieces ++ rest))) stand.1 kind)
  where
    others : List Token
    others = tokens_from (at + length piece.spelling) pieces

    here : text ≡ front ++ (piece.spelling ++ (spelled pieces ++ rest))
    here = is ∙ ap (λ text. front ++ text) (append_assoc piece.spelling (spelled pieces) rest)

    by : (own : Option TokenKind) → Stands own piece.spelling (spelled pieces ++ rest)
        → (number : ℕ) → kind_at (token_at at own ++ others) number ≡ Some kind
        → ((number : ℕ) → kind_at others number ≡ Some kind → IsSpelled text kind) → IsSpelled text kind
    by None stands number has later = later number has
    by (Some own) stands zero has later =
        let same : own ≡ kind = (cc) in
        record {
          front = front;
          spelling = piece.spelling;
          rest = spelled pieces ++ rest;
          there = here;
          token = subst (λ k. IsToken k piece.spelling (spelled pieces ++ rest)) same stands;
        }
    by (Some own) stands (suc number) has later = later number has

pub spelled_in :
    (text : List ℕ) (tokens : List Token) → Splits text tokens
    → (kind : TokenKind) (number : ℕ) → kind_at tokens number ≡ Some kind → IsSpelled text kind
spelled_in text tokens splits kind number has =
    spelled_at text [] 0 splits.pieces [] (splits.whole ∙ sym (append-nil (spelled splits.pieces))) splits.stand kind number
    (sym (ap (λ all. kind_at all number) splits.listed) ∙ has)
