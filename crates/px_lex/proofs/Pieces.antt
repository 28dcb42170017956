-- How the pieces of a text grow by one.
use Rattle.std.proofs.Common.{◌≡◌, ℕ, ◌+◌, ◌-◌, List, [], ◌∷◌, ◌++◌, length, Option, Some, None, sym, ap, ◌∙◌, subst, arith, append_assoc, append-nil, length-append}
use Rattle.std.proofs.lemmas.Grind.{flat_map-append}
use Rattle.px_lex.specs.declared.fault.LexFault.{LexFault}
use Rattle.px_lex.specs.declared.token.Token.{Token}
use Rattle.px_lex.specs.declared.token.TokenKind.{TokenKind}
use Rattle.px_lex.specs.Lexer.{Piece, Stands, Begins, spelled, AllStand, token_at, tokens_from, IsFault, FirstFault}

-- the text is pieces and a rest, and the tokens are theirs
pub record SoFar (text rest : List ℕ) (tokens : List Token) : Type 0 where
  pub pieces : List Piece
  pub whole : text ≡ spelled pieces ++ rest
  pub stand : AllStand pieces rest
  pub listed : tokens ≡ tokens_from 0 pieces

pub stand-append : (ps qs : List Piece) (rest : List ℕ) → AllStand ps (spelled qs ++ rest) → AllStand qs rest → AllStand (ps ++ qs) rest
stand-append [] qs rest first second = second
stand-append (p ∷ ps) qs rest first second = (
  subst (Stands p.kind p.spelling) (sym (append_assoc (spelled ps) (spelled qs) rest) ∙ ap (λ t. t ++ rest) (sym (flat_map-append (λ (piece : Piece). piece.spelling) ps qs))) first.0,
  stand-append ps qs rest first.1 second,
)

tokens_from-push : (at : ℕ) (pieces : List Piece) (p : Piece) → tokens_from at (pieces ++ (p ∷ [])) ≡ tokens_from at pieces ++ token_at (at + length (spelled pieces)) p.kind
tokens_from-push at [] p = append-nil (token_at at p.kind) ∙ (let same : at ≡ at + 0 = omega arith in ap (λ n. token_at n p.kind) same)
tokens_from-push at (q ∷ qs) p =
    let later : at + length q.spelling + length (spelled qs) ≡ at + length (q.spelling ++ spelled qs) = omega (arith, length-append q.spelling (spelled qs)) in
    ap (λ ts. token_at at q.kind ++ ts) (tokens_from-push (at + length q.spelling) qs p ∙ ap (λ n. tokens_from (at + length q.spelling) qs ++ token_at n p.kind) later)
    ∙ sym (append_assoc (token_at at q.kind) (tokens_from (at + length q.spelling) qs) (token_at (at + length (q.spelling ++ spelled qs)) p.kind))

pub place : (text rest : List ℕ) (tokens : List Token) (s : SoFar text rest tokens) → length text - length rest ≡ length (spelled s.pieces)
place text rest tokens s = omega (arith, ap length s.whole, length-append (spelled s.pieces) rest)

pub step : (text rest behind : List ℕ) (tokens : List Token) (kind : Option TokenKind) → SoFar text rest tokens → Begins kind rest behind → SoFar text behind (tokens ++ token_at (length text - length rest) kind)
step text rest behind tokens kind s b =
    let p : Piece = record { kind = kind; spelling = b.spelling } in
    let spelling : spelled (p ∷ []) ≡ b.spelling = append-nil b.spelling in
    let there : length text - length rest ≡ 0 + length (spelled s.pieces) = omega (arith, place text rest tokens s) in
    record {
      pieces = s.pieces ++ (p ∷ []);
      whole = s.whole ∙ ap (λ t. spelled s.pieces ++ t) b.split ∙ sym (append_assoc (spelled s.pieces) b.spelling behind) ∙ ap (λ t. t ++ behind) (sym (flat_map-append (λ (piece : Piece). piece.spelling) s.pieces (p ∷ []) ∙ ap (λ t. spelled s.pieces ++ t) spelling));
      stand = stand-append s.pieces (p ∷ []) behind (subst (AllStand s.pieces) (b.split ∙ ap (λ t. t ++ behind) (sym spelling)) s.stand) (b.stands, tt);
      listed = ap (λ ts. ts ++ token_at (length text - length rest) kind) s.listed ∙ ap (λ n. tokens_from 0 s.pieces ++ token_at n kind) there ∙ sym (tokens_from-push 0 s.pieces p);
    }

pub fail : (text rest : List ℕ) (tokens : List Token) (fault : LexFault) → SoFar text rest tokens → IsFault fault (length text - length rest) rest → FirstFault text fault
fail text rest tokens fault s f = record { pieces = s.pieces; rest = rest; whole = s.whole; stand = s.stand; there = subst (λ n. IsFault fault n rest) (place text rest tokens s) f }

-- the steps of the lexer's loop
pub step_gap : (text rest behind : List ℕ) (tokens : List Token) (kind : Option TokenKind) → SoFar text rest tokens → Begins kind rest behind → kind ≡ None → SoFar text behind tokens
step_gap text rest behind tokens kind s b none =
    subst (SoFar text behind) (ap (λ k. tokens ++ token_at (length text - length rest) k) none ∙ append-nil tokens) (step text rest behind tokens kind s b)

pub step_token : (text rest behind : List ℕ) (tokens tokens' : List Token) (at : ℕ) (kind : Option TokenKind) (k : TokenKind) → SoFar text rest tokens → Begins kind rest behind → kind ≡ Some k → at ≡ length text - length rest → tokens' ≡ tokens ++ (record { kind = k; at = at } ∷ []) → SoFar text behind tokens'
step_token text rest behind tokens tokens' at kind k s b some place more =
    subst (SoFar text behind) (ap (λ o. tokens ++ token_at (length text - length rest) o) some ∙ ap (λ n. tokens ++ token_at n (Some k)) (sym place) ∙ sym more) (step text rest behind tokens kind s b)
