-- Texts that are pieces before a rest, and forms that their tokens have wherever these stand.
use Rattle.std.proofs.Common.{◌≡◌, ℕ, ◌+◌, true, List, [], ◌∷◌, ◌++◌, length, fold, Option, Some, None, refl, sym, ap, ◌∙◌, subst, append_assoc, append-nil}
use Rattle.std.specs.List.{list_all}
use Rattle.std.specs.Str.{IsUtf8}
use Rattle.std.proofs.lemmas.Bool.{and_parts, ltb-true}
use Rattle.std.proofs.lemmas.Grind.{flat_map-append}
use Rattle.std.proofs.lemmas.List.{length_push}
use Rattle.std.proofs.lemmas.List.Sums.{fold-append}
use Rattle.std.proofs.lemmas.Str.{IsUtf8-append, IsUtf8-nil}
use Rattle.px_lex.proofs.Gaps.{ascii_blank}
use Rattle.px_lex.proofs.Pieces.{stand-append}
use Rattle.px_lex.specs.declared.token.Token.{Token}
use Rattle.px_lex.specs.declared.token.TokenKind.{TokenKind}
use Rattle.px_lex.specs.Gap.{is_white_space, IsGap}
use Rattle.px_lex.specs.Lexer.{Piece, spelled, AllStand, token_at, tokens_from}
use Rattle.px_lex.specs.Token.{IsToken}
use Rattle.px_syntax.specs.Form.{Form, kind_at, one, nothing, ◌then◌}
use Rattle.px_print.proofs.Utf8.{ascii_then}

-- ---- where their tokens stand

-- the number behind a piece, if the piece has this number where it is a token
abbrev pub next : Option TokenKind → ℕ → ℕ
next None from = from
next (Some kind) from = from + 1

abbrev pub behind : List Piece → ℕ → ℕ
behind pieces from = fold (λ (at : ℕ) (piece : Piece). next piece.kind at) from pieces

abbrev pub Stays : Option TokenKind → List Token → ℕ → Type 0
Stays None tokens from = Unit {0}
Stays (Some kind) tokens from = kind_at tokens from ≡ Some kind

-- the tokens of pieces stand among tokens from a number on
abbrev pub StandsAt : List Piece → List Token → ℕ → Type 0
StandsAt [] tokens from = Unit {0}
StandsAt (piece ∷ pieces) tokens from =
    Stays piece.kind tokens from × StandsAt pieces tokens (next piece.kind from)

behind-append : (ps qs : List Piece) (from : ℕ) → behind (ps ++ qs) from ≡ behind qs (behind ps from)
behind-append ps qs from = fold-append (λ (at : ℕ) (piece : Piece). next piece.kind at) from ps qs

stands_at-append : (ps qs : List Piece) (tokens : List Token) (from : ℕ) → StandsAt (ps ++ qs) tokens from
    → StandsAt ps tokens from × StandsAt qs tokens (behind ps from)
stands_at-append [] qs tokens from h = (tt, h)
stands_at-append (p ∷ ps) qs tokens from h =
    let more = stands_at-append ps qs tokens (next p.kind from) h.1 in ((h.0, more.0), more.1)

-- ---- printing

-- The text before a rest is pieces, whose tokens have a form wherever they stand; and it is UTF-8, if the text is that its
-- names and strings come from.
pub record Prints (source : List ℕ) (form : Form) (text rest : List ℕ) : Type 0 where
  pub pieces : List Piece
  pub whole : text ≡ spelled pieces
  pub stand : AllStand pieces rest
  pub reads : (tokens : List Token) (from : ℕ) → StandsAt pieces tokens from → form tokens from (behind pieces from)
  pub kept : IsUtf8 source → IsUtf8 text

pub prints_nothing : {source : List ℕ} (rest : List ℕ) → Prints source nothing [] rest
prints_nothing rest = record { pieces = []; whole = refl; stand = tt; reads = λ tokens from at. refl; kept = λ u. IsUtf8-nil }

pub prints_as : {source : List ℕ} {f g : Form} {text rest : List ℕ} → Prints source f text rest
    → ((tokens : List Token) (from to : ℕ) → f tokens from to → g tokens from to) → Prints source g text rest
prints_as p each =
    record {
      pieces = p.pieces;
      whole = p.whole;
      stand = p.stand;
      reads = λ tokens from at. each tokens from (behind p.pieces from) (p.reads tokens from at);
      kept = p.kept;
    }

-- what follows what stands before a text
abbrev pub follow : {source : List ℕ} {g : Form} {second rest : List ℕ} → Prints source g second rest → List ℕ
follow {second = second} {rest = rest} q = second ++ rest

-- what is printed last comes first
pub prints_then : {source : List ℕ} {f g : Form} {first second rest : List ℕ} → Prints source g second rest → Prints source f first (second ++ rest)
    → Prints source (f then g) (first ++ second) rest
prints_then {f = f} {g = g} {first = first} {second = second} {rest = rest} q p = record {
  pieces = p.pieces ++ q.pieces;
  whole = (λ i. p.whole i ++ q.whole i) ∙ sym (flat_map-append (λ (piece : Piece). piece.spelling) p.pieces q.pieces);
  stand = stand-append p.pieces q.pieces rest (subst (λ t. AllStand p.pieces (t ++ rest)) q.whole p.stand) q.stand;
  reads = λ tokens from at.
      let both = stands_at-append p.pieces q.pieces tokens from at in
      subst (λ to. (f then g) tokens from to) (sym (behind-append p.pieces q.pieces from))
      (behind p.pieces from, p.reads tokens from both.0, q.reads tokens (behind p.pieces from) both.1);
  kept = λ u. IsUtf8-append first second (p.kept u) (q.kept u);
}

pub prints_token : {source : List ℕ} (kind : TokenKind) (text rest : List ℕ) → IsToken kind text rest → (IsUtf8 source → IsUtf8 text)
    → Prints source (one kind) text rest
prints_token kind text rest is kept = record {
  pieces = record { kind = Some kind; spelling = text } ∷ [];
  whole = sym (append-nil text);
  stand = (is, tt);
  reads = λ tokens from at. (at.0, refl);
  kept = kept;
}

-- white space before a text, or behind it
pub prints_behind : {source : List ℕ} {f : Form} {text rest : List ℕ} (gap : List ℕ) → list_all is_white_space gap ≡ true → Prints source f text rest
    → Prints source f (gap ++ text) rest
prints_behind [] blank p = p
prints_behind {text = text} (c ∷ gap) blank p =
    let parts = and_parts (is_white_space c) (list_all is_white_space gap) blank in
    let more = prints_behind gap parts.1 p in
    record {
      pieces = record { kind = None; spelling = c ∷ [] } ∷ more.pieces;
      whole = ap (λ t. c ∷ t) more.whole;
      stand = (IsGap.blank c refl parts.0, more.stand);
      reads = λ tokens from at. more.reads tokens from at.1;
      kept = λ u. ascii_then c (gap ++ text) (ltb-true c 128 (ascii_blank c parts.0)) (more.kept u);
    }

pub prints_before : {source : List ℕ} {f : Form} {text : List ℕ} (gap rest : List ℕ) → list_all is_white_space gap ≡ true → Prints source f text (gap ++ rest)
    → Prints source f (text ++ gap) rest
prints_before {source = source} {f = f} gap rest blank p =
    let blanks : Prints source nothing gap rest =
    subst (λ t. Prints source nothing t rest) (append-nil gap) (prints_behind gap blank (prints_nothing rest)) in
    prints_as (prints_then blanks p) (λ tokens from to h. subst (λ end. f tokens from end) (sym h.2) h.1)

-- ---- a whole text

kind_there : (front : List Token) (token : Token) (rest : List Token) → kind_at (front ++ (token ∷ rest)) (length front) ≡ Some token.kind
kind_there [] token rest = refl
kind_there (t ∷ front) token rest = kind_there front token rest

-- pieces stand among their own tokens, behind others
record Whole (pieces : List Piece) (front : List Token) (at : ℕ) : Type 0 where
  stands : StandsAt pieces (front ++ tokens_from at pieces) (length front)
  ends : behind pieces (length front) ≡ length (front ++ tokens_from at pieces)

first_stands : (kind : Option TokenKind) (ps : List Piece) (front : List Token) (at next_at : ℕ)
    → ((front : List Token) → Whole ps front next_at)
    → (Stays kind (front ++ (token_at at kind ++ tokens_from next_at ps)) (length front)
    × StandsAt ps (front ++ (token_at at kind ++ tokens_from next_at ps)) (next kind (length front)))
    × (behind ps (next kind (length front)) ≡ length (front ++ (token_at at kind ++ tokens_from next_at ps)))
first_stands None ps front at next_at more = ((tt, (more front).stands), (more front).ends)
first_stands (Some kind) ps front at next_at more =
    let token : Token = record { kind = kind; at = at } in
    let rest = tokens_from next_at ps in
    let others = more (front ++ (token ∷ [])) in
    let same = append_assoc front (token ∷ []) rest in
    let long = length_push front token in (
      (
        kind_there front token rest,
        subst (λ ts. StandsAt ps ts (length front + 1)) same (subst (StandsAt ps ((front ++ (token ∷ [])) ++ rest)) long others.stands),
      ),
      ap (behind ps) (sym long) ∙ others.ends ∙ ap length same,
    )

whole_stands : (pieces : List Piece) (front : List Token) (at : ℕ) → Whole pieces front at
whole_stands [] front at = record { stands = tt; ends = ap length (sym (append-nil front)) }
whole_stands (p ∷ ps) front at =
    let first = first_stands p.kind ps front at (at + length p.spelling) (λ front. whole_stands ps front (at + length p.spelling)) in
    record { stands = first.0; ends = first.1 }

pub prints_whole : {source : List ℕ} (f : Form) (text : List ℕ) (p : Prints source f text []) → f (tokens_from 0 p.pieces) 0 (length (tokens_from 0 p.pieces))
prints_whole f text p =
    let there = whole_stands p.pieces [] 0 in
    subst (λ to. f (tokens_from 0 p.pieces) 0 to) there.ends (p.reads (tokens_from 0 p.pieces) 0 there.stands)
