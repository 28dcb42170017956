-- What the tokens of a text tell of the string that it is.
use Rattle.std.proofs.Common.{◌≡◌, ◌≢◌, ℕ, Bool, true, false, List, [], ◌∷◌, ◌++◌, ◌+◌, length, refl, sym, ap, ◌∙◌, subst, Option, Some, None, inl, inr}
use Rattle.std.specs.Prelude.{◌&&◌, nat_le, if◌then◌else◌}
use Rattle.std.specs.Str.{is_utf8}
use Rattle.std.proofs.lemmas.Bool.{cases_Bool, eqb-true, false≢true}
use Rattle.std.proofs.lemmas.List.{append-nil, append_assoc}
use Rattle.px_value.specs.declared.value.Value.{Value}
use Rattle.px_value.specs.declared.value.Value.TheVariants as values
use Rattle.px_value.proofs.General.{neither}
use Rattle.px_lex.specs.declared.fault.LexFault.{LexFault}
use Rattle.px_lex.specs.declared.fault.LexFault.TheVariants as faults
use Rattle.px_lex.specs.declared.token.Token.{Token}
use Rattle.px_lex.specs.declared.token.TokenKind.TheVariants as kinds
use Rattle.px_lex.specs.Fault.{FaultKind, Bad, TooLong, IsFaulty}
use Rattle.px_lex.specs.Gap.{begins}
use Rattle.px_lex.specs.Lexer.{Piece, spelled, AllStand, token_at, tokens_from, Splits, FirstFault}
use Rattle.px_lex.specs.String.{is_quote, string_from, read_string}
use Rattle.px_lex.proofs.Fronts.{piece, faulty, front, stands_front, fault_front}
use Rattle.px_lex.proofs.Unique.{kind_of, rest_of, clash, faulty_kind, not_at_end}
use Rattle.px_event.specs.Values.{is_plain}
use Rattle.px_script.specs.Value.{plain, all_of, text_of}

-- ---- what stands at the front of a text that begins with a quote

front_none : (cs : List ℕ) → string_from cs ≡ None → front (34 ∷ cs) ≡ faulty Bad
front_none cs h = rw h refl

front_text : (cs content rest : List ℕ) → string_from cs ≡ Some (content, rest) → nat_le (length content) 1024 ≡ true
    → front (34 ∷ cs) ≡ piece (Some (kinds.Text content)) rest
front_text cs content rest h short = rw (h, short) refl

front_long : (cs content rest : List ℕ) → string_from cs ≡ Some (content, rest) → nat_le (length content) 1024 ≡ false → front (34 ∷ cs) ≡ faulty TooLong
front_long cs content rest h long = rw (h, long) refl

-- ---- what stands at the front of a text that splits, or splits up to a fault

first_front : (text rest : List ℕ) (p : Piece) (ps : List Piece) → text ≡ spelled (p ∷ ps) ++ rest → AllStand (p ∷ ps) rest
    → front text ≡ piece p.kind (spelled ps ++ rest)
first_front text rest p ps whole stand =
    ap front (whole ∙ append_assoc p.spelling (spelled ps) rest) ∙ stands_front p.kind p.spelling (spelled ps ++ rest) stand.0

-- nothing stands behind the string at the front of a text
abbrev pub IsAll : List ℕ → Type 0
IsAll text = (content rest : List ℕ) → read_string text ≡ Some (content, rest) → rest ≡ []

-- ---- a text that splits into tokens

-- what is found in tokens is the text that the first of them is, and it is plain
pub record IsFirst (tokens : List Token) (found : Option Value) : Type 0 where
  pub first : (content : List ℕ) (place : ℕ) (more : List Token) → tokens ≡ record { kind = kinds.Text content; at = place } ∷ more → found ≡ Some (values.Text content)
  pub plain : (value : Value) → found ≡ Some value → is_plain value ≡ true

by_read : (cs : List ℕ) (tokens : List Token) (found : Option Value) (p : Piece) (ps : List Piece) (read : Option (List ℕ × List ℕ)) → string_from cs ≡ read
    → front (34 ∷ cs) ≡ piece p.kind (spelled ps ++ []) → tokens ≡ tokens_from 0 (p ∷ ps) → IsAll (34 ∷ cs) → IsFirst tokens found → found ≡ all_of read
by_read cs tokens found p ps None is first listed all f = absurd (clash Bad p.kind (spelled ps ++ []) (sym (front_none cs is) ∙ first))
by_read cs tokens found p ps (Some (content, rest)) is first listed all f = elim (cases_Bool (nat_le (length content) 1024)) [
  | inl short ↦
      let kind : p.kind ≡ Some (kinds.Text content) = ap kind_of (sym first ∙ front_text cs content rest is short) in
      let told : found ≡ Some (values.Text content)
      = f.first content 0 (tokens_from (0 + length p.spelling) ps) (listed ∙ ap (λ kind. token_at 0 kind ++ tokens_from (0 + length p.spelling) ps) kind) in
      rw (all content rest is, f.plain (values.Text content) told) told
  | inr long ↦ absurd (clash TooLong p.kind (spelled ps ++ []) (sym (front_long cs content rest is long) ∙ first))
]

by_pieces : (cs : List ℕ) (tokens : List Token) (found : Option Value) (pieces : List Piece) → 34 ∷ cs ≡ spelled pieces → AllStand pieces []
    → tokens ≡ tokens_from 0 pieces → IsAll (34 ∷ cs) → IsFirst tokens found → found ≡ text_of (34 ∷ cs)
by_pieces cs tokens found [] whole stand listed all f = cc
by_pieces cs tokens found (p ∷ ps) whole stand listed all f =
    by_read cs tokens found p ps (string_from cs) refl (first_front (34 ∷ cs) [] p ps (whole ∙ sym (append-nil (spelled (p ∷ ps)))) stand) listed all f

pub lexed : (text : List ℕ) (tokens : List Token) (found : Option Value) → begins is_quote text ≡ true → Splits text tokens → IsAll text → IsFirst tokens found
    → found ≡ text_of text
lexed [] tokens found quote s all f = cc
lexed (c ∷ cs) tokens found quote s all f =
    let is : 34 ∷ cs ≡ c ∷ cs = ap (λ c. c ∷ cs) (sym (eqb-true c 34 quote)) in
    subst (λ text. IsAll text → Splits text tokens → found ≡ text_of text) is
    (λ all s. by_pieces cs tokens found s.pieces s.whole s.stand s.listed all f) all s

-- ---- a text with a fault

too_long : (content : List ℕ) → nat_le (length content) 1024 ≡ false → None ≡ plain (values.Text content)
too_long content long = by (is_utf8 content)
  where
    by : (b : Bool) → ◌≡◌ {A = Option Value} None (if b && nat_le (length content) 1024 then Some (values.Text content) else None)
    by true = rw long refl
    by false = refl

long_all : (content rest : List ℕ) → nat_le (length content) 1024 ≡ false → None ≡ all_of (Some (content, rest))
long_all content [] long = too_long content long
long_all content (c ∷ cs) long = refl

at_once : (cs : List ℕ) (kind : FaultKind) (read : Option (List ℕ × List ℕ)) → string_from cs ≡ read → front (34 ∷ cs) ≡ faulty kind → None ≡ all_of read
at_once cs kind None is first = refl
at_once cs kind (Some (content, rest)) is first = elim (cases_Bool (nat_le (length content) 1024)) [
  | inl short ↦ absurd (clash kind (Some (kinds.Text content)) rest (sym first ∙ front_text cs content rest is short))
  | inr long ↦ long_all content rest long
]

later : (cs rest : List ℕ) (kind : FaultKind) (p : Piece) (ps : List Piece) (read : Option (List ℕ × List ℕ)) → string_from cs ≡ read
    → front (34 ∷ cs) ≡ piece p.kind (spelled ps ++ rest) → IsAll (34 ∷ cs) → IsFaulty kind rest → None ≡ all_of read
later cs rest kind p ps None is first all h = refl
later cs rest kind p ps (Some (content, behind)) is first all h = elim (cases_Bool (nat_le (length content) 1024)) [
  | inl short ↦
      let left : spelled ps ++ rest ≡ [] = ap rest_of (sym first ∙ front_text cs content behind is short) ∙ all content behind is in
      absurd (not_at_end kind (subst (IsFaulty kind) (neither (spelled ps) rest left).1 h))
  | inr long ↦ long_all content behind long
]

fault_by_pieces : (cs rest : List ℕ) (kind : FaultKind) (pieces : List Piece) → 34 ∷ cs ≡ spelled pieces ++ rest → AllStand pieces rest → IsFaulty kind rest
    → IsAll (34 ∷ cs) → None ≡ text_of (34 ∷ cs)
fault_by_pieces cs rest kind [] whole stand h all = at_once cs kind (string_from cs) refl (ap front whole ∙ fault_front kind rest h)
fault_by_pieces cs rest kind (p ∷ ps) whole stand h all =
    later cs rest kind p ps (string_from cs) refl (first_front (34 ∷ cs) rest p ps whole stand) all h

pub unlexed : (text : List ℕ) (fault : LexFault) → begins is_quote text ≡ true → FirstFault text fault → fault ≢ faults.NoMemory → IsAll text → None ≡ text_of text
unlexed [] fault quote f told all = cc
unlexed (c ∷ cs) fault quote f told all =
    let kind : (kind : FaultKind) × IsFaulty kind f.rest = faulty_kind fault (length (spelled f.pieces)) f.rest told f.there in
    let is : c ∷ cs ≡ 34 ∷ cs = ap (λ c. c ∷ cs) (eqb-true c 34 quote) in
    subst (λ text. None ≡ text_of text) (sym is)
    (fault_by_pieces cs f.rest kind.0 f.pieces (sym is ∙ f.whole) f.stand kind.1 (subst IsAll is all))

-- a text with something behind its string, or without one
pub unended : (text : List ℕ) → ((content rest : List ℕ) → read_string text ≡ Some (content, rest) → (false ≡ true → rest ≡ []) × (rest ≡ [] → false ≡ true))
    → None ≡ text_of text
unended text h = by (read_string text) refl
  where
    by : (read : Option (List ℕ × List ℕ)) → read_string text ≡ read → None ≡ all_of read
    by None is = refl
    by (Some (content, [])) is = absurd (false≢true ((h content [] is).1 refl))
    by (Some (content, c ∷ cs)) is = refl
