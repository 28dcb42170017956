-- The three gaps: where a text may be cut behind one, and what stands there.
use Rattle.std.proofs.Common.{◌≡◌, ℕ, suc, ◌+◌, ◌-◌, ◌≤◌, true, ◌&&◌, ◌==◌, List, [], ◌∷◌, ◌++◌, length, take, drop, get_or, Some, None, refl, sym, ap, ◌∙◌, subst, arith, inl, inr, length-append, append_assoc}
use Rattle.std.specs.Prelude.{codes}
use Rattle.std.specs.Char.{is_ascii}
use Rattle.std.specs.List.{prefix_len}
use Rattle.std.specs.Str.{IsUtf8, IsCharBoundary}
use Rattle.std.proofs.iter.AsciiBoundary.{before_ascii}
use Rattle.std.proofs.lemmas.Bool.{cases_Bool, and_parts, not-false, eqb-true}
use Rattle.std.proofs.lemmas.Bool.Decides.{nat_tests}
use Rattle.std.proofs.lemmas.List.{take-append-drop, take_rest}
use Rattle.std.proofs.lemmas.List.Sums.{prefix_len-le-length, prefix_len_stops}
use Rattle.std.proofs.lemmas.Option.{none-some}
use Rattle.std.proofs.lemmas.Str.{IsCharBoundary-after_ascii}
use Rattle.std.proofs.Math.Seq.{drop-append_seam, get_or-append_seam}
use Rattle.px_lex.specs.Gap.{begins, is_white_space, is_in_line, after_close, blank, line_comment, comment}
use Rattle.px_lex.specs.Lexer.{Begins}
use Rattle.px_lex.proofs.Cuts.{cut_behind}
use Rattle.px_lex.proofs.Spans.{taken_pass, left_stops}

-- a blank
pub ascii_blank : (c : ℕ) → is_white_space c ≡ true → is_ascii c ≡ true
ascii_blank c h = grind (arith, nat_tests)

pub blank_cut : (text : List ℕ) → begins is_white_space text ≡ true → IsUtf8 text → IsCharBoundary text 1
blank_cut [] h u = cc
blank_cut (c ∷ cs) h u = cut_behind (c ∷ cs) (c ∷ []) cs refl (rw (ascii_blank c h)) u

pub blank_begins : (text : List ℕ) → begins is_white_space text ≡ true → Begins None text (drop 1 text)
blank_begins [] h = cc
blank_begins (c ∷ cs) h = record { spelling = c ∷ []; split = refl; some = omega arith; stands = blank c refl h }

-- // up to the end of its line
pub line_cut : (text : List ℕ) → IsCharBoundary text (prefix_len is_in_line text)
line_cut text = before_ascii text (prefix_len is_in_line text) (prefix_len-le-length is_in_line text) (λ inside.
    let feed : get_or text (prefix_len is_in_line text) 0 ≡ 10 =
    eqb-true _ 10 (not-false (get_or text (prefix_len is_in_line text) 0 == 10) (prefix_len_stops is_in_line text 0 inside)) in
    omega arith)

pub line_begins : (text tail rest : List ℕ) → text ≡ codes "//" ++ tail → rest ≡ drop (prefix_len is_in_line text) text → Begins None text rest
line_begins text tail rest e r =
    let n = prefix_len is_in_line tail in
    let front : List ℕ = codes "//" ++ take n tail in
    let whole : text ≡ front ++ drop n tail = e ∙ ap (λ t. codes "//" ++ t) (sym (take-append-drop n tail)) in
    let long : prefix_len is_in_line text ≡ suc (suc n) = ap (prefix_len is_in_line) e ∙ omega arith in
    let left : rest ≡ drop n tail = r ∙ (λ i. drop (long i) (e i)) in
    record {
      spelling = front;
      split = whole ∙ ap (λ t. front ++ t) (sym left);
      some = omega arith;
      stands = line_comment (record {
        comment = take n tail;
        spelled = refl;
        one_line = taken_pass is_in_line tail (take n tail) refl;
        longest = left_stops is_in_line tail rest left;
      });
    }

-- /* up to its */
pub behind_opening : (text tail : List ℕ) → text ≡ codes "/*" ++ tail → take (length text - 2) (drop 2 text) ≡ tail
behind_opening text tail e = take_rest text 2 ∙ ap (drop 2) e

pub closing : (tail rest : List ℕ) → after_close tail ≡ Some rest → (front : List ℕ) × (tail ≡ front ++ (47 ∷ rest))
closing [] rest h = cc
closing (c ∷ []) rest h = absurd (elim (cases_Bool (c == 42)) [
  | inl star ↦ none-some rest (rw star at h)
  | inr other ↦ none-some rest (rw other at h)
])
closing (c ∷ d ∷ cs) rest h = elim (cases_Bool ((c == 42) && (d == 47))) [
  | inl here ↦ let end : Some cs ≡ Some rest = rw here at h in
      let slash : d ≡ 47 = eqb-true d 47 (and_parts (c == 42) (d == 47) here).1 in
      (c ∷ [], cc)
  | inr later ↦ let found : (front : List ℕ) × (d ∷ cs ≡ front ++ (47 ∷ rest)) = closing (d ∷ cs) rest (rw later at h) in (c ∷ found.0, ap (λ t. c ∷ t) found.1)
]

pub comment_cut : (text tail rest : List ℕ) → text ≡ codes "/*" ++ tail → after_close tail ≡ Some rest → IsUtf8 text → (length rest ≤ length text) × IsCharBoundary text (length text - length rest)
comment_cut text tail rest e h u =
    let found : (front : List ℕ) × (tail ≡ front ++ (47 ∷ rest)) = closing tail rest h in
    let front : List ℕ = codes "/*" ++ found.0 in
    let whole : text ≡ front ++ (47 ∷ rest) = e ∙ ap (λ t. codes "/*" ++ t) found.1 in
    let long : length text ≡ length front + (1 + length rest) = omega (arith, ap length whole, length-append front (47 ∷ rest)) in
    let slash : get_or text (length front) 0 ≡ 47 = ap (λ t. get_or t (length front) 0) whole ∙ get_or-append_seam front 47 rest 0 in
    let place : length front + 1 ≡ length text - length rest = omega arith in
    (omega arith, subst (IsCharBoundary text) place (IsCharBoundary-after_ascii text (length front) u (omega arith) (omega arith)))

pub comment_begins : (text tail rest left : List ℕ) → text ≡ codes "/*" ++ tail → after_close tail ≡ Some rest → left ≡ drop (length text - length rest) text → Begins None text left
comment_begins text tail rest left e h r =
    let found : (front : List ℕ) × (tail ≡ front ++ (47 ∷ rest)) = closing tail rest h in
    let front : List ℕ = codes "/*" ++ (found.0 ++ (47 ∷ [])) in
    let whole : text ≡ front ++ rest = e ∙ ap (λ t. codes "/*" ++ t) (found.1 ∙ sym (append_assoc found.0 (47 ∷ []) rest)) in
    let place : length text - length rest ≡ length front = omega (arith, ap length whole, length-append front rest) in
    let same : left ≡ rest = r ∙ ap (λ n. drop n text) place ∙ ap (drop (length front)) whole ∙ drop-append_seam front rest in
    record {
      spelling = front;
      split = whole ∙ ap (λ t. front ++ t) (sym same);
      some = omega arith;
      stands = comment (record { tail = tail; spelled = ap (λ t. front ++ t) same ∙ sym whole ∙ e; closed = rw same h });
    }
