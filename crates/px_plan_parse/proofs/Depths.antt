-- What is open before a token, token by token.
use Rattle.std.proofs.Common.{◌≡◌, ℕ, zero, suc, ◌+◌, ◌-◌, ◌≤◌, ◌<◌, ◌⊎◌, inl, inr, refl, sym, ap, subst, ◌∙◌, List, [], ◌∷◌, ◌++◌, length, map, fold, take, drop, get_or, Option, Some, None, Bool, true, false, not, cond, arith, nat_le, nat_lt, ◌&&◌, ◌||◌}
use Rattle.std.specs.List.{count_by, filter, list_all, list_any, range_with_len, slice_get, slice_range}
use Rattle.std.specs.Option.{option_map, option_map_or}
use Rattle.std.proofs.lemmas.List.{length-append, length-drop, take-append-le, take_all}
use Rattle.std.proofs.Math.Bool.{and-true, or-false}
use Rattle.std.proofs.Math.Nat.{eq-or-lt_of_le}
use Rattle.std.proofs.lemmas.Bool.{and_parts, false_from_ne_true, le-leb, leb-true}
use Rattle.std.proofs.lemmas.Bool.Decides.{leb_tells}
use Rattle.std.proofs.lemmas.List.Edits.{between_more, between_none}
use Rattle.std.proofs.lemmas.List.Folds.{fold-map, list_all-append, list_all-map, list_any-append}
use Rattle.std.proofs.lemmas.List.FromFn.{fill_by_all, get_or-map-range_with_len, get_or-range_with_len, length-map-range_with_len, length-range_with_len}
use Rattle.std.proofs.lemmas.List.Sums.{get_or-le-sum_by, length-filter, sum_by_push}
use Rattle.std.proofs.lemmas.Option.{get_or_from_slice_get, slice_get_within}
use Rattle.px_value.proofs.General.{one_if, no_filtered, range_more}
use Rattle.px_lex.specs.declared.token.Token.{Token}
use Rattle.px_lex.specs.declared.token.TokenKind.{TokenKind}
use Rattle.px_lex.specs.declared.token.TokenKind.TheVariants as kinds
use Rattle.px_lex.specs.declared.sign.Sign.TheVariants as signs
use Rattle.px_syntax.specs.Depth.{count_of, counts_as_operator, ends_statement, is_closing, is_list_opening, is_minus, is_opening, is_operator, is_too_deep, open_before, operators_before, passes, stays_open, too_deep}
use Rattle.px_syntax.specs.Form.{kind_at}
use Rattle.px_syntax.specs.Operator.{binary_of, unary_of}
use Rattle.px_plan_parse.specs.declared.depth.Walk.{Walk}
use Rattle.px_plan_parse.specs.Walk.{counts, is_deep, walk_behind}

-- ---- ranges and counts

range_suc : (a n : ℕ) → range_with_len a (suc n) ≡ range_with_len a n ++ (a + n) ∷ []
range_suc a n = let e : suc n ≡ n + 1 = omega arith in ap (range_with_len a) e ∙ range_more a n

count_suc : (p : ℕ → Bool) (n : ℕ) → count_by p (range_with_len 0 (suc n)) ≡ count_by p (range_with_len 0 n) + cond (p n) 1 0
count_suc p n =
    let e : 0 + n ≡ n = omega arith in
    ap (count_by p) (range_suc 0 n) ∙ sum_by_push (λ (k : ℕ). cond (p k) 1 0) (range_with_len 0 n) (0 + n)
    ∙ ap (λ (k : ℕ). count_by p (range_with_len 0 n) + cond (p k) 1 0) e

-- tests that agree below n give one answer over the numbers below it
module _ (p q : ℕ → Bool) (n : ℕ) (same : (k : ℕ) → k < n → p k ≡ q k) where
  answers_same : map p (range_with_len 0 n) ≡ map q (range_with_len 0 n)
  answers_same =
      fill_by_all q (map p (range_with_len 0 n)) n true (length-map-range_with_len p 0 n)
      (λ k below. get_or-map-range_with_len p 0 n k k true below (omega arith) ∙ same k below)

  all_range : list_all p (range_with_len 0 n) ≡ list_all q (range_with_len 0 n)
  all_range =
      let itself = λ (b : Bool). b in
      sym (list_all-map itself p (range_with_len 0 n)) ∙ ap (list_all itself) answers_same ∙ list_all-map itself q (range_with_len 0 n)

  count_same : count_by p (range_with_len 0 n) ≡ count_by q (range_with_len 0 n)
  count_same =
      let more = λ (k : ℕ) (b : Bool). k + cond b 1 0 in
      sym (fold-map more p 0 (range_with_len 0 n)) ∙ ap (fold more 0) answers_same ∙ fold-map more q 0 (range_with_len 0 n)

count_none : (p : ℕ → Bool) (n : ℕ) → ((k : ℕ) → k < n → p k ≡ false) → count_by p (range_with_len 0 n) ≡ 0
count_none p n none =
    sym (length-filter p (range_with_len 0 n)) ∙ ap length (no_filtered p 0 n (λ k below. ap p (omega arith) ∙ none k below))

count_some : (p : ℕ → Bool) (n k : ℕ) → k < n → p k ≡ true → 0 < count_by p (range_with_len 0 n)
count_some p n k below is =
    let at : get_or (range_with_len 0 n) k 0 ≡ k = omega (arith, get_or-range_with_len 0 n k 0 below) in
    let here : one_if (p (get_or (range_with_len 0 n) k 0)) ≡ 1 = ap one_if (ap p at ∙ is) in
    omega (arith, here, get_or-le-sum_by (λ (j : ℕ). one_if (p j)) (range_with_len 0 n) k 0 (omega (arith, below, length-range_with_len 0 n)))

-- ---- the first of a range that passes

filter_first :
    (p : ℕ → Bool) (a n i : ℕ) → i < n → ((k : ℕ) → k < i → p (a + k) ≡ false) → p (a + i) ≡ true
    → (rest : List ℕ) × (filter p (range_with_len a n) ≡ (a + i) ∷ rest)
filter_first p a zero i below none is = absurd (omega (arith, below))
filter_first p a (suc n) zero below none is =
    let here : p a ≡ true = ap p (omega arith) ∙ is in (
      filter p (range_with_len (a + 1) n),
      ap (λ (b : Bool). cond b (a ∷ filter p (range_with_len (a + 1) n)) (filter p (range_with_len (a + 1) n))) here
          ∙ ap (λ (x : ℕ). x ∷ filter p (range_with_len (a + 1) n)) (omega arith),
    )
filter_first p a (suc n) (suc i) below none is =
    let here : p a ≡ false = ap p (omega arith) ∙ none 0 (omega arith) in
    let r =
    filter_first p (a + 1) n i (omega (arith, below))
    (λ k under. ap p (omega arith) ∙ none (k + 1) (omega (arith, under))) (ap p (omega arith) ∙ is) in (
      r.0,
      ap (λ (b : Bool). cond b (a ∷ filter p (range_with_len (a + 1) n)) (filter p (range_with_len (a + 1) n))) here
          ∙ r.1 ∙ ap (λ (x : ℕ). x ∷ r.0) (omega arith),
    )

-- ---- brackets that stay open

module _ (xs : List Token) (t : Token) where
  count_snoc : (test : TokenKind → Bool) → count_of test (xs ++ t ∷ []) ≡ count_of test xs + cond (test t.kind) 1 0
  count_snoc test = sum_by_push (λ (token : Token). cond (test token.kind) 1 0) xs t

  fewer : List Token → ℕ → Bool
  fewer ys n = nat_le (count_of is_closing (take n ys)) (count_of is_opening (take n ys))

  stays_snoc :
      stays_open (xs ++ t ∷ [])
      ≡ (stays_open xs && nat_le (count_of is_closing (xs ++ t ∷ [])) (count_of is_opening (xs ++ t ∷ [])))
  unfolding fewer
  stays_snoc =
      let n = length xs in
      let long : length (xs ++ t ∷ []) + 1 ≡ n + 1 + 1 = omega (arith, length-append xs (t ∷ [])) in
      let whole : take (0 + (n + 1)) (xs ++ t ∷ []) ≡ xs ++ t ∷ [] =
      take_all (0 + (n + 1)) (xs ++ t ∷ []) (omega (arith, length-append xs (t ∷ []))) in
      ap (λ (k : ℕ). list_all (fewer (xs ++ t ∷ [])) (range_with_len 0 k)) long
      ∙ ap (list_all (fewer (xs ++ t ∷ []))) (range_more 0 (n + 1))
      ∙ list_all-append (fewer (xs ++ t ∷ [])) (range_with_len 0 (n + 1)) ((0 + (n + 1)) ∷ [])
      ∙ ap (λ (b : Bool). b && list_all (fewer (xs ++ t ∷ [])) ((0 + (n + 1)) ∷ []))
      (all_range (fewer (xs ++ t ∷ [])) (fewer xs) (n + 1)
      (λ k below. ap (λ (ys : List Token). nat_le (count_of is_closing ys) (count_of is_opening ys)) (take-append-le k xs (t ∷ []) (omega (arith, below)))))
      ∙ ap (λ (ys : List Token). list_all (fewer xs) (range_with_len 0 (n + 1)) && (nat_le (count_of is_closing ys) (count_of is_opening ys) && true)) whole
      ∙ ap (λ (b : Bool). stays_open xs && b) (and-true (nat_le (count_of is_closing (xs ++ t ∷ [])) (count_of is_opening (xs ++ t ∷ []))))

-- ---- one more token

-- the tokens behind a place, and one more
behind_more :
    (tokens : List Token) (place at : ℕ) (t : Token) → place < at → slice_get tokens at ≡ Some t
    → slice_range tokens (place + 1) (at + 1) ≡ slice_range tokens (place + 1) at ++ t ∷ []
behind_more tokens place at t before is =
    between_more tokens (place + 1) at t (omega (arith, before)) (slice_get_within tokens at t is)
    ∙ ap (λ (token : Token). slice_range tokens (place + 1) at ++ token ∷ []) (get_or_from_slice_get tokens at t t is)

-- a bracket that is open before a token, and how many open inside it
record Open (tokens : List Token) (at place inside : ℕ) : Type 0 where
  opens : passes is_opening tokens place ≡ true
  stays : stays_open (slice_range tokens (place + 1) at) ≡ true
  excess :
      count_of is_opening (slice_range tokens (place + 1) at) ≡ count_of is_closing (slice_range tokens (place + 1) at) + inside

-- the brackets that are open before a token, the innermost first
data Stack (tokens : List Token) (at : ℕ) : ℕ → ℕ → List ℕ → Type 0 where
  empty : {inside bound : ℕ} → Stack tokens at inside bound []
  within :
      {inside bound place : ℕ} {rest : List ℕ} → place < bound → Open tokens at place inside
      → Stack tokens at (inside + 1) place rest → Stack tokens at inside bound (place ∷ rest)

data In (place : ℕ) : List ℕ → Type 0 where
  first : {rest : List ℕ} → In place (place ∷ rest)
  later : {other : ℕ} {rest : List ℕ} → In place rest → In place (other ∷ rest)

record IsStack (tokens : List Token) (at : ℕ) (stack : List ℕ) : Type 0 where
  standing : Stack tokens at 0 at stack
  all :
      (place : ℕ) → place < at → passes is_opening tokens place ≡ true
      → stays_open (slice_range tokens (place + 1) at) ≡ true → In place stack

opening_closes_nothing : (kind : TokenKind) → is_opening kind ≡ true → is_closing kind ≡ false
opening_closes_nothing (kinds.Sign signs.OpenBrace) e = refl
opening_closes_nothing (kinds.Sign signs.OpenParen) e = refl
opening_closes_nothing (kinds.Sign signs.OpenBracket) e = refl
opening_closes_nothing (kinds.Sign signs.OpenList) e = refl
opening_closes_nothing kind e = absurd cc

ender_is_no_operator : (kind : TokenKind) → ends_statement kind ≡ true → is_operator kind ≡ false
unfolding binary_of unary_of
ender_is_no_operator (kinds.Sign signs.Semicolon) e = refl
ender_is_no_operator (kinds.Sign signs.OpenBrace) e = refl
ender_is_no_operator (kinds.Sign signs.CloseBrace) e = refl
ender_is_no_operator kind e = absurd cc

list_opens : (kind : TokenKind) → is_list_opening kind ≡ true → is_opening kind ≡ true
list_opens (kinds.Sign signs.OpenList) e = refl
list_opens kind e = absurd cc

module _ (tokens : List Token) (at : ℕ) (t : Token) (is : slice_get tokens at ≡ Some t) where
  passes_here : (test : TokenKind → Bool) → passes test tokens at ≡ test t.kind
  passes_here test = ap (λ (there : Option Token). option_map_or test (option_map (λ (token : Token). token.kind) there) false) is

  -- a bracket that was open, behind one more token
  grown :
      (place inside after : ℕ) → place < at
      → inside + cond (is_opening t.kind) 1 0 ≡ after + cond (is_closing t.kind) 1 0
      → Open tokens at place inside → Open tokens (at + 1) place after
  grown place inside after before same op =
      let old = slice_range tokens (place + 1) at in
      let more = behind_more tokens place at t before is in
      let o = count_snoc old t is_opening in
      let c = count_snoc old t is_closing in
      let counts_are : count_of is_opening (old ++ t ∷ []) ≡ count_of is_closing (old ++ t ∷ []) + after = omega (arith, o, c, op.excess, same) in
      record {
        opens = op.opens;
        stays =
            ap stays_open more ∙ stays_snoc old t
            ∙ ap (λ (b : Bool). b && nat_le (count_of is_closing (old ++ t ∷ [])) (count_of is_opening (old ++ t ∷ []))) op.stays
            ∙ le-leb (count_of is_closing (old ++ t ∷ [])) (count_of is_opening (old ++ t ∷ [])) (omega (arith, counts_are));
        excess =
            ap (count_of is_opening) more ∙ counts_are
            ∙ ap (λ (ys : List Token). count_of is_closing ys + after) (sym more);
      }

  -- one that is open behind the token was open before it
  shrunk :
      (place : ℕ) → place < at → stays_open (slice_range tokens (place + 1) (at + 1)) ≡ true
      → (stays_open (slice_range tokens (place + 1) at) ≡ true)
      × (count_of is_closing (slice_range tokens (place + 1) at) + cond (is_closing t.kind) 1 0
      ≤ count_of is_opening (slice_range tokens (place + 1) at) + cond (is_opening t.kind) 1 0)
  shrunk place before stays =
      let old = slice_range tokens (place + 1) at in
      let more = behind_more tokens place at t before is in
      let b = and_parts (stays_open old) _ (sym (stays_snoc old t) ∙ sym (ap stays_open more) ∙ stays) in (
        b.0,
        omega (arith, leb-true _ _ b.1, count_snoc old t is_opening, count_snoc old t is_closing),
      )

  moved :
      (inside after bound : ℕ) (stack : List ℕ) → bound ≤ at
      → inside + cond (is_opening t.kind) 1 0 ≡ after + cond (is_closing t.kind) 1 0
      → Stack tokens at inside bound stack → Stack tokens (at + 1) after bound stack
  moved inside after bound [] le same st = empty
  moved inside after bound (place ∷ rest) le same (within before op st) =
      within before (grown place inside after (omega (arith, before, le)) same op)
      (moved (inside + 1) (after + 1) place rest (omega (arith, before, le)) (omega (arith, same)) st)

  opened : is_opening t.kind ≡ true → Open tokens (at + 1) at 0
  opened opens =
      let none = between_none tokens (at + 1) in
      record {
        opens = passes_here is_opening ∙ opens;
        stays = ap stays_open none;
        excess =
            ap (count_of is_opening) none ∙ sym (ap (λ (ys : List Token). count_of is_closing ys + 0) none);
      }

widened : {tokens : List Token} {at : ℕ} (inside bound wider : ℕ) (stack : List ℕ) → bound ≤ wider → Stack tokens at inside bound stack
    → Stack tokens at inside wider stack
widened inside bound wider [] le st = empty
widened inside bound wider (place ∷ rest) le (within before op st) = within (omega (arith, before, le)) op st

module _ (tokens : List Token) (at : ℕ) (t : Token) (is : slice_get tokens at ≡ Some t) (stack : List ℕ) (st : IsStack tokens at stack) where
  stack_opens : is_opening t.kind ≡ true → IsStack tokens (at + 1) (at ∷ stack)
  stack_opens opens =
      let closes = opening_closes_nothing t.kind opens in
      let same : 0 + cond (is_opening t.kind) 1 0 ≡ 0 + 1 + cond (is_closing t.kind) 1 0 =
      ap (λ (b : Bool). 0 + cond b 1 0) opens ∙ sym (ap (λ (b : Bool). 0 + 1 + cond b 1 0) closes) in
      record {
        standing = within (omega arith) (opened tokens at t is opens) (moved tokens at t is 0 (0 + 1) at stack (omega arith) same st.standing);
        all = λ place before passing stays. go place (eq-or-lt_of_le (omega (arith, before))) passing stays;
      }
    where
      go : (place : ℕ) → (place ≡ at) ⊎ (place < at) → passes is_opening tokens place ≡ true
          → stays_open (slice_range tokens (place + 1) (at + 1)) ≡ true → In place (at ∷ stack)
      go place (inl same) passing stays = subst (λ (p : ℕ). In p (at ∷ stack)) (sym same) first
      go place (inr before) passing stays = later (st.all place before passing (shrunk tokens at t is place before stays).0)

  -- where the token opens nothing
  module _ (opens : is_opening t.kind ≡ false) where
    not_here : (place : ℕ) → place ≡ at → passes is_opening tokens place ≡ true → ⊥
    not_here place same passing =
        let f : false ≡ true = sym opens ∙ sym (passes_here tokens at t is is_opening) ∙ ap (passes is_opening tokens) (sym same) ∙ passing in cc

    -- a bracket that is open behind the token is one that was open before it
    was_open : (place : ℕ) → (place ≡ at) ⊎ (place < at) → passes is_opening tokens place ≡ true
        → stays_open (slice_range tokens (place + 1) (at + 1)) ≡ true → In place stack
    was_open place (inl same) passing stays = absurd (not_here place same passing)
    was_open place (inr before) passing stays = st.all place before passing (shrunk tokens at t is place before stays).0

    stack_stays : is_closing t.kind ≡ false → IsStack tokens (at + 1) stack
    stack_stays closes =
        let same : 0 + cond (is_opening t.kind) 1 0 ≡ 0 + cond (is_closing t.kind) 1 0 =
        ap (λ (b : Bool). 0 + cond b 1 0) opens ∙ sym (ap (λ (b : Bool). 0 + cond b 1 0) closes) in
        record {
          standing = widened 0 at (at + 1) stack (omega arith) (moved tokens at t is 0 0 at stack (omega arith) same st.standing);
          all = λ place before passing stays. was_open place (eq-or-lt_of_le (omega (arith, before))) passing stays;
        }

closed_stack :
    (tokens : List Token) (at : ℕ) (t : Token) (is : slice_get tokens at ≡ Some t) (stack : List ℕ) → IsStack tokens at stack
    → is_opening t.kind ≡ false → is_closing t.kind ≡ true → IsStack tokens (at + 1) (drop 1 stack)
closed_stack tokens at t is [] st opens closes =
    record {
      standing = empty;
      all = λ place before passing stays. was_open tokens at t is [] st opens place (eq-or-lt_of_le (omega (arith, before))) passing stays;
    }
closed_stack tokens at t is (top ∷ rest) st opens closes =
    record {
      standing = under st.standing;
      all = λ place before passing stays. go place (eq-or-lt_of_le (omega (arith, before))) passing stays;
    }
  where
    same : 0 + 1 + cond (is_opening t.kind) 1 0 ≡ 0 + cond (is_closing t.kind) 1 0
    same = ap (λ (b : Bool). 0 + 1 + cond b 1 0) opens ∙ sym (ap (λ (b : Bool). 0 + cond b 1 0) closes)

    under : Stack tokens at 0 at (top ∷ rest) → Stack tokens (at + 1) 0 (at + 1) rest
    under (within before op more) =
        widened 0 top (at + 1) rest (omega (arith, before)) (moved tokens at t is (0 + 1) 0 top rest (omega (arith, before)) same more)

    innermost : Stack tokens at 0 at (top ∷ rest) → Open tokens at top 0
    innermost (within before op more) = op

    found : (place : ℕ) → place < at → stays_open (slice_range tokens (place + 1) (at + 1)) ≡ true → In place (top ∷ rest) → In place rest
    found place before stays first =
        let s = (shrunk tokens at t is top before stays).1 in
        let o : one_if (is_opening t.kind) ≡ 0 = ap (λ (b : Bool). cond b 1 0) opens in
        let c : one_if (is_closing t.kind) ≡ 1 = ap (λ (b : Bool). cond b 1 0) closes in
        absurd (omega (arith, s, o, c, (innermost st.standing).excess))
    found place before stays (later inside) = inside

    go : (place : ℕ) → (place ≡ at) ⊎ (place < at) → passes is_opening tokens place ≡ true
        → stays_open (slice_range tokens (place + 1) (at + 1)) ≡ true → In place rest
    go place (inl here) passing stays = absurd (not_here tokens at t is (top ∷ rest) st opens place here passing)
    go place (inr before) passing stays =
        found place before stays (st.all place before passing (shrunk tokens at t is place before stays).0)

-- ---- how many are open

open_in_stack : {tokens : List Token} {at : ℕ} (inside bound : ℕ) (stack : List ℕ) → Stack tokens at inside bound stack → (place : ℕ) → In place stack
    → (within_bound : place < bound) × (stays_open (slice_range tokens (place + 1) at) ≡ true)
open_in_stack inside bound [] st other found = elim found [ ]
open_in_stack inside bound (place ∷ rest) (within before op st) other first = (before, op.stays)
open_in_stack inside bound (top ∷ rest) (within before op st) other (later more) =
    let r = open_in_stack (inside + 1) top rest st other more in (omega (arith, before, r.0), r.1)

open_at : List Token → ℕ → ℕ → Bool
open_at tokens at place = passes is_opening tokens place && stays_open (slice_range tokens (place + 1) at)

count_stack :
    (tokens : List Token) (at n inside : ℕ) (stack : List ℕ) → Stack tokens at inside n stack
    → ((place : ℕ) → place < n → open_at tokens at place ≡ true → In place stack)
    → count_by (open_at tokens at) (range_with_len 0 n) ≡ length stack
unfolding open_at
count_stack tokens at zero inside [] st all = refl
count_stack tokens at zero inside (place ∷ rest) (within before op st) all = absurd (omega (arith, before))
count_stack tokens at (suc n) inside [] st all =
    count_none (open_at tokens at) (suc n)
    (λ place before. false_from_ne_true (open_at tokens at place) (λ e. no_element place (all place before e)))
  where
    no_element : (p : ℕ) → In p [] → ⊥
    no_element p inside_none = elim inside_none [ ]
count_stack tokens at (suc n) inside (place ∷ rest) (within before op st) all =
    go (eq-or-lt_of_le (omega (arith, before)))
    (λ below fewer. count_stack tokens at n (inside + 1) rest below fewer)
    (λ less. count_stack tokens at n inside (place ∷ rest) (within less op st) (λ p under e. all p (omega (arith, under)) e))
  where
    stands_at : open_at tokens at place ≡ true
    stands_at = ap (λ (b : Bool). b && stays_open (slice_range tokens (place + 1) at)) op.opens ∙ op.stays

    rest_of : (p : ℕ) → (p ≡ place → ⊥) → In p (place ∷ rest) → In p rest
    rest_of p other first = absurd (other refl)
    rest_of p other (later more) = more

    none_at : place < n → (b : Bool) → open_at tokens at n ≡ b → one_if (open_at tokens at n) ≡ 0
    none_at less true e =
        let top : n < place + 1 =
        (open_in_stack inside (place + 1) (place ∷ rest) (within (omega arith) op st) n (all n (omega arith) e)).0 in
        absurd (omega (arith, less, top))
    none_at less false e = ap (λ (b : Bool). cond b 1 0) e

    go :
        (place ≡ n) ⊎ (place < n)
        → (Stack tokens at (inside + 1) n rest → ((p : ℕ) → p < n → open_at tokens at p ≡ true → In p rest)
        → count_by (open_at tokens at) (range_with_len 0 n) ≡ length rest)
        → (place < n → count_by (open_at tokens at) (range_with_len 0 n) ≡ length (place ∷ rest))
        → count_by (open_at tokens at) (range_with_len 0 (suc n)) ≡ length (place ∷ rest)
    go (inl same) under more =
        let below : Stack tokens at (inside + 1) n rest = subst (λ (b : ℕ). Stack tokens at (inside + 1) b rest) same st in
        let ih = under below (λ p less e. rest_of p (λ q. omega (arith, q, same, less)) (all p (omega (arith, less)) e)) in
        let here : one_if (open_at tokens at n) ≡ 1 =
        ap (λ (p : ℕ). cond (open_at tokens at p) 1 0) (sym same) ∙ ap (λ (b : Bool). cond b 1 0) stands_at in
        omega (arith, count_suc (open_at tokens at) n, ih, here)
    go (inr less) under more = omega (arith, count_suc (open_at tokens at) n, more less, none_at less (open_at tokens at n) refl)

open_count :
    (tokens : List Token) (at : ℕ) (stack : List ℕ) → IsStack tokens at stack → open_before is_opening tokens at ≡ length stack
unfolding open_at
open_count tokens at stack st =
    count_stack tokens at at 0 stack st.standing
    (λ place before e. let b = and_parts (passes is_opening tokens place) _ e in st.all place before b.0 b.1)

-- ---- the outermost list and what is open in it

in_lists : List Token → List ℕ → ℕ
in_lists tokens [] = 0
in_lists tokens (place ∷ rest) =
    cond (nat_lt 0 (in_lists tokens rest) || passes is_list_opening tokens place) (in_lists tokens rest + 1) (in_lists tokens rest)

some_or_none : (n : ℕ) → ((nat_lt 0 n ≡ true) × (0 < n)) ⊎ ((nat_lt 0 n ≡ false) × (n ≡ 0))
some_or_none n = elim (leb_tells 1 n) [ inl t ↦ inl (t.0, omega (arith, t.1)) | inr t ↦ inr (t.0, omega (arith, t.1)) ]

lists_within : (tokens : List Token) (stack : List ℕ) → in_lists tokens stack ≤ length stack
unfolding in_lists
lists_within tokens [] = omega arith
lists_within tokens (place ∷ rest) =
    go (nat_lt 0 (in_lists tokens rest) || passes is_list_opening tokens place) (lists_within tokens rest)
  where
    go : (b : Bool) → in_lists tokens rest ≤ length rest → cond b (in_lists tokens rest + 1) (in_lists tokens rest) ≤ length (place ∷ rest)
    go true ih = omega (arith, ih)
    go false ih = omega (arith, ih)

lists_closed : (tokens : List Token) (stack : List ℕ) → in_lists tokens (drop 1 stack) ≡ in_lists tokens stack - 1
unfolding in_lists
lists_closed tokens [] = refl
lists_closed tokens (place ∷ rest) = go (some_or_none (in_lists tokens rest)) (passes is_list_opening tokens place)
  where
    go :
        ((nat_lt 0 (in_lists tokens rest) ≡ true) × (0 < in_lists tokens rest)) ⊎ ((nat_lt 0 (in_lists tokens rest) ≡ false) × (in_lists tokens rest ≡ 0))
        → (b : Bool)
        → in_lists tokens rest ≡ cond (nat_lt 0 (in_lists tokens rest) || b) (in_lists tokens rest + 1) (in_lists tokens rest) - 1
    go (inl some) b =
        let e = ap (λ (x : Bool). cond (x || b) (in_lists tokens rest + 1) (in_lists tokens rest)) some.0 in omega (arith, e)
    go (inr none) true =
        let e = ap (λ (x : Bool). cond (x || true) (in_lists tokens rest + 1) (in_lists tokens rest)) none.0 in omega (arith, e)
    go (inr none) false =
        let e = ap (λ (x : Bool). cond (x || false) (in_lists tokens rest + 1) (in_lists tokens rest)) none.0 in omega (arith, e, none.1)

-- a list among the open brackets is counted, and what is counted is one
list_counts : (tokens : List Token) (stack : List ℕ) (place : ℕ) → In place stack → passes is_list_opening tokens place ≡ true → 0 < in_lists tokens stack
unfolding in_lists
list_counts tokens (place ∷ rest) other first list = go (nat_lt 0 (in_lists tokens rest))
  where
    go : (b : Bool) → 0 < cond (b || passes is_list_opening tokens place) (in_lists tokens rest + 1) (in_lists tokens rest)
    go true = omega arith
    go false =
        let e = ap (λ (x : Bool). cond x (in_lists tokens rest + 1) (in_lists tokens rest)) list in omega (arith, e)
list_counts tokens (top ∷ rest) other (later more) list =
    go (nat_lt 0 (in_lists tokens rest) || passes is_list_opening tokens top) (list_counts tokens rest other more list)
  where
    go : (b : Bool) → 0 < in_lists tokens rest → 0 < cond b (in_lists tokens rest + 1) (in_lists tokens rest)
    go true ih = omega arith
    go false ih = ih
list_counts tokens [] other found list = elim found [ ]

counted_list : (tokens : List Token) (stack : List ℕ) → 0 < in_lists tokens stack
    → (place : ℕ) × In place stack × (passes is_list_opening tokens place ≡ true)
unfolding in_lists
counted_list tokens [] some = absurd (omega (arith, some))
counted_list tokens (top ∷ rest) some =
    go (some_or_none (in_lists tokens rest)) (passes is_list_opening tokens top) refl (λ more. counted_list tokens rest more)
  where
    go :
        ((nat_lt 0 (in_lists tokens rest) ≡ true) × (0 < in_lists tokens rest)) ⊎ ((nat_lt 0 (in_lists tokens rest) ≡ false) × (in_lists tokens rest ≡ 0))
        → (b : Bool) → passes is_list_opening tokens top ≡ b
        → (0 < in_lists tokens rest → (place : ℕ) × In place rest × (passes is_list_opening tokens place ≡ true))
        → (place : ℕ) × In place (top ∷ rest) × (passes is_list_opening tokens place ≡ true)
    go (inl more) b e ih = let r = ih more.1 in (r.0, later r.1, r.2)
    go (inr none) true e ih = (top, first, e)
    go (inr none) false e ih =
        let is_none : cond (nat_lt 0 (in_lists tokens rest) || passes is_list_opening tokens top) (in_lists tokens rest + 1) (in_lists tokens rest)
        ≡ in_lists tokens rest =
        ap (λ (x : Bool). cond (x || passes is_list_opening tokens top) (in_lists tokens rest + 1) (in_lists tokens rest)) none.0
        ∙ ap (λ (x : Bool). cond x (in_lists tokens rest + 1) (in_lists tokens rest)) e in
        absurd (omega (arith, is_none, none.1, some))

passing_kind : (tokens : List Token) (place : ℕ) (kind : Option TokenKind) → option_map_or is_list_opening kind false ≡ true
    → option_map_or is_opening kind false ≡ true
passing_kind tokens place None e = e
passing_kind tokens place (Some kind) e = list_opens kind e

lists_agree :
    (tokens : List Token) (at : ℕ) (stack : List ℕ) → IsStack tokens at stack
    → nat_lt 0 (open_before is_list_opening tokens at) ≡ nat_lt 0 (in_lists tokens stack)
lists_agree tokens at stack st = go (some_or_none (in_lists tokens stack))
  where
    test : ℕ → Bool
    test place = passes is_list_opening tokens place && stays_open (slice_range tokens (place + 1) at)

    none_passes : in_lists tokens stack ≡ 0 → (place : ℕ) → place < at → test place ≡ false
    none_passes none place before = false_from_ne_true (test place) (λ e.
        let b = and_parts (passes is_list_opening tokens place) _ e in
        let opens = passing_kind tokens place (kind_at tokens place) b.0 in
        absurd (omega (arith, none, list_counts tokens stack place (st.all place before opens b.1) b.0)))

    go :
        ((nat_lt 0 (in_lists tokens stack) ≡ true) × (0 < in_lists tokens stack)) ⊎ ((nat_lt 0 (in_lists tokens stack) ≡ false) × (in_lists tokens stack ≡ 0))
        → nat_lt 0 (open_before is_list_opening tokens at) ≡ nat_lt 0 (in_lists tokens stack)
    go (inl some) =
        let r = counted_list tokens stack some.1 in
        let o = open_in_stack 0 at stack st.standing r.0 r.1 in
        let passes_test : test r.0 ≡ true = ap (λ (b : Bool). b && stays_open (slice_range tokens (r.0 + 1) at)) r.2 ∙ o.1 in
        let many = count_some test at r.0 o.0 passes_test in
        le-leb 1 (open_before is_list_opening tokens at) (omega (arith, many)) ∙ sym some.0
    go (inr none) =
        let zero_many = count_none test at (none_passes none.1) in
        ap (nat_lt 0) zero_many ∙ sym none.0

-- ---- operators of a statement

module _ (tokens : List Token) (at : ℕ) (t : Token) (is : slice_get tokens at ≡ Some t) where
  since : ℕ → ℕ → Bool
  since end place =
      counts_as_operator tokens place && not (list_any (λ token. ends_statement token.kind) (slice_range tokens (place + 1) end))

  last_counts : since (at + 1) at ≡ counts_as_operator tokens at
  unfolding since
  last_counts =
      ap (λ (ys : List Token). counts_as_operator tokens at && not (list_any (λ token. ends_statement token.kind) ys)) (between_none tokens (at + 1))
      ∙ and-true (counts_as_operator tokens at)

  before_last :
      (place : ℕ) → place < at
      → since (at + 1) place
      ≡ (counts_as_operator tokens place
      && not (list_any (λ token. ends_statement token.kind) (slice_range tokens (place + 1) at) || (ends_statement t.kind || false)))
  unfolding since
  before_last place before =
      ap (λ (ys : List Token). counts_as_operator tokens place && not (list_any (λ token. ends_statement token.kind) ys))
      (behind_more tokens place at t before is)
      ∙ ap (λ (b : Bool). counts_as_operator tokens place && not b)
      (list_any-append (λ (token : Token). ends_statement token.kind) (slice_range tokens (place + 1) at) (t ∷ []))

  operators_end : ends_statement t.kind ≡ true → operators_before tokens (at + 1) ≡ 0
  unfolding since
  operators_end ends = count_none (since (at + 1)) (at + 1) (λ place before. go place (eq-or-lt_of_le (omega (arith, before))))
    where
      go : (place : ℕ) → (place ≡ at) ⊎ (place < at) → since (at + 1) place ≡ false
      go place (inl same) =
          let none : passes is_operator tokens at ≡ false = passes_here tokens at t is is_operator ∙ ender_is_no_operator t.kind ends in
          ap (since (at + 1)) same ∙ last_counts
          ∙ ap (λ (b : Bool). b && not (passes is_minus tokens at && nat_lt 0 (open_before is_list_opening tokens at))) none
      go place (inr before) =
          before_last place before
          ∙ ap (λ (b : Bool). counts_as_operator tokens place
          && not (list_any (λ token. ends_statement token.kind) (slice_range tokens (place + 1) at) || (b || false))) ends
          ∙ never (list_any (λ token. ends_statement token.kind) (slice_range tokens (place + 1) at)) (counts_as_operator tokens place)
        where
          never : (b c : Bool) → (c && not (b || true)) ≡ false
          never true true = refl
          never true false = refl
          never false true = refl
          never false false = refl

  operators_more :
      ends_statement t.kind ≡ false
      → operators_before tokens (at + 1) ≡ operators_before tokens at + cond (counts_as_operator tokens at) 1 0
  unfolding since
  operators_more ends =
      let rest = count_same (since (at + 1)) (since at) at (λ place before.
      before_last place before
      ∙ ap (λ (b : Bool). counts_as_operator tokens place
      && not (list_any (λ token. ends_statement token.kind) (slice_range tokens (place + 1) at) || (b || false))) ends
      ∙ ap (λ (b : Bool). counts_as_operator tokens place && not b)
      (or-false (list_any (λ token. ends_statement token.kind) (slice_range tokens (place + 1) at)))) in
      let here = ap (λ (b : Bool). cond b 1 0) last_counts in
      let next : at + 1 ≡ suc at = omega arith in
      ap (λ (k : ℕ). count_by (since (at + 1)) (range_with_len 0 k)) next ∙ count_suc (since (at + 1)) at ∙ ap (λ (k : ℕ). k + cond (since (at + 1) at) 1 0) rest
      ∙ ap (λ (k : ℕ). operators_before tokens at + k) here

-- ---- the walk

pub record IsWalked (tokens : List Token) (at : ℕ) (walk : Walk) : Type 0 where
  stack : List ℕ
  is_stack : IsStack tokens at stack
  open_are : walk.brackets ≡ length stack
  lists_are : walk.in_list ≡ in_lists tokens stack
  operators_are : walk.operators ≡ operators_before tokens at
  pub none : (place : ℕ) → place < at → is_too_deep tokens place ≡ false

pub walk_begins : (tokens : List Token) → IsWalked tokens 0 (record { brackets = 0; in_list = 0; operators = 0 })
unfolding in_lists
walk_begins tokens =
    record {
      stack = [];
      is_stack = record { standing = empty; all = λ place before passing stays. absurd (omega (arith, before)) };
      open_are = refl;
      lists_are = refl;
      operators_are = refl;
      none = λ place before. absurd (omega (arith, before));
    }

module _ (tokens : List Token) (at : ℕ) (walk : Walk) (w : IsWalked tokens at walk) where
  pub walk_within : walk.in_list ≤ walk.brackets
  walk_within = omega (arith, w.lists_are, w.open_are, lists_within tokens w.stack)

  module _ (t : Token) (is : slice_get tokens at ≡ Some t) where
    counts_here : counts_as_operator tokens at ≡ counts walk t.kind
    counts_here =
        let lists = lists_agree tokens at w.stack w.is_stack ∙ ap (nat_lt 0) (sym w.lists_are) in
        ap (λ (b : Bool). b && not (passes is_minus tokens at && nat_lt 0 (open_before is_list_opening tokens at))) (passes_here tokens at t is is_operator)
        ∙ ap (λ (b : Bool). is_operator t.kind && not (b && nat_lt 0 (open_before is_list_opening tokens at))) (passes_here tokens at t is is_minus)
        ∙ ap (λ (b : Bool). is_operator t.kind && not (is_minus t.kind && b)) lists

    pub deep_here : is_too_deep tokens at ≡ is_deep walk t.kind
    deep_here =
        let opens = open_count tokens at w.stack w.is_stack ∙ sym w.open_are in
        ap (λ (b : Bool). (b && nat_le 64 (open_before is_opening tokens at)) || (counts_as_operator tokens at && nat_le 64 (operators_before tokens at)))
        (passes_here tokens at t is is_opening)
        ∙ ap (λ (n : ℕ). (is_opening t.kind && nat_le 64 n) || (counts_as_operator tokens at && nat_le 64 (operators_before tokens at))) opens
        ∙ ap (λ (b : Bool). (is_opening t.kind && nat_le 64 walk.brackets) || (b && nat_le 64 (operators_before tokens at))) counts_here
        ∙ ap (λ (n : ℕ). (is_opening t.kind && nat_le 64 walk.brackets) || (counts walk t.kind && nat_le 64 n)) (sym w.operators_are)

    pub walked_more : is_deep walk t.kind ≡ false → IsWalked tokens (at + 1) (walk_behind walk t.kind)
    unfolding in_lists
    walked_more shallow = go (is_opening t.kind) refl (is_closing t.kind) refl
      where
        none_more : (place : ℕ) → (place ≡ at) ⊎ (place < at) → is_too_deep tokens place ≡ false
        none_more place (inl same) = ap (is_too_deep tokens) same ∙ deep_here ∙ shallow
        none_more place (inr before) = w.none place before

        operators_now : (b : Bool) → ends_statement t.kind ≡ b → (walk_behind walk t.kind).operators ≡ operators_before tokens (at + 1)
        operators_now true e =
            ap (λ (b : Bool). cond b 0 (cond (counts walk t.kind) (walk.operators + 1) walk.operators)) e ∙ sym (operators_end tokens at t is e)
        operators_now false e =
            ap (λ (b : Bool). cond b 0 (cond (counts walk t.kind) (walk.operators + 1) walk.operators)) e
            ∙ choose (counts walk t.kind)
            ∙ ap (λ (n : ℕ). n + cond (counts walk t.kind) 1 0) w.operators_are
            ∙ ap (λ (b : Bool). operators_before tokens at + cond b 1 0) (sym counts_here)
            ∙ sym (operators_more tokens at t is e)
          where
            choose : (b : Bool) → cond b (walk.operators + 1) walk.operators ≡ walk.operators + cond b 1 0
            choose true = refl
            choose false = omega arith

        go : (o : Bool) → is_opening t.kind ≡ o → (c : Bool) → is_closing t.kind ≡ c → IsWalked tokens (at + 1) (walk_behind walk t.kind)
        go true opens c closes =
            record {
              stack = at ∷ w.stack;
              is_stack = stack_opens tokens at t is w.stack w.is_stack opens;
              open_are =
                  ap (λ (b : Bool). cond b (walk.brackets + 1) (cond (is_closing t.kind) (walk.brackets - 1) walk.brackets)) opens ∙ omega (arith, w.open_are);
              lists_are =
                  ap (λ (b : Bool). cond b (cond (nat_lt 0 walk.in_list || is_list_opening t.kind) (walk.in_list + 1) walk.in_list)
                  (cond (is_closing t.kind) (walk.in_list - 1) walk.in_list)) opens
                  ∙ ap (λ (n : ℕ). cond (nat_lt 0 n || is_list_opening t.kind) (n + 1) n) w.lists_are
                  ∙ ap (λ (b : Bool). cond (nat_lt 0 (in_lists tokens w.stack) || b) (in_lists tokens w.stack + 1) (in_lists tokens w.stack))
                  (sym (passes_here tokens at t is is_list_opening));
              operators_are = operators_now (ends_statement t.kind) refl;
              none = λ place before. none_more place (eq-or-lt_of_le (omega (arith, before)));
            }
        go false opens true closes =
            record {
              stack = drop 1 w.stack;
              is_stack = closed_stack tokens at t is w.stack w.is_stack opens closes;
              open_are =
                  ap (λ (b : Bool). cond b (walk.brackets + 1) (cond (is_closing t.kind) (walk.brackets - 1) walk.brackets)) opens
                  ∙ ap (λ (b : Bool). cond b (walk.brackets - 1) walk.brackets) closes ∙ omega (arith, w.open_are, length-drop 1 w.stack);
              lists_are =
                  ap (λ (b : Bool). cond b (cond (nat_lt 0 walk.in_list || is_list_opening t.kind) (walk.in_list + 1) walk.in_list)
                  (cond (is_closing t.kind) (walk.in_list - 1) walk.in_list)) opens
                  ∙ ap (λ (b : Bool). cond b (walk.in_list - 1) walk.in_list) closes
                  ∙ ap (λ (n : ℕ). n - 1) w.lists_are ∙ sym (lists_closed tokens w.stack);
              operators_are = operators_now (ends_statement t.kind) refl;
              none = λ place before. none_more place (eq-or-lt_of_le (omega (arith, before)));
            }
        go false opens false closes =
            record {
              stack = w.stack;
              is_stack = stack_stays tokens at t is w.stack w.is_stack opens closes;
              open_are =
                  ap (λ (b : Bool). cond b (walk.brackets + 1) (cond (is_closing t.kind) (walk.brackets - 1) walk.brackets)) opens
                  ∙ ap (λ (b : Bool). cond b (walk.brackets - 1) walk.brackets) closes ∙ w.open_are;
              lists_are =
                  ap (λ (b : Bool). cond b (cond (nat_lt 0 walk.in_list || is_list_opening t.kind) (walk.in_list + 1) walk.in_list)
                  (cond (is_closing t.kind) (walk.in_list - 1) walk.in_list)) opens
                  ∙ ap (λ (b : Bool). cond b (walk.in_list - 1) walk.in_list) closes ∙ w.lists_are;
              operators_are = operators_now (ends_statement t.kind) refl;
              none = λ place before. none_more place (eq-or-lt_of_le (omega (arith, before)));
            }

    pub deep_first : is_deep walk t.kind ≡ true → (rest : List ℕ) × (too_deep tokens ≡ at ∷ rest)
    deep_first deep =
        let r =
        filter_first (is_too_deep tokens) 0 (length tokens) at (slice_get_within tokens at t is)
        (λ k below. ap (is_too_deep tokens) (omega arith) ∙ w.none k below)
        (ap (is_too_deep tokens) (omega arith) ∙ deep_here ∙ deep) in
        (r.0, r.1 ∙ ap (λ (k : ℕ). k ∷ r.0) (omega arith))

pub none_deep : (tokens : List Token) (walk : Walk) → IsWalked tokens (length tokens) walk → too_deep tokens ≡ []
none_deep tokens walk w =
    no_filtered (is_too_deep tokens) 0 (length tokens) (λ k below. ap (is_too_deep tokens) (omega arith) ∙ w.none k below)
