-- How those that are told something else come into the list.
use Rattle.std.proofs.Common.{◌≡◌, ℕ, zero, suc, ◌+◌, ◌<◌, ◌≤◌, Bool, true, false, not, ◌&&◌, cond, List, [], ◌∷◌, ◌++◌, length, set, Some, is_none, inl, inr, refl, ap, sym, ◌∙◌, arith, append_assoc}
use Rattle.std.specs.Prelude.{if◌then◌else◌}
use Rattle.std.specs.List.{filter, range_with_len}
use Rattle.std.proofs.lemmas.Bool.{cond-true, cases_eq, cases_Bool}
use Rattle.std.proofs.lemmas.Bool.Decides.{eqb_tells}
use Rattle.std.proofs.lemmas.List.{append-nil, get_or-set_same, get_or-set_other, set-get_or, set-set}
use Rattle.std.proofs.lemmas.List.Elements.{filter-append}
use Rattle.px_value.proofs.General.{no_filtered}
use Rattle.px_links.specs.Links.{LinksData, holder_of, is_absent, pushed, HoldsOthersAsBefore, SameCounts}
use Rattle.px_links.specs.Lists.{nth}
use Rattle.px_told.specs.declared.asks.Asks.{Asks}
use Rattle.px_told.specs.Asking.{nothing, is_same, asks_at}
use Rattle.px_told.specs.Hearing.{is_told_anew, told_anew, with_absent, HasHeard}
use Rattle.px_told.proofs.Same.{asks_same}

-- ---- which of a range of numbers pass a test

cond_push : (b : Bool) (first : ℕ) (front back : List ℕ)
    → cond b (first ∷ (front ++ back)) (front ++ back) ≡ cond b (first ∷ front) front ++ back
cond_push true first front back = refl
cond_push false first front back = refl

-- one more passes, and none behind it did before
one_passes : (p q : ℕ → Bool) (at a n : ℕ) → a ≤ at → at < a + n → ((k : ℕ) → (k ≡ at → ⊥) → q k ≡ p k)
    → ((k : ℕ) → at ≤ k → p k ≡ false) → q at ≡ true
    → filter q (range_with_len a n) ≡ filter p (range_with_len a n) ++ at ∷ []
one_passes p q at a zero from within same fails passes = absurd (omega arith)
one_passes p q at a (suc n) from within same fails passes = elim (cases_eq a at) [
  | inl here ↦
      cond-true (q a) (a ∷ filter q (range_with_len (a + 1) n)) (filter q (range_with_len (a + 1) n)) (ap q here ∙ passes)
      ∙ ap (λ rest. a ∷ rest) (no_filtered q (a + 1) n (λ k below. same (a + 1 + k) (λ is. omega arith) ∙ fails (a + 1 + k) (omega arith)))
      ∙ ap (λ first. first ∷ []) here
      ∙ ap (λ front. front ++ at ∷ []) (sym (no_filtered p a (suc n) (λ k below. fails (a + k) (omega arith))))
  | inr apart ↦
      let rest = one_passes p q at (a + 1) n (omega arith) (omega arith) same fails passes in
      (λ i. cond (same a apart i) (a ∷ rest i) (rest i))
      ∙ cond_push (p a) a (filter p (range_with_len (a + 1) n)) (at ∷ [])
]

-- ---- the list

module _ (links : LinksData) (list : ℕ) where
  pub with-none : with_absent links list [] ≡ links
  with-none = λ i. record {
    cells = links.cells;
    lists = (ap (set links.lists list) (append-nil (nth links.lists list)) ∙ set-get_or links.lists list []) i;
  }

  with-held : (cells : List ℕ) (at : ℕ) → is_absent links at ≡ false
      → with_absent links list cells ≡ with_absent links list (cells ++ at ∷ [])
  with-held cells at held = λ i. record {
    cells = links.cells;
    lists = set links.lists list (nth links.lists list ++ (sym (filter-append (is_absent links) cells (at ∷ [])
        ∙ ap (λ b. filter (is_absent links) cells ++ cond b (at ∷ []) []) held ∙ append-nil _)) i);
  }

  with-absent : list < length links.lists → (cells : List ℕ) (at : ℕ) → is_absent links at ≡ true
      → pushed (with_absent links list cells) list at ≡ with_absent links list (cells ++ at ∷ [])
  with-absent there cells at absent =
      let behind = nth links.lists list ++ filter (is_absent links) cells in
      let more : behind ++ at ∷ [] ≡ nth links.lists list ++ filter (is_absent links) (cells ++ at ∷ []) =
      append_assoc (nth links.lists list) (filter (is_absent links) cells) (at ∷ [])
      ∙ ap (λ rest. nth links.lists list ++ rest) (sym (filter-append (is_absent links) cells (at ∷ [])
      ∙ ap (λ b. filter (is_absent links) cells ++ cond b (at ∷ []) []) absent)) in
      λ i. record {
        cells = links.cells;
        lists = (set-set links.lists list behind (nth (set links.lists list behind) list ++ at ∷ [])
            ∙ ap (λ found. set links.lists list (found ++ at ∷ [])) (get_or-set_same links.lists list behind [] there)
            ∙ ap (set links.lists list) more) i;
      }

-- ---- who has heard

-- nobody is told anything else
pub nobody_heard : (told : List Asks) (links : LinksData) (list : ℕ) → HasHeard told told links links list
nobody_heard told links list =
    let same : (node : ℕ) → is_told_anew told told node ≡ false = λ node. ap not (asks_same (asks_at told node)) in
    record {
      lists = sym (ap (with_absent links list) (no_filtered (is_told_anew told told) 0 (length told) (λ k below. same (0 + k)))
          ∙ with-none links list);
      holders = λ node. ap (λ b. if b && is_absent links node then Some list else holder_of links node) (sym (same node));
      counts = (refl, refl);
    }

-- a node is told something else, and none behind it was before
module _ (before told : List Asks) (links now : LinksData) (list : ℕ) (there : list < length links.lists)
    (heard : HasHeard before told links now list) (long : length told ≡ length before)
    (at : ℕ) (within : at < length before) (still : (other : ℕ) → at ≤ other → asks_at told other ≡ asks_at before other)
    (asked : Asks) (differs : is_same asked (asks_at told at) ≡ false) where
  abbrev then_told : List Asks
  then_told = set told at asked

  anew_at : is_told_anew before then_told at ≡ true
  anew_at =
      ap (λ is. not (is_same is (asks_at before at))) (get_or-set_same told at asked nothing (omega (arith, within, long)))
      ∙ ap (λ was. not (is_same asked was)) (sym (still at (omega arith))) ∙ ap not differs

  anew_other : (other : ℕ) → (other ≡ at → ⊥) → is_told_anew before then_told other ≡ is_told_anew before told other
  anew_other other apart =
      ap (λ is. not (is_same is (asks_at before other))) (get_or-set_other told at other asked nothing apart)

  not_yet : (other : ℕ) → at ≤ other → is_told_anew before told other ≡ false
  not_yet other past =
      ap (λ is. not (is_same is (asks_at before other))) (still other past) ∙ ap not (asks_same (asks_at before other))

  anew_more : told_anew before then_told ≡ told_anew before told ++ at ∷ []
  anew_more = one_passes (is_told_anew before told) (is_told_anew before then_told) at 0 (length before) (omega arith)
      (omega (arith, within)) anew_other not_yet anew_at

  held : holder_of now at ≡ holder_of links at
  held = heard.holders at
      ∙ ap (λ b. if b && is_absent links at then Some list else holder_of links at) (not_yet at (omega arith))

  pub node_heard : (later : LinksData) → later ≡ (if is_absent now at then pushed now list at else now)
      → HoldsOthersAsBefore now later at (if is_absent now at then Some list else holder_of now at) → SameCounts now later
      → HasHeard before then_told links later list
  node_heard later is holders counts = record {
    lists = is ∙ ap (λ found. if is_none found then pushed now list at else now) held
        ∙ elim (cases_Bool (is_absent links at)) [
          | inl absent ↦ ap (λ b. if b then pushed now list at else now) absent
              ∙ ap (λ now. pushed now list at) heard.lists ∙ with-absent links list there (told_anew before told) at absent
          | inr has_it ↦ ap (λ b. if b then pushed now list at else now) has_it
              ∙ heard.lists ∙ with-held links list (told_anew before told) at has_it
        ]
        ∙ ap (with_absent links list) (sym anew_more);
    holders = λ node. holders node ∙ elim (eqb_tells at node) [
      | inl same ↦ ap (λ b. if b then (if is_absent now at then Some list else holder_of now at) else holder_of now node) same.0
          ∙ ap (λ found. if is_none found then Some list else found) held
          ∙ ap (λ b. if b && is_absent links at then Some list else holder_of links at) (sym anew_at)
          ∙ ap (λ node. if is_told_anew before then_told node && is_absent links node then Some list else holder_of links node) same.1
      | inr apart ↦ ap (λ b. if b then (if is_absent now at then Some list else holder_of now at) else holder_of now node) apart.0
          ∙ heard.holders node
          ∙ ap (λ b. if b && is_absent links node then Some list else holder_of links node)
          (sym (anew_other node (λ same. apart.1 (sym same))))
    ];
    counts = (counts.0 ∙ heard.counts.0, counts.1 ∙ heard.counts.1);
  }
