-- No cell of a table is at two places.
use Rattle.std.proofs.Common.{◌≡◌, ◌≢◌, ℕ, zero, suc, ◌+◌, true, ◌||◌, nat_eq, List, [], ◌∷◌, length, get_or, AllPairs, refl, ap, sym, ◌∙◌, arith, inl, inr}
use Rattle.std.specs.List.{concat}
use Rattle.std.proofs.lemmas.Bool.{eq-eqb, cases_Bool}
use Rattle.std.proofs.lemmas.List.{get_or-append-add, get_or_append_left, length-append}
use Rattle.std.proofs.lemmas.List.Folds.{list_any-append, list_any_at}
use Rattle.px_value.proofs.General.{pairs_append}
use Rattle.px_links.specs.declared.cell.Cell.{Cell}
use Rattle.px_links.specs.declared.cell.Ends.{Ends}
use Rattle.px_links.specs.Links.{IsOnce}
use Rattle.px_links.specs.Lists.{has, nth}
use Rattle.px_links.specs.Keeping.{IsTable}
use Rattle.px_links.proofs.Tables.{within, one_holder}

-- what the lists have together, one of them has
concat_has : (lists : List (List ℕ)) (cell : ℕ) → has (concat lists) cell ≡ true
    → (list : ℕ) × (has (nth lists list) cell ≡ true)
concat_has [] cell has_it = absurd (cc)
concat_has (first ∷ lists) cell has_it = elim (cases_Bool (has first cell)) [
  | inl here ↦ (0, here)
  | inr other ↦
      let rest = concat_has lists cell (sym (list_any-append (nat_eq cell) first (concat lists)
      ∙ ap (λ b. b || has (concat lists) cell) other) ∙ has_it) in
      (suc rest.0, rest.1)
]

once-concat : (lists : List (List ℕ)) → ((list : ℕ) → AllPairs (λ a b. a ≢ b) (nth lists list))
    → ((list other cell : ℕ) → has (nth lists list) cell ≡ true → has (nth lists other) cell ≡ true → list ≡ other)
    → AllPairs (λ a b. a ≢ b) (concat lists)
once-concat [] once one = λ i j d before below. absurd (omega arith)
once-concat (first ∷ lists) once one = pairs_append (λ a b. a ≢ b) first (concat lists) (once 0)
    (once-concat lists (λ list. once (suc list)) (λ list other cell has_it has_too.
    let same : suc list ≡ suc other = one (suc list) (suc other) cell has_it has_too in omega arith))
    (λ i j d near far is.
    let cell : ℕ = get_or first i d in
    let here = list_any_at (nat_eq cell) first i d near (eq-eqb cell cell refl) in
    let behind = concat_has lists cell (list_any_at (nat_eq cell) (concat lists) j d far (eq-eqb cell _ is)) in
    let same : 0 ≡ suc behind.0 = one 0 (suc behind.0) cell here behind.1 in
    omega arith)

-- what stands once in all lists together stands once in each
pub once-nth : (lists : List (List ℕ)) (list : ℕ) → AllPairs (λ a b. a ≢ b) (concat lists) → AllPairs (λ a b. a ≢ b) (nth lists list)
once-nth [] list once = λ i j d before below. absurd (omega arith)
once-nth (first ∷ lists) zero once = λ i j d before below same.
    once i j d before (omega (arith, below, length-append first (concat lists)))
    (get_or_append_left first (concat lists) d i (omega (arith, before, below)) ∙ same
    ∙ sym (get_or_append_left first (concat lists) d j below))
once-nth (first ∷ lists) (suc list) once = once-nth lists list (λ i j d before below same.
    once (length first + i) (length first + j) d (omega (arith, before))
    (omega (arith, below, length-append first (concat lists)))
    (get_or-append-add first (concat lists) i d ∙ same ∙ sym (get_or-append-add first (concat lists) j d)))

pub table-once : (cells : List Cell) (ends : List Ends) (lists : List (List ℕ)) → IsTable cells ends lists
    → IsOnce (record { cells = length cells; lists = lists })
table-once cells ends lists table = record {
  within = λ k d below.
      let place = concat_has lists (get_or (concat lists) k d)
      (list_any_at (nat_eq (get_or (concat lists) k d)) (concat lists) k d below (eq-eqb _ _ refl)) in
      within cells ends lists table place.0 (get_or (concat lists) k d) place.1;
  once = once-concat lists table.once (one_holder cells ends lists table);
}
