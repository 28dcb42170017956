-- A walk along a list, from a cell to the one behind it.
use Rattle.std.proofs.Common.{◌≡◌, ◌≢◌, ℕ, suc, true, ◌||◌, nat_eq, List, [], ◌∷◌, slice_get, Option, Some, None, IfSome, IsSome, AllPairs, Contains, refl, ap, sym, ◌∙◌, arith, subst, inl, inr, rules}
use Rattle.std.specs.Prelude.{if◌then◌else◌}
use Rattle.std.specs.Option.{unwrap_or}
use Rattle.std.proofs.lemmas.Bool.{eqb-true, eq-eqb, or_right}
use Rattle.std.proofs.lemmas.Bool.Decides.{eqb_tells}
use Rattle.std.proofs.lemmas.Grind.{common_steps}
use Rattle.std.proofs.lemmas.Map.Views.{Contains-from_any}
use Rattle.px_links.specs.declared.cell.Cell.{Cell}
use Rattle.px_links.specs.declared.cell.Ends.{Ends}
use Rattle.px_links.specs.declared.links.Links.TheInside.{Inside}
use Rattle.px_links.specs.Links.{LinksData, rest_of, holder_of, first_of, last_of, next_of}
use Rattle.px_links.specs.Lists.{has, behind, from_cell, nth}
use Rattle.px_links.specs.Keeping.{IsKept, links_data}
use Rattle.px_links.proofs.Linking.{first_has, number_here, here_number, if_some}
use Rattle.px_links.proofs.Reading.{holder-read, last-read, first_held}
use Rattle.px_links.proofs.Tables.{last_in}

-- from one on, or none
abbrev from_at : List ℕ → Option ℕ → List ℕ
from_at list None = []
from_at list (Some cell) = from_cell list cell

from-first : (list : List ℕ) → from_at list (slice_get list 0) ≡ list
from-first [] = refl
from-first (first ∷ list) = rw (eq-eqb first first refl) refl

-- the cell behind one is in the list
behind_has : (list : List ℕ) (cell other : ℕ) → behind list cell ≡ Some other → has list other ≡ true
behind_has [] cell other is = absurd (cc)
behind_has (first ∷ list) cell other is = elim (eqb_tells cell first) [
  | inl same ↦ or_right (nat_eq other first) _ (first_has list other (sym (ap (λ b. if b then slice_get list 0 else behind list cell) same.0) ∙ is))
  | inr apart ↦ or_right (nat_eq other first) _
      (behind_has list cell other (sym (ap (λ b. if b then slice_get list 0 else behind list cell) apart.0) ∙ is))
]

-- a list without its first cell, from a cell that isn't the first
from-tail : (first : ℕ) (list : List ℕ) (at : Option ℕ) → (at ≡ Some first → ⊥) → from_at (first ∷ list) at ≡ from_at list at
from-tail first list None apart = refl
from-tail first list (Some cell) apart = grind (arith, common_steps)

-- the first of those that stand once each is not among the others
pub not_again : (first : ℕ) (list : List ℕ) → AllPairs (λ a b. a ≢ b) (first ∷ list) → Contains list first → ⊥
not_again first list once again = once 0 (suc again.0) first (omega arith) (omega (arith, again.1)) (sym again.2)

from-behind : (list : List ℕ) (cell : ℕ) → AllPairs (λ a b. a ≢ b) list → has list cell ≡ true
    → from_cell list cell ≡ cell ∷ from_at list (behind list cell)
from-behind [] cell once has_it = absurd (cc)
from-behind (first ∷ list) cell once has_it = elim (eqb_tells cell first) [
  | inl same ↦ rw (same.0, same.1) (ap (λ rest. first ∷ rest)
      (sym (from-tail first list (slice_get list 0) (λ is.
      not_again first list once (Contains-from_any eqb-true first list (first_has list first is))) ∙ from-first list)))
  | inr apart ↦ rw (apart.0) (from-behind list cell (λ i j d before below. once (suc i) (suc j) d (omega arith) (omega arith))
      (sym (ap (λ b. b || has list cell) apart.0) ∙ has_it)
      ∙ ap (λ rest. cell ∷ rest) (sym (from-tail first list (behind list cell) (λ is.
      not_again first list once (Contains-from_any eqb-true first list (behind_has list cell first is))))))
]

-- ---- a walk along a list of a table

module _ (links : Inside) (now : LinksData) (view : links_data links ≡ now) (kept : IsKept links) where
  abbrev cells : List Cell
  cells = links.cells.items

  abbrev ends : List Ends
  ends = links.ends.items

  abbrev table : LinksData
  table = links_data links

  -- the list that has a cell is its holder
  held-in : (list cell : ℕ) → has (nth table.lists list) cell ≡ true → holder_of table cell ≡ Some list
  held-in list cell has_it =
      holder-read cells ends table.lists kept cell ∙ number_here _ list (kept.held cell list ∙ has_it)

  has-held : (list cell : ℕ) → holder_of table cell ≡ Some list → has (nth table.lists list) cell ≡ true
  has-held list cell held =
      sym (kept.held cell list) ∙ here_number _ list (sym (holder-read cells ends table.lists kept cell) ∙ held)

  first-holder : (list : ℕ) → IfSome (first_of table list) (λ cell. holder_of table cell ≡ Some list)
  first-holder list = if_some (first_of table list) (λ cell is.
      holder-read cells ends table.lists kept cell ∙ (first_held links table refl kept list cell is).0)

  last-holder : (list : ℕ) → IfSome (last_of table list) (λ cell. holder_of table cell ≡ Some list)
  last-holder list = if_some (last_of table list) (λ cell is.
      held-in list cell (last_in cells ends table.lists kept list cell (last-read cells ends table.lists kept list ∙ is)).0)

  -- what is behind a cell has its holder
  behind-holder : (cell list : ℕ) → holder_of table cell ≡ Some list
      → IfSome (behind (nth table.lists list) cell) (λ other. holder_of table other ≡ Some list)
  behind-holder cell list held = if_some (behind (nth table.lists list) cell) (λ other is.
      held-in list other (behind_has (nth table.lists list) cell other is))

  next-holder : (cell : ℕ) → IfSome (next_of table cell) (λ other. holder_of table other ≡ holder_of table cell)
  next-holder cell = search (rules, behind-holder)

  -- the cells from one on, in the list that has it
  rest-in : (list : ℕ) (at : Option ℕ) → IfSome at (λ cell. holder_of table cell ≡ Some list)
      → rest_of table at ≡ from_at (nth table.lists list) at
  rest-in list None held = refl
  rest-in list (Some cell) held = ap (λ holder. from_cell (nth table.lists (unwrap_or holder 0)) cell) held

  first-rest : (list : ℕ) → rest_of table (first_of table list) ≡ nth table.lists list
  first-rest list = rest-in list (first_of table list) (first-holder list) ∙ from-first (nth table.lists list)

  next-rest : (cell : ℕ) → IsSome (holder_of table cell) → rest_of table (Some cell) ≡ cell ∷ rest_of table (next_of table cell)
  next-rest cell = grind (arith, common_steps, rest-in, from-behind, has-held, behind-holder)

  -- the same of what contracts see
  pub first-walk : (list : ℕ) → IfSome (first_of now list) (λ cell. holder_of now cell ≡ Some list)
      × (rest_of now (first_of now list) ≡ nth now.lists list)
  first-walk list = subst (λ (now : LinksData). IfSome (first_of now list) (λ cell. holder_of now cell ≡ Some list)
      × (rest_of now (first_of now list) ≡ nth now.lists list)) view (first-holder list, first-rest list)

  pub last-held : (list : ℕ) → IfSome (last_of now list) (λ cell. holder_of now cell ≡ Some list)
  last-held list = subst (λ (now : LinksData). IfSome (last_of now list) (λ cell. holder_of now cell ≡ Some list)) view
      (last-holder list)

  pub next-walk : (cell : ℕ) → IfSome (next_of now cell) (λ other. holder_of now other ≡ holder_of now cell)
      × (IsSome (holder_of now cell) → rest_of now (Some cell) ≡ cell ∷ rest_of now (next_of now cell))
  next-walk cell = subst (λ (now : LinksData). IfSome (next_of now cell) (λ other. holder_of now other ≡ holder_of now cell)
      × (IsSome (holder_of now cell) → rest_of now (Some cell) ≡ cell ∷ rest_of now (next_of now cell))) view
      (next-holder cell, next-rest cell)
