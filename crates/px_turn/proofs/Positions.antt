-- Where a number stands in a history.
use Rattle.std.proofs.Common.{◌≡◌, ◌≢◌, ℕ, ◌+◌, ◌≤◌, Bool, true, false, if◌then◌else◌, List, [], ◌∷◌, ◌++◌, length, Some, None, refl, ap, ◌∙◌, arith, append-nil, eq-eqb, ne_eqb}
use Rattle.std.proofs.lemmas.List.Elements.{All-head, All-tail}
use Rattle.std.proofs.lemmas.List.Folds.{map_fixed}
use Rattle.std.proofs.lemmas.Simd.{map-map}
use Rattle.px_value.specs.General.{is_number}
use Rattle.px_turn.specs.declared.view.Stamped.{Stamped}
use Rattle.px_turn.specs.Histories.{stamped, items, opened, positions_from, positions, IsMade, AreMade}

module _ {I : Type 0} where
  pub positions-append : (number at : ℕ) (xs ys : List (Stamped I))
      → positions_from number at (xs ++ ys) ≡ positions_from number at xs ++ positions_from number (at + length xs) ys
  positions-append number at [] ys = ap (λ (k : ℕ). positions_from number k ys) (omega arith)
  positions-append number at (x ∷ xs) ys =
      by (is_number x.maker number)
      (positions-append number (at + 1) xs ys
      ∙ ap (λ (k : ℕ). positions_from number (at + 1) xs ++ positions_from number k ys) (omega arith))
    where
      by : (b : Bool)
          → positions_from number (at + 1) (xs ++ ys)
          ≡ positions_from number (at + 1) xs ++ positions_from number (at + length (x ∷ xs)) ys
          → (if b then at ∷ positions_from number (at + 1) (xs ++ ys) else positions_from number (at + 1) (xs ++ ys))
          ≡ (if b then at ∷ positions_from number (at + 1) xs else positions_from number (at + 1) xs)
          ++ positions_from number (at + length (x ∷ xs)) ys
      by true rest = ap (λ (places : List ℕ). at ∷ places) rest
      by false rest = rest

  -- an entry that carries the number
  pub positions_own : (number : ℕ) (history : List (Stamped I)) (item : I)
      → positions number (history ++ stamped (Some number) item ∷ []) ≡ positions number history ++ length history ∷ []
  positions_own number history item =
      let place : 0 + length history ≡ length history = omega arith in
      positions-append number 0 history (stamped (Some number) item ∷ [])
      ∙ ap (λ (b : Bool). positions number history ++ (if b then (0 + length history) ∷ [] else [])) (eq-eqb number number refl)
      ∙ ap (λ (at : ℕ). positions number history ++ at ∷ []) place

  -- an entry that carries another
  pub positions_other : (number other : ℕ) (history : List (Stamped I)) (item : I) → other ≢ number
      → positions number (history ++ stamped (Some other) item ∷ []) ≡ positions number history
  positions_other number other history item apart =
      positions-append number 0 history (stamped (Some other) item ∷ [])
      ∙ ap (λ (b : Bool). positions number history ++ (if b then (0 + length history) ∷ [] else [])) (ne_eqb other number apart)
      ∙ append-nil (positions number history)

  -- what was there at the opening carries none
  pub positions_opened : (number at : ℕ) (list : List I) → positions_from number at (opened list) ≡ []
  positions_opened number at [] = refl
  positions_opened number at (x ∷ list) = positions_opened number (at + 1) list

  -- nor does an entry of which all carry smaller ones
  positions_made : (number below at : ℕ) (later : List (Stamped I)) → below ≤ number → AreMade below later
      → positions_from number at later ≡ []
  positions_made number below at [] high made = refl
  positions_made number below at (e ∷ later) high made =
      let here : IsMade below e = All-head (IsMade below) e later made in
      let other : is_number e.maker number ≡ false =
      ap (λ maker. is_number maker number) here.1 ∙ ne_eqb here.0 number (λ same. absurd (omega (arith, here.2))) in
      ap (λ b. if b then at ∷ positions_from number (at + 1) later else positions_from number (at + 1) later) other
      ∙ positions_made number below (at + 1) later high (All-tail (IsMade below) e later made)

  -- a number that no entry carries
  pub positions_none : (number below : ℕ) (list : List I) (at : ℕ) (later : List (Stamped I)) → below ≤ number
      → AreMade below later
      → positions_from number at (opened list ++ later) ≡ []
  positions_none number below list at later high made =
      positions-append number at (opened list) later
      ∙ ap (λ (places : List ℕ). places ++ positions_from number (at + length (opened list)) later) (positions_opened number at list)
      ∙ positions_made number below (at + length (opened list)) later high made

  pub items_opened : (list : List I) → items (opened list) ≡ list
  items_opened list =
      map-map (λ (e : Stamped I). e.item) (stamped None) list ∙ map_fixed (λ item. item) list (λ k d within. refl)
