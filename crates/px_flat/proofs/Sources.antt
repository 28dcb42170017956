-- An expression has the same value wherever all its sources are the same.
use Rattle.std.proofs.Common.{◌≡◌, ℕ, ◌+◌, ◌<◌, List, [], ◌∷◌, length, take, drop, get_or, refl, ap, sym, ◌∙◌, arith, All, rules}
use Rattle.std.proofs.lemmas.List.{ext_get_or, get_or-drop, get_or-take, length-drop, length-take}
use Rattle.std.proofs.lemmas.List.Elements.{All-head, All-tail}
use Rattle.px_value.specs.declared.value.Value.{Value}
use Rattle.px_value.specs.declared.value.Value.TheVariants.{Unknown}
use Rattle.px_value.proofs.General.{All-back, All-front}
use Rattle.px_core.specs.Plan.{Site}
use Rattle.px_sem.specs.Expressions.{element, unary_value, binary_value}
use Rattle.px_flat.specs.Layout.{state_cell, outcome_cell, failure_cell, handle_cell, acknowledgement_cell}
use Rattle.px_flat.specs.Lookups.{lookups_of}
use Rattle.px_flat.specs.Numbered.{Numbered, EachNumbered, NoneNumbered, MoreNumbered, Literal, Variable, Element, StateOf, OutcomeOf, FailureOf, HandleOf, Acknowledged, Look, Unary, Binary, held, reported_of, numbered_values}
use Rattle.px_flat.specs.Sources.{Source, Cells, Reports, Present, IsSame, sources_in, sources_in_each, value_in, ReadOnlySources}

-- cells that hold the same one after another are the same part of a list
pub same_cells : (first size : ℕ) (a b : List Value) → length a ≡ length b
    → ((k : ℕ) → k < size → held a (first + k) ≡ held b (first + k)) → take size (drop first a) ≡ take size (drop first b)
same_cells first size a b long same = ext_get_or Unknown (take size (drop first a)) (take size (drop first b))
    (omega (
      arith,
      long,
      length-take size (drop first a),
      length-take size (drop first b),
      length-drop first a,
      length-drop first b,
    ))
    (λ k inside.
    let below : k < size = omega (arith, inside, length-take size (drop first a)) in
    get_or-take size (drop first a) k Unknown below ∙ get_or-drop first a k Unknown
    ∙ same k below
    ∙ sym (get_or-take size (drop first b) k Unknown below ∙ get_or-drop first b k Unknown))

module _ (plan : List Site) (one other : Present) (long : length one.cells ≡ length other.cells) where
  abbrev AreSame : List Source → Type 0
  AreSame sources = All (IsSame plan one other) sources

  -- one cell holds the same
  cell : (at : ℕ) → AreSame (Cells at 1 ∷ []) → held one.cells at ≡ held other.cells at
  cell at all = search (rules, All-head)

  mutual
    pub same_value : (expr : Numbered) → AreSame (sources_in plan expr) → value_in plan one expr ≡ value_in plan other expr
    same_value (Literal value) all = refl
    same_value (Variable at) all = cell at all
    same_value (Element first size index) all =
        let sources = sources_in plan index in
        (λ i. element
        (same_cells first size one.cells other.cells long (All-head (IsSame plan one other) (Cells first size) sources all) i)
        (same_value index (All-tail (IsSame plan one other) (Cells first size) sources all) i))
    same_value (StateOf node) all = cell (state_cell plan node) all
    same_value (OutcomeOf node) all = cell (outcome_cell plan node) all
    same_value (FailureOf node) all = cell (failure_cell plan node) all
    same_value (HandleOf node) all = cell (handle_cell plan node) all
    same_value (Acknowledged node) all = cell (acknowledgement_cell plan node) all
    same_value (Look lookup args tolerance) all =
        let sources = sources_in_each plan args in
        ap (λ values. reported_of one.reports (get_or (lookups_of plan) lookup []) values tolerance)
        (same_values args (All-tail (IsSame plan one other) (Reports lookup tolerance) sources all))
        ∙ All-head (IsSame plan one other) (Reports lookup tolerance) sources all (numbered_values plan other.cells other.reports args)
    same_value (Unary op arg) all = ap (unary_value op) (same_value arg all)
    same_value (Binary op left right) all =
        (λ i. binary_value op
        (same_value left (All-front (IsSame plan one other) (sources_in plan left) (sources_in plan right) all) i)
        (same_value right (All-back (IsSame plan one other) (sources_in plan left) (sources_in plan right) all) i))

    pub same_values : (args : EachNumbered) → AreSame (sources_in_each plan args)
        → numbered_values plan one.cells one.reports args ≡ numbered_values plan other.cells other.reports args
    same_values NoneNumbered all = refl
    same_values (MoreNumbered first rest) all =
        (λ i. same_value first (All-front (IsSame plan one other) (sources_in plan first) (sources_in_each plan rest) all) i
        ∷ same_values rest (All-back (IsSame plan one other) (sources_in plan first) (sources_in_each plan rest) all) i)

pub read_only_sources : (plan : List Site) → ReadOnlySources plan
read_only_sources plan expr one other long all = same_value plan one other long expr all
