-- Each source of a condition that has a cell begins at the cell's source.
use Rattle.std.proofs.Common.{◌≡◌, ℕ, zero, suc, ◌+◌, ◌-◌, ◌<◌, ◌≤◌, Bool, true, false, not, ◌&&◌, List, [], ◌∷◌, ◌++◌, length, map, sum, take, replicate, get_or, Some, is_some, inl, inr, refl, ap, sym, ◌∙◌, arith, All, if◌then◌else◌}
use Rattle.std.specs.List.{list_any}
use Rattle.std.specs.Option.{unwrap_or}
use Rattle.std.proofs.lemmas.Bool.{cases_lt}
use Rattle.std.proofs.lemmas.Grind.{flat_map-append}
use Rattle.std.proofs.lemmas.List.{append_assoc, append-nil, get_or_append_left, get_or-append-add, get_or-replicate, length-append, length-replicate, take_more}
use Rattle.std.proofs.lemmas.List.Elements.{All-append, All-cons, All-nil}
use Rattle.std.proofs.lemmas.Option.{slice_get_past, slice_get-get_or}
use Rattle.px_core.specs.declared.conditions.ConditionKind.{ConditionKind}
use Rattle.px_core.specs.declared.conditions.ConditionKind.TheVariants as which
use Rattle.px_core.specs.Expr as terms
use Rattle.px_core.specs.Expr.{Term, Terms, NoTerms, More}
use Rattle.px_core.specs.Fit.{Scalar, Array, cells_of, cells_of_site, declares_array, declares_scalar, references, references_of_each, terms_of_conditions}
use Rattle.px_core.specs.Plan.{Site, VariableData, no_site, no_term, is_same}
use Rattle.px_flat.specs.Layout.{Place, first_cell, place_from, variable_cells, state_cell, outcome_cell, failure_cell, handle_cell, acknowledgement_cell}
use Rattle.px_flat.specs.Lookups.{lookups_in, lookups_in_each, AreKnown}
use Rattle.px_flat.specs.Numbered.{each_numbered, node_of, numbered, place_of}
use Rattle.px_flat.specs.Row.{site_in}
use Rattle.px_flat.specs.Sources.{Source, Cells, Reports, sources_in, sources_in_each}
use Rattle.px_flat.proofs.Known.{IsSound, back, conditions_known, front}
use Rattle.px_flat.proofs.NumberedValues.{first_variable}
use Rattle.px_flat.proofs.Sums.{sum_rest}
use Rattle.px_flat.proofs.Variables.{IsDeclared, declared, declared_place, place_at, place_behind}
use Rattle.px_flat.proofs.Worlds.{IsThere, site_there}
use Rattle.px_cached.specs.Conditions.{condition_in, source_number}
use Rattle.px_cached.specs.Firsts.{HasCell, firsts_from, firsts_of, source_of, variables_of}

-- ---- variables one after another

pub length-firsts_from : (cell : ℕ) (variables : List VariableData)
    → length (firsts_from cell variables) ≡ sum (map cells_of variables)
length-firsts_from cell [] = refl
length-firsts_from cell (variable ∷ variables) = omega (
  arith,
  sum_rest cells_of variable variables,
  length-append (replicate (cells_of variable) cell) (firsts_from (cell + cells_of variable) variables),
  length-replicate (cells_of variable) cell,
  length-firsts_from (cell + cells_of variable) variables,
)

pub firsts_from-append : (cell : ℕ) (front behind : List VariableData)
    → firsts_from cell (front ++ behind) ≡ firsts_from cell front ++ firsts_from (cell + sum (map cells_of front)) behind
firsts_from-append cell [] behind =
    let none : cell ≡ cell + sum (map cells_of []) = omega arith in
    ap (λ cell. firsts_from cell behind) none
firsts_from-append cell (variable ∷ front) behind =
    let own = replicate (cells_of variable) cell in
    let next : ℕ = cell + cells_of variable in
    let far : next + sum (map cells_of front) ≡ cell + sum (map cells_of (variable ∷ front)) = omega (arith, sum_rest cells_of variable front) in
    ap (λ rest. own ++ rest) (firsts_from-append next front behind)
    ∙ sym (append_assoc own (firsts_from next front) (firsts_from (next + sum (map cells_of front)) behind))
    ∙ ap (λ cell. (own ++ firsts_from next front) ++ firsts_from cell behind) far

-- one more
pub more_variables : (cell : ℕ) (variables : List VariableData) (i : ℕ) (d : VariableData) → i < length variables
    → firsts_from cell (take (i + 1) variables) ≡ firsts_from cell (take i variables)
    ++ replicate (cells_of (get_or variables i d)) (cell + sum (map cells_of (take i variables)))
more_variables cell variables i d inside =
    let at : ℕ = cell + sum (map cells_of (take i variables)) in
    ap (firsts_from cell) (take_more variables i d inside)
    ∙ firsts_from-append cell (take i variables) (get_or variables i d ∷ [])
    ∙ ap (λ own. firsts_from cell (take i variables) ++ own) (append-nil (replicate (cells_of (get_or variables i d)) at))

-- each cell of a variable among these has the variable's first
in_variables : (cell : ℕ) (variables : List VariableData) (name : List ℕ) (place : Place) (j k : ℕ)
    → place_from cell variables name ≡ Some place → k < place.size → cell + j ≡ place.first + k
    → get_or (firsts_from cell variables) j 0 ≡ place.first
in_variables cell [] name place j k at inside is = absurd (cc)
in_variables cell (variable ∷ variables) name place j k at inside is =
    by (is_same variable.name name) at
    (λ j at is. in_variables (cell + cells_of variable) variables name place j k at inside is)
  where
    next : ℕ
    next = cell + cells_of variable

    own : List ℕ
    own = replicate (cells_of variable) cell

    by : (same : Bool)
        → (if same then Some (record { first = cell; size = cells_of variable }) else place_from next variables name) ≡ Some place
        → ((j : ℕ) → place_from next variables name ≡ Some place → next + j ≡ place.first + k
        → get_or (firsts_from next variables) j 0 ≡ place.first)
        → get_or (own ++ firsts_from next variables) j 0 ≡ place.first
    by true at rest =
        let made : Place = record { first = cell; size = cells_of variable } in
        let here : made ≡ place = (cc) in
        let first : cell ≡ place.first = ap (λ (place : Place). place.first) here in
        let size : cells_of variable ≡ place.size = ap (λ (place : Place). place.size) here in
        let below : j < cells_of variable = omega (arith, is, inside, first, size) in
        get_or_append_left own (firsts_from next variables) 0 j (omega (arith, below, length-replicate (cells_of variable) cell))
        ∙ get_or-replicate (cells_of variable) j cell 0 below
        ∙ first
    by false at rest =
        let behind : next ≤ place.first = place_behind next variables name place at in
        let past : j ≡ length own + (j - cells_of variable) =
        omega (arith, is, behind, length-replicate (cells_of variable) cell) in
        ap (λ j. get_or (own ++ firsts_from next variables) j 0) past
        ∙ get_or-append-add own (firsts_from next variables) (j - cells_of variable) 0
        ∙ rest (j - cells_of variable) at (omega (arith, is, behind))

-- none stands behind its cell
low : (cell : ℕ) (variables : List VariableData) (j : ℕ) → get_or (firsts_from cell variables) j 0 ≤ cell + j
low cell [] j = omega arith
low cell (variable ∷ variables) j =
    let own = replicate (cells_of variable) cell in
    let next : ℕ = cell + cells_of variable in
    let long = length-replicate (cells_of variable) cell in
    elim (cases_lt j (cells_of variable)) [
      | inl below ↦ omega (
        arith,
        get_or_append_left own (firsts_from next variables) 0 j (omega (arith, below, long)),
        get_or-replicate (cells_of variable) j cell 0 below,
      )
      | inr past ↦
          let at : j ≡ length own + (j - cells_of variable) = omega (arith, past, long) in
          omega (
            arith,
            past,
            ap (λ j. get_or (own ++ firsts_from next variables) j 0) at,
            get_or-append-add own (firsts_from next variables) (j - cells_of variable) 0,
            low next variables (j - cells_of variable),
          )
    ]

-- ---- nodes one after another

all_long : (cell : ℕ) (plan : List Site) → length (firsts_from cell (variables_of plan)) ≡ variable_cells plan
all_long cell [] = refl
all_long cell (site ∷ plan) =
    let own = site.head.variables in
    let more : variable_cells (site ∷ plan) ≡ cells_of_site site + variable_cells plan = sum_rest cells_of_site site plan in
    omega (
      arith,
      more,
      ap length (firsts_from-append cell own (variables_of plan)),
      length-append (firsts_from cell own) (firsts_from (cell + cells_of_site site) (variables_of plan)),
      length-firsts_from cell own,
      all_long (cell + cells_of_site site) plan,
    )

pub length-firsts_of : (plan : List Site) → length (firsts_of plan) ≡ variable_cells plan
length-firsts_of plan = all_long 0 plan

-- one node more
pub more_nodes : (plan : List Site) (node : ℕ) → node < length plan
    → firsts_of (take (node + 1) plan)
    ≡ firsts_of (take node plan) ++ firsts_from (first_cell plan node) (site_in plan node).head.variables
more_nodes plan node inside =
    let front : List Site = take node plan in
    let own = (site_in plan node).head.variables in
    let at : 0 + sum (map cells_of (variables_of front)) ≡ first_cell plan node =
    omega (arith, length-firsts_from 0 (variables_of front), all_long 0 front) in
    ap firsts_of (take_more plan node no_site inside)
    ∙ ap (firsts_from 0) (flat_map-append (λ site. site.head.variables) front (site_in plan node ∷ []))
    ∙ firsts_from-append 0 (variables_of front) (variables_of (site_in plan node ∷ []))
    ∙ (λ i. firsts_of front ++ firsts_from (at i) (append-nil own i))

-- the cells of a node's variables stand behind those of the nodes before
at_node : (cell : ℕ) (plan : List Site) (node j : ℕ) → node < length plan → j < cells_of_site (site_in plan node)
    → get_or (firsts_from cell (variables_of plan)) (first_cell plan node + j) 0
    ≡ get_or (firsts_from (cell + first_cell plan node) (site_in plan node).head.variables) j 0
at_node cell [] node j within inside = absurd (omega (arith, within))
at_node cell (site ∷ plan) zero j within inside =
    let own = site.head.variables in
    let behind = firsts_from (cell + cells_of_site site) (variables_of plan) in
    let none : first_cell (site ∷ plan) zero ≡ 0 = refl in
    let at : first_cell (site ∷ plan) zero + j ≡ j = omega (arith, none) in
    let here : cell ≡ cell + first_cell (site ∷ plan) zero = omega (arith, none) in
    ap (λ at. get_or (firsts_from cell (own ++ variables_of plan)) at 0) at
    ∙ ap (λ firsts. get_or firsts j 0) (firsts_from-append cell own (variables_of plan))
    ∙ get_or_append_left (firsts_from cell own) behind 0 j (omega (arith, inside, length-firsts_from cell own))
    ∙ ap (λ cell. get_or (firsts_from cell own) j 0) here
at_node cell (site ∷ plan) (suc node) j within inside =
    let own = site.head.variables in
    let before = first_cell plan node in
    let next : ℕ = cell + cells_of_site site in
    let more : first_cell (site ∷ plan) (suc node) ≡ cells_of_site site + before =
    sum_rest cells_of_site site (take node plan) in
    let at : first_cell (site ∷ plan) (suc node) + j ≡ length (firsts_from cell own) + (before + j) =
    omega (arith, more, length-firsts_from cell own) in
    let far : next + before ≡ cell + first_cell (site ∷ plan) (suc node) = omega (arith, more) in
    ap (λ at. get_or (firsts_from cell (own ++ variables_of plan)) at 0) at
    ∙ ap (λ firsts. get_or firsts (length (firsts_from cell own) + (before + j)) 0) (firsts_from-append cell own (variables_of plan))
    ∙ get_or-append-add (firsts_from cell own) (firsts_from next (variables_of plan)) (before + j) 0
    ∙ at_node next plan node j (omega (arith, within)) inside
    ∙ ap (λ cell. get_or (firsts_from cell (site_in plan node).head.variables) j 0) far

-- ---- a cell's source

among : (plan : List Site) (cell : ℕ) → cell < variable_cells plan → source_of plan cell ≡ get_or (firsts_of plan) cell 0
among plan cell below = ap (λ first. unwrap_or first cell)
    (slice_get-get_or (firsts_of plan) cell 0 (omega (arith, below, length-firsts_of plan)))

itself : (plan : List Site) (cell : ℕ) → variable_cells plan ≤ cell → source_of plan cell ≡ cell
itself plan cell behind = ap (λ first. unwrap_or first cell)
    (slice_get_past (firsts_of plan) cell (omega (arith, behind, length-firsts_of plan)))

pub source_low : (plan : List Site) (cell : ℕ) → source_of plan cell ≤ cell
source_low plan cell = elim (cases_lt cell (variable_cells plan)) [
  | inl below ↦ omega (arith, among plan cell below, low 0 (variables_of plan) cell)
  | inr behind ↦ omega (arith, itself plan cell behind)
]

-- a variable that is there
module _ (plan : List Site) (sound : IsSound plan) (owner name : List ℕ) (form : VariableData → Bool)
    (there : IsThere plan owner (λ site. list_any (λ variable. is_same variable.name name && form variable) site.head.variables)) where
  its : IsDeclared plan owner name
  its = declared plan owner name form sound there

  some_cell : 0 < (place_of plan owner name).size
  some_cell = (declared_place plan owner name sound its).some

  first_is : (cell : ℕ) → HasCell (Cells (place_of plan owner name).first (place_of plan owner name).size) cell
      → (place_of plan owner name).first ≡ source_of plan cell
  first_is cell in_it =
      let node = its.node in
      let has = its.has in
      let variables = (site_in plan node).head.variables in
      let own = first_cell plan node in
      let place_is = place_at plan owner name sound its in
      let first = ap (λ (place : Place). place.first) place_is in
      let size = ap (λ (place : Place). place.size) place_is in
      let behind : own ≤ has.place.first = place_behind own variables name has.place has.is in
      let inside : cell - own < cells_of_site (site_in plan node) =
      omega (arith, in_it.0, in_it.1, first, size, behind, has.within) in
      let below : cell < variable_cells plan = omega (arith, in_it.1, (declared_place plan owner name sound its).within) in
      let at : cell ≡ own + (cell - own) = omega (arith, in_it.0, first, behind) in
      let zero_on : 0 + own ≡ own = omega arith in
      first ∙ sym (
      among plan cell below
      ∙ ap (λ at. get_or (firsts_of plan) at 0) at
      ∙ at_node 0 plan node (cell - own) its.within inside
      ∙ ap (λ cell'. get_or (firsts_from cell' variables) (cell - own) 0) zero_on
      ∙ in_variables own variables name has.place (cell - own) (cell - has.place.first) has.is
      (omega (arith, in_it.0, in_it.1, first, size, has.some_cells)) (omega (arith, in_it.0, first, behind))
      )

  only_is : (cell : ℕ) → HasCell (Cells (place_of plan owner name).first 1) cell
      → (place_of plan owner name).first ≡ source_of plan cell
  only_is cell in_it = first_is cell (in_it.0, omega (arith, in_it.0, in_it.1, some_cell))

-- ---- the sources of an expression

module _ (plan : List Site) (sound : IsSound plan) (cell : ℕ) where
  -- it begins at the cell's source where it has the cell
  abbrev pub Begins : Source → Type 0
  Begins source = HasCell source cell → source_number plan source ≡ source_of plan cell

  one : (source : Source) → Begins source → All Begins (source ∷ [])
  one source begins = All-cons Begins source [] begins (All-nil Begins)

  of_node : (at : ℕ) → variable_cells plan ≤ at → All Begins (Cells at 1 ∷ [])
  of_node at behind = one (Cells at 1) (λ in_it.
      let same : at ≡ cell = omega (arith, in_it.0, in_it.1) in
      same ∙ sym (itself plan cell (omega (arith, same, behind))))

  mutual
    pub begin_each : (term : Term) → AreKnown plan (references term) (lookups_in term)
        → All Begins (sources_in plan (numbered plan term))
    begin_each (terms.Literal value) known = All-nil Begins
    begin_each (terms.Var owner name) known =
        one (Cells (place_of plan owner name).first 1) (only_is plan sound owner name (λ variable. not (is_some variable.size))
        (site_there (declares_scalar name) owner plan (first_variable plan (Scalar owner name) [] [] known)) cell)
    begin_each (terms.Cell owner name index) known =
        All-cons Begins (Cells (place_of plan owner name).first (place_of plan owner name).size)
        (sources_in plan (numbered plan index))
        (first_is plan sound owner name (λ variable. is_some variable.size)
        (site_there (declares_array name) owner plan
        (first_variable plan (Array owner name) (references index) (lookups_in index) known)) cell)
        (begin_each index (back plan (Array owner name ∷ []) (references index) [] (lookups_in index) known))
    begin_each (terms.StateOf path) known = of_node (state_cell plan (node_of plan path)) (omega arith)
    begin_each (terms.OutcomeOf path) known = of_node (outcome_cell plan (node_of plan path)) (omega arith)
    begin_each (terms.FailureOf path) known = of_node (failure_cell plan (node_of plan path)) (omega arith)
    begin_each (terms.HandleOf path) known = of_node (handle_cell plan (node_of plan path)) (omega arith)
    begin_each (terms.Acknowledged path) known = of_node (acknowledgement_cell plan (node_of plan path)) (omega arith)
    begin_each (terms.Look word name args tolerance) known =
        let rest : AreKnown plan (references_of_each args) (lookups_in_each args) =
        back plan [] (references_of_each args) (name ∷ []) (lookups_in_each args) known in
        All-cons Begins (Reports _ tolerance) (sources_in_each plan (each_numbered plan args)) (λ in_it. absurd in_it)
        (begin_all args rest)
    begin_each (terms.Unary op arg) known = begin_each arg known
    begin_each (terms.Binary op left right) known =
        All-append Begins (sources_in plan (numbered plan left)) (sources_in plan (numbered plan right))
        (begin_each left (front plan (references left) (references right) (lookups_in left) (lookups_in right) known))
        (begin_each right (back plan (references left) (references right) (lookups_in left) (lookups_in right) known))

    pub begin_all : (args : Terms) → AreKnown plan (references_of_each args) (lookups_in_each args)
        → All Begins (sources_in_each plan (each_numbered plan args))
    begin_all NoTerms known = All-nil Begins
    begin_all (More first rest) known =
        All-append Begins (sources_in plan (numbered plan first)) (sources_in_each plan (each_numbered plan rest))
        (begin_each first (front plan (references first) (references_of_each rest) (lookups_in first) (lookups_in_each rest) known))
        (begin_all rest (back plan (references first) (references_of_each rest) (lookups_in first) (lookups_in_each rest) known))

  pub begin_there : (node : ℕ) (kind : ConditionKind) → node < length plan
      → All Begins (sources_in plan (condition_in plan node kind))
  begin_there node kind there = by kind
    where
      each : All (λ term. AreKnown plan (references term) (lookups_in term))
          (terms_of_conditions (site_in plan node).head.conditions)
      each = conditions_known plan sound node there

      by : (kind : ConditionKind) → All Begins (sources_in plan (condition_in plan node kind))
      by which.Start = begin_each (site_in plan node).head.conditions.start (each 0 no_term (omega arith))
      by which.End = begin_each (site_in plan node).head.conditions.end (each 1 no_term (omega arith))
      by which.Exit = begin_each (site_in plan node).head.conditions.exit (each 2 no_term (omega arith))
      by which.Skip = begin_each (site_in plan node).head.conditions.skip (each 3 no_term (omega arith))
      by which.Repeat = begin_each (site_in plan node).head.conditions.repeat (each 4 no_term (omega arith))
      by which.Pre = begin_each (site_in plan node).head.conditions.pre (each 5 no_term (omega arith))
      by which.Post = begin_each (site_in plan node).head.conditions.post (each 6 no_term (omega arith))
      by which.Invariant = begin_each (site_in plan node).head.conditions.invariant (each 7 no_term (omega arith))
