-- What a node of a fit plan writes is declared, and a cell belongs to one variable at most.
use Rattle.std.proofs.Common.{◌≡◌, ◌≢◌, ℕ, ◌+◌, ◌-◌, ◌<◌, ◌≤◌, Bool, true, false, not, ◌&&◌, List, [], ◌∷◌, ◌++◌, length, refl, ap, sym, ◌∙◌, subst, arith, inl, inr, Option, Some, None, is_some, if◌then◌else◌}
use Rattle.std.specs.List.{list_all, list_any, flat_map}
use Rattle.std.specs.Cmp.Lexicographic.{same_text}
use Rattle.std.proofs.lemmas.Bool.{and_parts, cases_eq, cases_lt}
use Rattle.std.proofs.lemmas.Grind.{common_steps}
use Rattle.std.proofs.lemmas.List.{take-take}
use Rattle.std.proofs.lemmas.List.Sums.{AllPass-from_list_all}
use Rattle.px_value.proofs.General.{list_all_parts}
use Rattle.px_core.specs.Expr.{Term}
use Rattle.px_core.specs.Fit.{Scalar, Array, Reference, references, references_of_target, terms_of, terms_of_conditions, targets_of, variable_is_there, variables_are_there, declares_scalar, declares_array, cells_of, cells_of_site, has_right_variables}
use Rattle.px_core.specs.Plan.{Site, Head, BodyData, Nothing, Assign, Command, Update, TargetData, VariableData, no_site, is_same}
use Rattle.px_sem.specs.Conflicts.{target_of}
use Rattle.px_flat.specs.Layout.{Place, place_from, first_cell, variable_cells}
use Rattle.px_flat.specs.Numbered.{place_of}
use Rattle.px_flat.specs.Row.{site_in}
use Rattle.px_flat.specs.Within.{IsPlace}
use Rattle.px_flat.proofs.Known.{IsSound}
use Rattle.px_flat.proofs.Sums.{sum_more, sum_front}
use Rattle.px_flat.proofs.VariableValues.{HasPlace, has_place, place_of-node}
use Rattle.px_flat.proofs.Worlds.{IsThere, site_there}

-- ---- one after another

pub place_behind : (cell : ℕ) (variables : List VariableData) (name : List ℕ) (place : Place)
    → place_from cell variables name ≡ Some place → cell ≤ place.first
place_behind cell [] name place at = absurd (cc)
place_behind cell (variable ∷ variables) name place at =
    by (is_same variable.name name) at (place_behind (cell + cells_of variable) variables name place)
  where
    by : (same : Bool)
        → (if same then Some (record { first = cell; size = cells_of variable })
        else place_from (cell + cells_of variable) variables name) ≡ Some place
        → (place_from (cell + cells_of variable) variables name ≡ Some place → cell + cells_of variable ≤ place.first)
        → cell ≤ place.first
    by true at rest =
        let own : Place = record { first = cell; size = cells_of variable } in
        let same : own ≡ place = (cc) in
        omega (arith, ap (λ (place : Place). place.first) same)
    by false at rest = omega (arith, rest at)

-- the cells of a later node stand behind those of an earlier one
pub cells_apart : (plan : List Site) (i j : ℕ) → i < j → j ≤ length plan
    → first_cell plan i + cells_of_site (site_in plan i) ≤ first_cell plan j
cells_apart plan i j before within = grind (arith, common_steps, sum_more, sum_front, take-take)

-- and all of them within the plan's
pub cells_within : (plan : List Site) (node : ℕ) → node < length plan
    → first_cell plan node + cells_of_site (site_in plan node) ≤ variable_cells plan
cells_within plan node within =
    omega (arith, sum_more cells_of_site plan node no_site within, sum_front cells_of_site plan (node + 1))

-- cells of variables of different nodes differ
pub nodes_apart : (plan : List Site) (a b i j : ℕ) → a < length plan → b < length plan → a ≢ b
    → i < cells_of_site (site_in plan a) → j < cells_of_site (site_in plan b)
    → first_cell plan a + i ≢ first_cell plan b + j
nodes_apart plan a b i j a_in b_in apart few others same = elim (cases_lt a b) [
  | inl before ↦ omega (arith, few, same, cells_apart plan a b before (omega (arith, b_in)))
  | inr not_before ↦
      omega (arith, others, same, cells_apart plan b a (omega (arith, not_before, apart)) (omega (arith, a_in)))
]

-- ---- what is declared

-- a node declares a variable of this name
pub record IsDeclared (plan : List Site) (owner name : List ℕ) : Type 0 where
  pub node : ℕ
  pub within : node < length plan
  pub path_is : (site_in plan node).path ≡ owner
  pub has : HasPlace (first_cell plan node) (site_in plan node).head.variables name

pub declared : (plan : List Site) (owner name : List ℕ) (form : VariableData → Bool) → IsSound plan
    → IsThere plan owner (λ site. list_any (λ variable. is_same variable.name name && form variable) site.head.variables)
    → IsDeclared plan owner name
declared plan owner name form sound there = record {
  node = there.node;
  within = there.within;
  path_is = there.path_is;
  has = has_place form (first_cell plan there.node) (site_in plan there.node).head.variables name
      (AllPass-from_list_all has_right_variables plan sound.arrays there.node no_site there.within) there.is;
}

-- its place is that of its node
pub place_at : (plan : List Site) (owner name : List ℕ) → IsSound plan → (its : IsDeclared plan owner name)
    → place_of plan owner name ≡ its.has.place
place_at plan owner name sound its = place_of-node plan owner name its.node sound.distinct its.within its.path_is its.has

-- it has cells there, one or more
pub declared_place : (plan : List Site) (owner name : List ℕ) → IsSound plan → IsDeclared plan owner name
    → IsPlace plan (place_of plan owner name)
declared_place plan owner name sound its = subst (IsPlace plan) (sym (place_at plan owner name sound its)) (record {
  some = its.has.some_cells;
  within = omega (arith, its.has.within, cells_within plan its.node its.within);
})

reference_declared : (plan : List Site) (owner name : List ℕ) (index : Option Term) → IsSound plan
    → list_all (variable_is_there plan) (references_of_target (record { owner = owner; name = name; index = index })) ≡ true
    → IsDeclared plan owner name
reference_declared plan owner name None sound there =
    declared plan owner name (λ variable. not (is_some variable.size)) sound
    (site_there (declares_scalar name) owner plan
    (and_parts (variable_is_there plan (Scalar owner name)) true there).0)
reference_declared plan owner name (Some index) sound there =
    declared plan owner name (λ variable. is_some variable.size) sound
    (site_there (declares_array name) owner plan
    (and_parts (variable_is_there plan (Array owner name)) (list_all (variable_is_there plan) (references index)) there).0)

-- the references of a body's target are among those of its targets
its_target : (plan : List Site) (body : BodyData) (target : TargetData) → target_of body ≡ Some target
    → list_all (variable_is_there plan) (flat_map references_of_target (targets_of body)) ≡ true
    → list_all (variable_is_there plan) (references_of_target target) ≡ true
its_target plan Nothing target is there = absurd (cc)
its_target plan (Assign own value) target is there = grind (arith, common_steps)
its_target plan (Command name args None) target is there = absurd (cc)
its_target plan (Command name args (Some own)) target is there = grind (arith, common_steps)
its_target plan (Update pairs) target is there = absurd (cc)

-- what a node of a fit plan writes is declared
pub target_declared : (plan : List Site) (node : ℕ) (target : TargetData) → IsSound plan → node < length plan
    → target_of (site_in plan node).head.body ≡ Some target → IsDeclared plan target.owner target.name
target_declared plan node target sound within is =
    let head : Head = (site_in plan node).head in
    let there : Reference → Bool = variable_is_there plan in
    let conditions : List Reference = flat_map references (terms_of_conditions head.conditions) in
    let terms : List Reference = flat_map references (terms_of head.body) in
    let targets : List Reference = flat_map references_of_target (targets_of head.body) in
    let all : list_all there (conditions ++ (terms ++ targets)) ≡ true =
    AllPass-from_list_all (variables_are_there plan) plan sound.declared node no_site within in
    let body = list_all_parts there conditions (terms ++ targets) all in
    let written = list_all_parts there terms targets body.1 in
    reference_declared plan target.owner target.name target.index sound (its_target plan head.body target is written.1)

-- ---- one cell, one variable

-- among the variables of one node
one_name : (cell : ℕ) (variables : List VariableData) (a b : List ℕ) (p q : Place) (i j : ℕ)
    → place_from cell variables a ≡ Some p → place_from cell variables b ≡ Some q
    → i < p.size → j < q.size → p.first + i ≡ q.first + j → a ≡ b
one_name cell [] a b p q i j at_a at_b in_p in_q same = absurd (cc)
one_name cell (variable ∷ variables) a b p q i j at_a at_b in_p in_q same =
    by (is_same variable.name a) refl (is_same variable.name b) refl at_a at_b
    (λ at_a at_b. one_name (cell + cells_of variable) variables a b p q i j at_a at_b in_p in_q same)
  where
    own : Place
    own = record { first = cell; size = cells_of variable }

    next : ℕ
    next = cell + cells_of variable

    by : (is_a : Bool) → is_same variable.name a ≡ is_a → (is_b : Bool) → is_same variable.name b ≡ is_b
        → (if is_a then Some own else place_from next variables a) ≡ Some p
        → (if is_b then Some own else place_from next variables b) ≡ Some q
        → (place_from next variables a ≡ Some p → place_from next variables b ≡ Some q → a ≡ b)
        → a ≡ b
    by true is_a true is_b at_a at_b rest =
        sym (same_text variable.name a (sym is_a)) ∙ same_text variable.name b (sym is_b)
    by true is_a false is_b at_a at_b rest =
        let here : own ≡ p = (cc) in
        let behind : next ≤ q.first = place_behind next variables b q at_b in
        absurd (omega (arith, ap (λ (place : Place). place.first) here, ap (λ (place : Place). place.size) here))
    by false is_a true is_b at_a at_b rest =
        let here : own ≡ q = (cc) in
        let behind : next ≤ p.first = place_behind next variables a p at_a in
        absurd (omega (arith, ap (λ (place : Place). place.first) here, ap (λ (place : Place). place.size) here))
    by false is_a false is_b at_a at_b rest = rest at_a at_b

-- of all nodes
pub one_cell : (plan : List Site) (owner name other_owner other_name : List ℕ) (i j : ℕ)
    (a : IsDeclared plan owner name) (b : IsDeclared plan other_owner other_name)
    → i < a.has.place.size → j < b.has.place.size → a.has.place.first + i ≡ b.has.place.first + j
    → (owner ≡ other_owner) × (name ≡ other_name)
one_cell plan owner name other_owner other_name i j a b in_a in_b same =
    elim (cases_eq b.node a.node) [
      | inl one ↦ (
        sym a.path_is ∙ ap (λ node. (site_in plan node).path) (sym one) ∙ b.path_is,
        one_name (first_cell plan a.node) (site_in plan a.node).head.variables name other_name a.has.place b.has.place
            i j a.has.is
            (subst (λ node. place_from (first_cell plan node) (site_in plan node).head.variables other_name ≡ Some b.has.place)
            one b.has.is)
            in_a in_b same,
      )
      | inr apart ↦ absurd (nodes_apart plan a.node b.node (a.has.place.first + i - first_cell plan a.node)
          (b.has.place.first + j - first_cell plan b.node) a.within b.within (λ is. apart (sym is))
          (omega (arith, in_a, behind_a, a.has.within)) (omega (arith, in_b, behind_b, b.has.within))
          (omega (arith, same, behind_a, behind_b)))
    ]
  where
    behind_a : first_cell plan a.node ≤ a.has.place.first
    behind_a = place_behind (first_cell plan a.node) (site_in plan a.node).head.variables name a.has.place a.has.is

    behind_b : first_cell plan b.node ≤ b.has.place.first
    behind_b = place_behind (first_cell plan b.node) (site_in plan b.node).head.variables other_name b.has.place b.has.is

-- one first cell
pub one_variable : (plan : List Site) (owner name other_owner other_name : List ℕ) → IsSound plan
    → IsDeclared plan owner name → IsDeclared plan other_owner other_name
    → (place_of plan owner name).first ≡ (place_of plan other_owner other_name).first
    → (owner ≡ other_owner) × (name ≡ other_name)
one_variable plan owner name other_owner other_name sound a b same =
    one_cell plan owner name other_owner other_name 0 0 a b a.has.some_cells b.has.some_cells
    (omega (arith, same, first_is owner name a, first_is other_owner other_name b))
  where
    first_is : (owner name : List ℕ) (d : IsDeclared plan owner name) → (place_of plan owner name).first ≡ d.has.place.first
    first_is owner name d =
        ap (λ (place : Place). place.first) (place_at plan owner name sound d)
