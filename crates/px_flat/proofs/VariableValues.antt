-- What a numbered expression has of a variable and of a lookup name.
use Rattle.std.proofs.Common.{◌≡◌, ℕ, ◌+◌, ◌<◌, ◌≤◌, Bool, true, false, ◌&&◌, ◌⊎◌, nat_le, map, sum, List, [], ◌∷◌, length, get_or, take, drop, position, refl, ap, sym, ◌∙◌, arith, inl, inr, Option, Some, None, if◌then◌else◌}
use Rattle.std.specs.List.{list_all, list_any, position_or_len}
use Rattle.std.specs.Option.{unwrap_or}
use Rattle.std.specs.Cmp.Lexicographic.{same_text}
use Rattle.std.proofs.lemmas.Bool.{and_parts, or_cases, leb-true, lt-ltb}
use Rattle.std.proofs.lemmas.Grind.{common_steps}
use Rattle.std.proofs.lemmas.List.{get_or-take, get_or-drop}
use Rattle.std.proofs.lemmas.List.Folds.{Any-from_list_any}
use Rattle.std.proofs.lemmas.List.Sums.{passes_at_first}
use Rattle.px_value.specs.declared.value.Value.{Value}
use Rattle.px_value.specs.declared.value.Value.TheVariants.{Unknown}
use Rattle.px_value.proofs.General.{not_behind}
use Rattle.px_core.specs.Fit.{cells_of, has_right_cells, has_right_size, AreDistinct}
use Rattle.px_core.specs.Plan.{Site, VariableData, is_same}
use Rattle.px_sem.specs.World.{LookState, Report, NodeRecord, record_at, cells_at, of_variable}
use Rattle.px_flat.specs.declared.act.Act.{Act}
use Rattle.px_flat.specs.Layout.{Place, place_from, first_cell}
use Rattle.px_flat.specs.Numbered.{place_of, held}
use Rattle.px_flat.specs.Parts.{world_of}
use Rattle.px_flat.specs.Row.{site_in}
use Rattle.px_flat.proofs.Numbers.{number_is}
use Rattle.px_flat.proofs.Sites.{found_site}
use Rattle.px_flat.proofs.Sums.{sum_rest}
use Rattle.px_flat.proofs.Worlds.{record_at-world_of, of_variable-values_in}

-- ---- places

-- a variable of this name has a place, of one cell or more
pub record HasPlace (cell : ℕ) (variables : List VariableData) (name : List ℕ) : Type 0 where
  pub place : Place
  pub is : place_from cell variables name ≡ Some place
  pub some_cells : 0 < place.size
  pub within : place.first + place.size ≤ cell + sum (map cells_of variables)

right_size : (variable : VariableData) → has_right_cells variable ≡ true → 0 < cells_of variable
right_size variable right = by variable.size refl
  where
    by : (size : Option ℕ) → variable.size ≡ size → 0 < cells_of variable
    by None is = rw is (omega arith)
    by (Some size) is =
        let sized = (and_parts (has_right_size variable.size) (nat_le (length variable.init) (cells_of variable)) right).0 in
        let ok : has_right_size (Some size) ≡ true = sym (ap has_right_size is) ∙ sized in
        let least : 1 ≤ size = leb-true 1 size (and_parts (nat_le 1 size) (nat_le size 256) ok).0 in
        rw is (omega (arith, least))

pub has_place : (test : VariableData → Bool) (cell : ℕ) (variables : List VariableData) (name : List ℕ)
    → list_all has_right_cells variables ≡ true
    → list_any (λ variable. is_same variable.name name && test variable) variables ≡ true
    → HasPlace cell variables name
has_place test cell [] name right there = absurd (cc)
has_place test cell (variable ∷ variables) name right there =
    by (is_same variable.name name) refl
    (or_cases (is_same variable.name name && test variable)
    (list_any (λ variable. is_same variable.name name && test variable) variables) there)
    (has_place test (cell + cells_of variable) variables name both.1)
  where
    both : (has_right_cells variable ≡ true) × (list_all has_right_cells variables ≡ true)
    both = and_parts (has_right_cells variable) (list_all has_right_cells variables) right

    by : (same : Bool) → is_same variable.name name ≡ same
        → ((is_same variable.name name && test variable) ≡ true)
        ⊎ (list_any (λ variable. is_same variable.name name && test variable) variables ≡ true)
        → (list_any (λ variable. is_same variable.name name && test variable) variables ≡ true
        → HasPlace (cell + cells_of variable) variables name)
        → HasPlace cell (variable ∷ variables) name
    by true is either rest = record {
      place = record { first = cell; size = cells_of variable };
      is = ap (λ b. if b then Some (record { first = cell; size = cells_of variable })
          else place_from (cell + cells_of variable) variables name) is;
      some_cells = right_size variable both.0;
      within = omega (arith, sum_rest cells_of variable variables);
    }
    by false is (inl here) rest = absurd (cc (sym here ∙ ap (λ b. b && test variable) is))
    by false is (inr behind) rest =
        let found = rest behind in
        record {
          place = found.place;
          is = ap (λ b. if b then Some (record { first = cell; size = cells_of variable })
              else place_from (cell + cells_of variable) variables name) is ∙ found.is;
          some_cells = found.some_cells;
          within = omega (arith, found.within, sum_rest cells_of variable variables);
        }

-- the place of a variable by the node that declares it
pub place_of-node : (plan : List Site) (owner name : List ℕ) (node : ℕ) → AreDistinct plan → node < length plan
    → (site_in plan node).path ≡ owner → (has : HasPlace (first_cell plan node) (site_in plan node).head.variables name)
    → place_of plan owner name ≡ has.place
place_of-node plan owner name node distinct within path_is has = grind (arith, common_steps, number_is)

-- what stands at the place of a variable
pub record IsPlaced (plan : List Site) (cells : List Value) (reports : List (LookState × Report)) (acts : List Act)
    (owner name : List ℕ) : Type 0 where
  pub values_are : cells_at plan (world_of plan cells reports acts) owner name
      ≡ take (place_of plan owner name).size (drop (place_of plan owner name).first cells)
  pub first_is : held cells (place_of plan owner name).first
      ≡ get_or (cells_at plan (world_of plan cells reports acts) owner name) 0 Unknown

pub placed : (plan : List Site) (cells : List Value) (reports : List (LookState × Report)) (acts : List Act)
    (owner name : List ℕ) (node : ℕ) → AreDistinct plan → node < length plan → (site_in plan node).path ≡ owner
    → HasPlace (first_cell plan node) (site_in plan node).head.variables name
    → IsPlaced plan cells reports acts owner name
placed plan cells reports acts owner name node distinct within path_is has =
    record { values_are = values_are; first_is = first_is }
  where
    own : List ℕ
    own = (site_in plan node).path

    place_is : place_of plan owner name ≡ has.place
    place_is = place_of-node plan owner name node distinct within path_is has

    at_own : cells_at plan (world_of plan cells reports acts) own name
        ≡ take has.place.size (drop has.place.first cells)
    at_own =
        ap (λ site. unwrap_or (of_variable name site.head.variables
        (record_at (world_of plan cells reports acts) own).variables) []) (found_site plan node distinct within)
        ∙ ap (λ (r : NodeRecord). unwrap_or (of_variable name (site_in plan node).head.variables r.variables) [])
        (record_at-world_of plan cells reports acts node distinct within)
        ∙ ap (λ found. unwrap_or found [])
        (of_variable-values_in (site_in plan node).head.variables cells (first_cell plan node) name has.place has.is)

    values_are : cells_at plan (world_of plan cells reports acts) owner name
        ≡ take (place_of plan owner name).size (drop (place_of plan owner name).first cells)
    values_are =
        ap (λ path. cells_at plan (world_of plan cells reports acts) path name) (sym path_is) ∙ at_own
        ∙ ap (λ (place : Place). take place.size (drop place.first cells)) (sym place_is)

    first_is : held cells (place_of plan owner name).first
        ≡ get_or (cells_at plan (world_of plan cells reports acts) owner name) 0 Unknown
    first_is =
        ap (λ (place : Place). held cells place.first) place_is
        ∙ ap (λ n. get_or cells n Unknown) (omega arith)
        ∙ sym (get_or-drop has.place.first cells 0 Unknown)
        ∙ sym (get_or-take has.place.size (drop has.place.first cells) 0 Unknown has.some_cells)
        ∙ ap (λ (place : Place). get_or (take place.size (drop place.first cells)) 0 Unknown) (sym place_is)
        ∙ ap (λ cells. get_or cells 0 Unknown) (sym values_are)

-- ---- lookup names

pub first_name : (names : List (List ℕ)) (name : List ℕ) → list_any (is_same name) names ≡ true
    → (position_or_len (is_same name) names < length names)
    × (get_or names (position_or_len (is_same name) names) [] ≡ name)
first_name names name there =
    let found = Any-from_list_any (is_same name) names there in
    let first : ℕ = position_or_len (is_same name) names in
    let inside : first < length names =
    omega (arith, not_behind (is_same name) names found.0 found.1 (ap (is_same name) found.3 ∙ found.4), found.2) in
    (inside, sym (same_text name (get_or names first []) (sym (passes_at_first (is_same name) names [] inside))))

-- the name that stands at the number of a name
pub name_at : (names : List (List ℕ)) (name : List ℕ) → list_any (is_same name) names ≡ true
    → get_or names (unwrap_or (position (is_same name) names) 0) [] ≡ name
name_at names name there = grind (arith, common_steps, first_name, lt-ltb)

-- the number of a name is below that of the names
pub number_within : (names : List (List ℕ)) (name : List ℕ) → list_any (is_same name) names ≡ true
    → unwrap_or (position (is_same name) names) 0 < length names
number_within names name there = grind (arith, common_steps)
