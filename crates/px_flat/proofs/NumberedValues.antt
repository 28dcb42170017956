-- The value of a numbered expression is that of the plan's own expression, in the world that parts stand for.
use Rattle.std.proofs.Common.{◌≡◌, ℕ, Bool, true, not, ◌&&◌, List, [], ◌∷◌, is_some, refl, ap, sym, ◌∙◌}
use Rattle.std.specs.List.{list_all, list_any}
use Rattle.std.proofs.lemmas.Bool.{and_parts}
use Rattle.px_value.specs.declared.value.Value.{Value}
use Rattle.px_core.specs.Expr as terms
use Rattle.px_core.specs.Expr.{Term, Terms, NoTerms, More}
use Rattle.px_core.specs.Fit.{Reference, Node, CommandNode, UpdateNode, Scalar, Array, references, references_of_each, path_is_there, variable_is_there, declares_scalar, declares_array, is_there}
use Rattle.px_core.specs.Plan.{Site, VariableData, is_same}
use Rattle.px_sem.specs.Expressions.{value, value_of_each, element, looked_up, unary_value, binary_value}
use Rattle.px_sem.specs.World.{LookState, Report, cells_at}
use Rattle.px_flat.specs.declared.act.Act.{Act}
use Rattle.px_flat.specs.Numbered.{numbered, each_numbered, numbered_value, numbered_values, reported_of}
use Rattle.px_flat.specs.Parts.{IsParts, world_of}
use Rattle.px_flat.specs.Lookups.{lookups_in, lookups_in_each, lookups_of, AreKnown}
use Rattle.px_flat.specs.Values.{HasValue}
use Rattle.px_flat.proofs.Known.{IsSound, front, back}
use Rattle.px_flat.proofs.NodeValues.{state_value, outcome_of_value, failure_of_value, handle_of_value, acknowledged_value}
use Rattle.px_flat.proofs.VariableValues.{IsPlaced, placed, name_at}
use Rattle.px_flat.proofs.Variables.{declared}
use Rattle.px_flat.proofs.Worlds.{IsThere, site_there}

-- the path of the first thing spoken of is there
pub first_path : (plan : List Site) (mention : Reference) (more : List Reference) (names : List (List ℕ))
    → AreKnown plan (mention ∷ more) names → path_is_there plan mention ≡ true
first_path plan mention more names known =
    (and_parts (path_is_there plan mention) (variable_is_there plan mention)
    (and_parts (is_there plan mention) (list_all (is_there plan) more) known.mentioned).0).0

pub first_variable : (plan : List Site) (mention : Reference) (more : List Reference) (names : List (List ℕ))
    → AreKnown plan (mention ∷ more) names → variable_is_there plan mention ≡ true
first_variable plan mention more names known =
    (and_parts (path_is_there plan mention) (variable_is_there plan mention)
    (and_parts (is_there plan mention) (list_all (is_there plan) more) known.mentioned).0).1

-- a variable that is declared stands at its place
variable_at : (plan : List Site) (cells : List Value) (reports : List (LookState × Report)) (acts : List Act)
    (owner name : List ℕ) (form : VariableData → Bool) → IsSound plan
    → IsThere plan owner (λ site. list_any (λ variable. is_same variable.name name && form variable) site.head.variables)
    → IsPlaced plan cells reports acts owner name
variable_at plan cells reports acts owner name form sound there =
    let its = declared plan owner name form sound there in
    placed plan cells reports acts owner name its.node sound.distinct its.within its.path_is its.has

mutual
  pub numbered_value-numbered : (plan : List Site) (cells : List Value) (reports : List (LookState × Report))
      (acts : List Act) (term : Term) → IsSound plan → IsParts plan cells acts
      → AreKnown plan (references term) (lookups_in term)
      → HasValue plan cells reports acts term
  numbered_value-numbered plan cells reports acts (terms.Literal given) sound parts known = refl
  numbered_value-numbered plan cells reports acts (terms.Var owner name) sound parts known =
      (variable_at plan cells reports acts owner name (λ variable. not (is_some variable.size)) sound
      (site_there (declares_scalar name) owner plan (first_variable plan (Scalar owner name) [] [] known))).first_is
  numbered_value-numbered plan cells reports acts (terms.Cell owner name index) sound parts known =
      let at = variable_at plan cells reports acts owner name (λ variable. is_some variable.size) sound
      (site_there (declares_array name) owner plan
      (first_variable plan (Array owner name) (references index) (lookups_in index) known)) in
      let rest : AreKnown plan (references index) (lookups_in index) =
      back plan (Array owner name ∷ []) (references index) [] (lookups_in index) known in
      ap (λ values. element values (numbered_value plan cells reports (numbered plan index))) (sym at.values_are)
      ∙ ap (element (cells_at plan (world_of plan cells reports acts) owner name))
      (numbered_value-numbered plan cells reports acts index sound parts rest)
  numbered_value-numbered plan cells reports acts (terms.StateOf path) sound parts known =
      state_value plan cells reports acts path sound.distinct parts (first_path plan (Node path) [] [] known)
  numbered_value-numbered plan cells reports acts (terms.OutcomeOf path) sound parts known =
      outcome_of_value plan cells reports acts path sound.distinct parts (first_path plan (Node path) [] [] known)
  numbered_value-numbered plan cells reports acts (terms.FailureOf path) sound parts known =
      failure_of_value plan cells reports acts path sound.distinct parts (first_path plan (Node path) [] [] known)
  numbered_value-numbered plan cells reports acts (terms.HandleOf path) sound parts known =
      handle_of_value plan cells reports acts path sound.distinct parts (first_path plan (CommandNode path) [] [] known)
  numbered_value-numbered plan cells reports acts (terms.Acknowledged path) sound parts known =
      acknowledged_value plan cells reports acts path sound.distinct parts (first_path plan (UpdateNode path) [] [] known)
  numbered_value-numbered plan cells reports acts (terms.Look word name args tolerance) sound parts known =
      let named = (and_parts (list_any (is_same name) (lookups_of plan))
      (list_all (λ name. list_any (is_same name) (lookups_of plan)) (lookups_in_each args)) known.looked_up) in
      let rest : AreKnown plan (references_of_each args) (lookups_in_each args) =
      record { mentioned = known.mentioned; looked_up = named.1 } in
      ap (λ name. reported_of reports name (numbered_values plan cells reports (each_numbered plan args)) tolerance)
      (name_at (lookups_of plan) name named.0)
      ∙ ap (λ values. looked_up (world_of plan cells reports acts) name values tolerance)
      (numbered_values-numbered plan cells reports acts args sound parts rest)
  numbered_value-numbered plan cells reports acts (terms.Unary op arg) sound parts known =
      ap (unary_value op) (numbered_value-numbered plan cells reports acts arg sound parts known)
  numbered_value-numbered plan cells reports acts (terms.Binary op left right) sound parts known =
      ap (λ v. binary_value op v (numbered_value plan cells reports (numbered plan right)))
      (numbered_value-numbered plan cells reports acts left sound parts
      (front plan (references left) (references right) (lookups_in left) (lookups_in right) known))
      ∙ ap (binary_value op (value plan (world_of plan cells reports acts) left))
      (numbered_value-numbered plan cells reports acts right sound parts
      (back plan (references left) (references right) (lookups_in left) (lookups_in right) known))

  pub numbered_values-numbered : (plan : List Site) (cells : List Value) (reports : List (LookState × Report))
      (acts : List Act) (args : Terms) → IsSound plan → IsParts plan cells acts
      → AreKnown plan (references_of_each args) (lookups_in_each args)
      → numbered_values plan cells reports (each_numbered plan args)
      ≡ value_of_each plan (world_of plan cells reports acts) args
  numbered_values-numbered plan cells reports acts NoTerms sound parts known = refl
  numbered_values-numbered plan cells reports acts (More first rest) sound parts known =
      ap (λ v. v ∷ numbered_values plan cells reports (each_numbered plan rest))
      (numbered_value-numbered plan cells reports acts first sound parts
      (front plan (references first) (references_of_each rest) (lookups_in first) (lookups_in_each rest) known))
      ∙ ap (λ vs. value plan (world_of plan cells reports acts) first ∷ vs)
      (numbered_values-numbered plan cells reports acts rest sound parts
      (back plan (references first) (references_of_each rest) (lookups_in first) (lookups_in_each rest) known))
