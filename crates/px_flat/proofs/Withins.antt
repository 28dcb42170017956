-- The numbers in what a node of a fit plan computes lie within the plan's tables and cells.
use Rattle.std.proofs.Common.{◌≡◌, ℕ, ◌+◌, ◌<◌, Bool, true, not, ◌&&◌, List, [], ◌∷◌, ◌++◌, length, get_or, map, refl, ap, sym, ◌∙◌, subst, arith, Option, Some, None, is_some}
use Rattle.std.specs.List.{list_all, list_any, flat_map, All}
use Rattle.std.specs.Option.{option_map}
use Rattle.std.proofs.lemmas.Bool.{and_parts}
use Rattle.std.proofs.lemmas.List.Elements.{All-map}
use Rattle.std.proofs.lemmas.Simd.{map-map}
use Rattle.px_core.specs.Expr as terms
use Rattle.px_core.specs.Expr.{Term, Terms, NoTerms, More}
use Rattle.px_core.specs.Fit.{Node, CommandNode, UpdateNode, Scalar, Array, references, references_of_each, references_of_target, terms_of, terms_of_conditions, targets_of, declares_scalar, declares_array, is_command, is_update}
use Rattle.px_core.specs.Plan as core
use Rattle.px_core.specs.Plan.{Site, Head, ConditionTerms, TargetData, BodyData, PairData, VariableData, no_term, is_same}
use Rattle.px_flat.specs.Lookups.{lookups_in, lookups_in_each, lookups_in_target, lookups_in_body, lookups_of, AreKnown}
use Rattle.px_flat.specs.Numbered.{numbered, each_numbered, numbered_target, numbered_body, numbered_conditions, numbered_node, node_of, place_of}
use Rattle.px_flat.specs.Row.{site_in}
use Rattle.px_flat.specs.Within.{IsPlace, IsWithin, AreWithin, IsTargetWithin, IsBodyWithin, AreConditionsWithin, IsNodeWithin}
use Rattle.px_flat.proofs.Known.{IsSound, front, back, each_known, conditions_known, body_known}
use Rattle.px_flat.proofs.NumberedValues.{first_path, first_variable}
use Rattle.px_flat.proofs.VariableValues.{number_within}
use Rattle.px_flat.proofs.Variables.{declared, declared_place}
use Rattle.px_flat.proofs.Worlds.{IsThere, site_there, node_of-path}

-- a node that is there has its number
node_within : (plan : List Site) (path : List ℕ) (holds : Site → Bool) → IsSound plan → IsThere plan path holds
    → node_of plan path < length plan
node_within plan path holds sound there =
    subst (λ node. node < length plan)
    (sym (ap (node_of plan) (sym there.path_is) ∙ node_of-path plan there.node sound.distinct there.within)) there.within

-- a variable that is declared has its cells
place_within : (plan : List Site) (owner name : List ℕ) (form : VariableData → Bool) → IsSound plan
    → IsThere plan owner (λ site. list_any (λ variable. is_same variable.name name && form variable) site.head.variables)
    → IsPlace plan (place_of plan owner name)
place_within plan owner name form sound there =
    declared_place plan owner name sound (declared plan owner name form sound there)

mutual
  pub numbered_within : (plan : List Site) (term : Term) → IsSound plan → AreKnown plan (references term) (lookups_in term)
      → IsWithin plan (numbered plan term)
  numbered_within plan (terms.Literal value) sound known = tt
  numbered_within plan (terms.Var owner name) sound known =
      let place = place_within plan owner name (λ variable. not (is_some variable.size)) sound
      (site_there (declares_scalar name) owner plan (first_variable plan (Scalar owner name) [] [] known)) in
      omega (arith, place.some, place.within)
  numbered_within plan (terms.Cell owner name index) sound known = (
    place_within plan owner name (λ variable. is_some variable.size) sound
        (site_there (declares_array name) owner plan
        (first_variable plan (Array owner name) (references index) (lookups_in index) known)),
    numbered_within plan index sound (back plan (Array owner name ∷ []) (references index) [] (lookups_in index) known),
  )
  numbered_within plan (terms.StateOf path) sound known =
      node_within plan path (λ site. true) sound (site_there (λ site. true) path plan (first_path plan (Node path) [] [] known))
  numbered_within plan (terms.OutcomeOf path) sound known =
      node_within plan path (λ site. true) sound (site_there (λ site. true) path plan (first_path plan (Node path) [] [] known))
  numbered_within plan (terms.FailureOf path) sound known =
      node_within plan path (λ site. true) sound (site_there (λ site. true) path plan (first_path plan (Node path) [] [] known))
  numbered_within plan (terms.HandleOf path) sound known =
      node_within plan path (λ site. is_command site.head.kind) sound
      (site_there (λ site. is_command site.head.kind) path plan (first_path plan (CommandNode path) [] [] known))
  numbered_within plan (terms.Acknowledged path) sound known =
      node_within plan path (λ site. is_update site.head.kind) sound
      (site_there (λ site. is_update site.head.kind) path plan (first_path plan (UpdateNode path) [] [] known))
  numbered_within plan (terms.Look word name args tolerance) sound known =
      let named = and_parts (list_any (is_same name) (lookups_of plan))
      (list_all (λ name. list_any (is_same name) (lookups_of plan)) (lookups_in_each args)) known.looked_up in
      let rest : AreKnown plan (references_of_each args) (lookups_in_each args) =
      record { mentioned = known.mentioned; looked_up = named.1 } in
      (number_within (lookups_of plan) name named.0, each_within plan args sound rest)
  numbered_within plan (terms.Unary op arg) sound known = numbered_within plan arg sound known
  numbered_within plan (terms.Binary op left right) sound known = (
    numbered_within plan left sound
        (front plan (references left) (references right) (lookups_in left) (lookups_in right) known),
    numbered_within plan right sound
        (back plan (references left) (references right) (lookups_in left) (lookups_in right) known),
  )

  pub each_within : (plan : List Site) (args : Terms) → IsSound plan
      → AreKnown plan (references_of_each args) (lookups_in_each args) → AreWithin plan (each_numbered plan args)
  each_within plan NoTerms sound known = tt
  each_within plan (More first rest) sound known = (
    numbered_within plan first sound
        (front plan (references first) (references_of_each rest) (lookups_in first) (lookups_in_each rest) known),
    each_within plan rest sound
        (back plan (references first) (references_of_each rest) (lookups_in first) (lookups_in_each rest) known),
  )

-- each of expressions
all_within : (plan : List Site) (terms : List Term) → IsSound plan
    → AreKnown plan (flat_map references terms) (flat_map lookups_in terms) → All (IsWithin plan) (map (numbered plan) terms)
all_within plan terms sound known = All-map (IsWithin plan) (numbered plan) terms (λ k d within.
    numbered_within plan (get_or terms k d) sound (each_known plan references lookups_in terms known k d within))

-- ---- a node

target_within : (plan : List Site) (target : TargetData) → IsSound plan
    → AreKnown plan (references_of_target target) (lookups_in_target target) → IsTargetWithin plan (numbered_target plan target)
target_within plan target sound known = by target.index refl
  where
    by : (index : Option Term) → target.index ≡ index → IsTargetWithin plan (numbered_target plan target)
    by None is =
        let here : AreKnown plan (Scalar target.owner target.name ∷ []) [] =
        subst (λ index. AreKnown plan (references_of_target (record { owner = target.owner; name = target.name; index = index }))
        (lookups_in_target (record { owner = target.owner; name = target.name; index = index }))) is known in
        record {
          place = place_within plan target.owner target.name (λ variable. not (is_some variable.size)) sound
              (site_there (declares_scalar target.name) target.owner plan
              (first_variable plan (Scalar target.owner target.name) [] [] here));
          index = λ made some. absurd (cc (sym some ∙ ap (option_map (numbered plan)) is));
        }
    by (Some index) is =
        let here : AreKnown plan (Array target.owner target.name ∷ references index) (lookups_in index) =
        subst (λ index. AreKnown plan (references_of_target (record { owner = target.owner; name = target.name; index = index }))
        (lookups_in_target (record { owner = target.owner; name = target.name; index = index }))) is known in
        let inner : IsWithin plan (numbered plan index) = numbered_within plan index sound
        (back plan (Array target.owner target.name ∷ []) (references index) [] (lookups_in index) here) in
        record {
          place = place_within plan target.owner target.name (λ variable. is_some variable.size) sound
              (site_there (declares_array target.name) target.owner plan
              (first_variable plan (Array target.owner target.name) (references index) (lookups_in index) here));
          index = λ made some.
              let same : Some (numbered plan index) ≡ Some made = sym (ap (option_map (numbered plan)) is) ∙ some in
              let made_is : numbered plan index ≡ made = (cc) in
              subst (IsWithin plan) made_is inner;
        }

-- the targets of a body are known behind its expressions
body_within : (plan : List Site) (body : BodyData) → IsSound plan
    → AreKnown plan (flat_map references (terms_of body) ++ flat_map references_of_target (targets_of body)) (lookups_in_body body)
    → IsBodyWithin plan (numbered_body plan body)
body_within plan core.Nothing sound known = tt
body_within plan (core.Assign target value) sound known = (
  target_within plan target sound
      (front plan (references_of_target target) [] (lookups_in_target target) []
      (back plan (references value ++ []) (references_of_target target ++ []) (lookups_in value ++ []) (lookups_in_target target ++ []) known)),
  numbered_within plan value sound
      (front plan (references value) [] (lookups_in value) []
      (front plan (references value ++ []) (references_of_target target ++ []) (lookups_in value ++ []) (lookups_in_target target ++ []) known)),
)
body_within plan (core.Command name args None) sound known = (
  all_within plan args sound (front plan (flat_map references args) [] (flat_map lookups_in args) [] known),
  λ made some. absurd (cc some),
)
body_within plan (core.Command name args (Some target)) sound known = (
  all_within plan args sound
      (front plan (flat_map references args) (references_of_target target ++ []) (flat_map lookups_in args) (lookups_in_target target ++ []) known),
  λ made some.
      let made_is : numbered_target plan target ≡ made = (cc) in
      subst (IsTargetWithin plan) made_is (target_within plan target sound
      (front plan (references_of_target target) [] (lookups_in_target target) []
      (back plan (flat_map references args) (references_of_target target ++ []) (flat_map lookups_in args) (lookups_in_target target ++ []) known))),
)
body_within plan (core.Update pairs) sound known =
    subst (All (IsWithin plan)) (map-map (numbered plan) (λ (pair : PairData). pair.value) pairs)
    (all_within plan (map (λ pair. pair.value) pairs) sound
    (front plan (flat_map references (map (λ pair. pair.value) pairs)) [] (flat_map lookups_in (map (λ pair. pair.value) pairs)) [] known))

conditions_within : (plan : List Site) (conditions : ConditionTerms) → IsSound plan
    → All (λ term. AreKnown plan (references term) (lookups_in term)) (terms_of_conditions conditions)
    → AreConditionsWithin plan (numbered_conditions plan conditions)
conditions_within plan conditions sound each =
    record {
      start = numbered_within plan conditions.start sound (each 0 no_term (omega arith));
      end = numbered_within plan conditions.end sound (each 1 no_term (omega arith));
      exit = numbered_within plan conditions.exit sound (each 2 no_term (omega arith));
      skip = numbered_within plan conditions.skip sound (each 3 no_term (omega arith));
      repeat = numbered_within plan conditions.repeat sound (each 4 no_term (omega arith));
      pre = numbered_within plan conditions.pre sound (each 5 no_term (omega arith));
      post = numbered_within plan conditions.post sound (each 6 no_term (omega arith));
      invariant = numbered_within plan conditions.invariant sound (each 7 no_term (omega arith));
    }

pub node_is_within : (plan : List Site) (node : ℕ) → IsSound plan → node < length plan
    → IsNodeWithin plan (numbered_node plan (site_in plan node).head)
node_is_within plan node sound within =
    let head : Head = (site_in plan node).head in
    record {
      conditions = conditions_within plan head.conditions sound (conditions_known plan sound node within);
      body = body_within plan head.body sound (body_known plan sound node within);
    }
