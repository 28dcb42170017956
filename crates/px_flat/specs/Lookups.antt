-- The names that a plan looks up, each once.
use Rattle.std.specs.Prelude.{◌≡◌, ℕ, true, List, [], ◌∷◌, ◌++◌, fold, if◌then◌else◌}
use Rattle.std.specs.List.{list_all, list_any, flat_map}
use Rattle.std.specs.Option.{option_map_or}
use Rattle.px_core.specs.Fit.{Reference, is_there, terms_of, terms_of_conditions, targets_of}
use Rattle.px_core.specs.Plan.{Site, Head, TargetData, BodyData, is_same}
use Rattle.px_core.specs.Expr.{Term, Terms, Literal, Var, Cell, StateOf, OutcomeOf, FailureOf, HandleOf, Acknowledged, Look, Unary, Binary, NoTerms, More}

-- the names that an expression looks up, from left to right
abbrev mutual
  pub lookups_in : Term → List (List ℕ)
  lookups_in (Literal value) = []
  lookups_in (Var owner name) = []
  lookups_in (Cell owner name index) = lookups_in index
  lookups_in (StateOf path) = []
  lookups_in (OutcomeOf path) = []
  lookups_in (FailureOf path) = []
  lookups_in (HandleOf path) = []
  lookups_in (Acknowledged path) = []
  lookups_in (Look word name args tolerance) = name ∷ lookups_in_each args
  lookups_in (Unary op arg) = lookups_in arg
  lookups_in (Binary op left right) = lookups_in left ++ lookups_in right

  pub lookups_in_each : Terms → List (List ℕ)
  lookups_in_each NoTerms = []
  lookups_in_each (More first rest) = lookups_in first ++ lookups_in_each rest

abbrev pub lookups_in_target : TargetData → List (List ℕ)
lookups_in_target target = option_map_or lookups_in target.index []

abbrev pub lookups_in_body : BodyData → List (List ℕ)
lookups_in_body body = flat_map lookups_in (terms_of body) ++ flat_map lookups_in_target (targets_of body)

-- the names that a node looks up, in its conditions and then in its body
abbrev pub lookups_in_head : Head → List (List ℕ)
lookups_in_head head = flat_map lookups_in (terms_of_conditions head.conditions) ++ lookups_in_body head.body

-- a name after the others, if it is not among them
abbrev pub with_name : List (List ℕ) → List ℕ → List (List ℕ)
with_name names name = if list_any (is_same name) names then names else names ++ name ∷ []

-- each name that a plan looks up, once, in the order in which they stand first
abbrev pub lookups_of : List Site → List (List ℕ)
lookups_of plan = fold with_name [] (flat_map (λ site. lookups_in_head site.head) plan)

-- all that expressions speak of and look up is the plan's
pub record AreKnown (plan : List Site) (mentions : List Reference) (names : List (List ℕ)) : Type 0 where
  pub mentioned : list_all (is_there plan) mentions ≡ true
  pub looked_up : list_all (λ name. list_any (is_same name) (lookups_of plan)) names ≡ true
