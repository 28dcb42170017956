-- The tolerances of a plan's lookups.
use Rattle.std.specs.Prelude.{ℕ, nat_eq, nat_lt, List, [], ◌∷◌, ◌++◌, fold, Option, Some, None, if◌then◌else◌}
use Rattle.std.specs.List.{cons_option, flat_map}
use Rattle.px_core.specs.Expr.{Term, Terms, Literal, Var, Cell, StateOf, OutcomeOf, FailureOf, HandleOf, Acknowledged, Look, Unary, Binary, NoTerms, More}
use Rattle.px_core.specs.Fit.{terms_of, terms_of_conditions, targets_of}
use Rattle.px_core.specs.Plan.{Site, Head, TargetData, BodyData}

-- the tolerances in an expression, from left to right
abbrev mutual
  pub tolerances_in : Term → List ℕ
  tolerances_in (Literal value) = []
  tolerances_in (Var owner name) = []
  tolerances_in (Cell owner name index) = tolerances_in index
  tolerances_in (StateOf path) = []
  tolerances_in (OutcomeOf path) = []
  tolerances_in (FailureOf path) = []
  tolerances_in (HandleOf path) = []
  tolerances_in (Acknowledged path) = []
  tolerances_in (Look word name args tolerance) = cons_option tolerance (tolerances_in_each args)
  tolerances_in (Unary op arg) = tolerances_in arg
  tolerances_in (Binary op left right) = tolerances_in left ++ tolerances_in right

  pub tolerances_in_each : Terms → List ℕ
  tolerances_in_each NoTerms = []
  tolerances_in_each (More first rest) = tolerances_in first ++ tolerances_in_each rest

abbrev pub tolerances_in_target : TargetData → List ℕ
tolerances_in_target target = of_index target.index
  where
    of_index : Option Term → List ℕ
    of_index None = []
    of_index (Some index) = tolerances_in index

abbrev pub tolerances_in_body : BodyData → List ℕ
tolerances_in_body body = flat_map tolerances_in (terms_of body) ++ flat_map tolerances_in_target (targets_of body)

-- those of a node, in its conditions and then in its body
abbrev pub tolerances_in_head : Head → List ℕ
tolerances_in_head head =
    flat_map tolerances_in (terms_of_conditions head.conditions) ++ tolerances_in_body head.body

-- a tolerance in its place among rising ones, if it is not one of them
abbrev pub with_tolerance : List ℕ → ℕ → List ℕ
with_tolerance [] tolerance = tolerance ∷ []
with_tolerance (first ∷ rest) tolerance =
    if nat_lt tolerance first then tolerance ∷ first ∷ rest
    else if nat_eq tolerance first then first ∷ rest
    else first ∷ with_tolerance rest tolerance

-- the distinct tolerances of a plan, rising
abbrev pub tolerances : List Site → List ℕ
tolerances plan = fold with_tolerance [] (flat_map (λ site. tolerances_in_head site.head) plan)
