-- The numbers in what a node computes lie within the plan's tables and cells.
use Rattle.std.specs.Prelude.{◌+◌, ◌<◌, ◌≤◌, List, length}
use Rattle.std.specs.List.{All}
use Rattle.std.specs.Option.{ForSome}
use Rattle.px_core.specs.Plan.{Site}
use Rattle.px_flat.specs.Layout.{Place, variable_cells}
use Rattle.px_flat.specs.Lookups.{lookups_of}
use Rattle.px_flat.specs.Numbered.{Numbered, EachNumbered, NoneNumbered, MoreNumbered, Literal, Variable, Element, StateOf, OutcomeOf, FailureOf, HandleOf, Acknowledged, Look, Unary, Binary, ConditionsNumbered, TargetNumbered, BodyNumbered, Nothing, Assign, Command, Update, NodeNumbered}

-- there are such cells, one or more
pub record IsPlace (plan : List Site) (place : Place) : Type 0 where
  pub some : 0 < place.size
  pub within : place.first + place.size ≤ variable_cells plan

-- each number is that of a variable's cell, a node or a lookup name of the plan
abbrev mutual
  pub IsWithin : List Site → Numbered → Type 0
  IsWithin plan (Literal value) = Unit {0}
  IsWithin plan (Variable cell) = cell < variable_cells plan
  IsWithin plan (Element first size index) = IsPlace plan (record { first = first; size = size }) × IsWithin plan index
  IsWithin plan (StateOf node) = node < length plan
  IsWithin plan (OutcomeOf node) = node < length plan
  IsWithin plan (FailureOf node) = node < length plan
  IsWithin plan (HandleOf node) = node < length plan
  IsWithin plan (Acknowledged node) = node < length plan
  IsWithin plan (Look lookup args tolerance) = (lookup < length (lookups_of plan)) × AreWithin plan args
  IsWithin plan (Unary op arg) = IsWithin plan arg
  IsWithin plan (Binary op left right) = IsWithin plan left × IsWithin plan right

  pub AreWithin : List Site → EachNumbered → Type 0
  AreWithin plan NoneNumbered = Unit {0}
  AreWithin plan (MoreNumbered first rest) = IsWithin plan first × AreWithin plan rest

pub record IsTargetWithin (plan : List Site) (target : TargetNumbered) : Type 0 where
  pub place : IsPlace plan target.place
  pub index : ForSome target.index (IsWithin plan)

abbrev pub IsBodyWithin : List Site → BodyNumbered → Type 0
IsBodyWithin plan Nothing = Unit {0}
IsBodyWithin plan (Assign target value) = IsTargetWithin plan target × IsWithin plan value
IsBodyWithin plan (Command args result) = All (IsWithin plan) args × ForSome result (IsTargetWithin plan)
IsBodyWithin plan (Update values) = All (IsWithin plan) values

pub record AreConditionsWithin (plan : List Site) (conditions : ConditionsNumbered) : Type 0 where
  pub start : IsWithin plan conditions.start
  pub end : IsWithin plan conditions.end
  pub exit : IsWithin plan conditions.exit
  pub skip : IsWithin plan conditions.skip
  pub repeat : IsWithin plan conditions.repeat
  pub pre : IsWithin plan conditions.pre
  pub post : IsWithin plan conditions.post
  pub invariant : IsWithin plan conditions.invariant

-- what a node computes names only what the plan has
pub record IsNodeWithin (plan : List Site) (node : NodeNumbered) : Type 0 where
  pub conditions : AreConditionsWithin plan node.conditions
  pub body : IsBodyWithin plan node.body
