-- What a node's numbered expressions are worth where cells, reports and acts stand for a world.
use Rattle.std.specs.Prelude.{◌≡◌, List}
use Rattle.std.specs.List.{All}
use Rattle.std.specs.Option.{ForSome}
use Rattle.px_value.specs.declared.value.Value.{Value}
use Rattle.px_core.specs.Expr.{Term}
use Rattle.px_core.specs.Fit.{terms_of, terms_of_conditions, targets_of}
use Rattle.px_core.specs.Plan.{Site, Head}
use Rattle.px_sem.specs.Expressions.{value}
use Rattle.px_sem.specs.World.{LookState, Report}
use Rattle.px_flat.specs.declared.act.Act.{Act}
use Rattle.px_flat.specs.Numbered.{numbered, numbered_value}
use Rattle.px_flat.specs.Parts.{world_of}

-- with numbers in place of names, an expression has the value that it has in the world that the parts stand for
abbrev pub HasValue : List Site → List Value → List (LookState × Report) → List Act → Term → Type 0
HasValue plan cells reports acts term =
    numbered_value plan cells reports (numbered plan term) ≡ value plan (world_of plan cells reports acts) term

-- each condition of a node has, each expression of its body, and the index of each of its targets
pub record HaveValues (plan : List Site) (cells : List Value) (reports : List (LookState × Report)) (acts : List Act)
    (head : Head) : Type 0 where
  pub conditions : All (HasValue plan cells reports acts) (terms_of_conditions head.conditions)
  pub body : All (HasValue plan cells reports acts) (terms_of head.body)
  pub indices : All (λ target. ForSome target.index (HasValue plan cells reports acts)) (targets_of head.body)
