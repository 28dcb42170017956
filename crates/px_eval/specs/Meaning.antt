-- What a value is to the plan's own expressions, in the worlds that cells and reports stand for.
use Rattle.std.specs.Prelude.{◌≡◌, List}
use Rattle.px_value.specs.declared.value.Value.{Value}
use Rattle.px_core.specs.Expr.{Term}
use Rattle.px_core.specs.Fit.{references}
use Rattle.px_core.specs.Plan.{Site}
use Rattle.px_sem.specs.Expressions.{value}
use Rattle.px_sem.specs.World.{LookState, Report}
use Rattle.px_flat.specs.declared.act.Act.{Act}
use Rattle.px_flat.specs.Lookups.{AreKnown, lookups_in}
use Rattle.px_flat.specs.Numbered.{Numbered, numbered}
use Rattle.px_flat.specs.Parts.{IsParts, world_of}

-- An expression of the plan that has these numbers has this value in the world that the parts stand for, whatever the
-- nodes have under way. (The plan has all that such an expression speaks of, and looks up all that it looks up.)
abbrev pub Means : List Site → List Value → List (LookState × Report) → Numbered → Value → Type 0
Means plan cells reports expr given = (term : Term) (acts : List Act) → AreKnown plan (references term) (lookups_in term)
    → expr ≡ numbered plan term → IsParts plan cells acts → given ≡ value plan (world_of plan cells reports acts) term
