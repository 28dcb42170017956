-- What a command's abort makes of what is under way, and where its result goes, by number.
use Rattle.std.specs.Prelude.{ℕ, ◌+◌, Option, Some, None}
use Rattle.std.specs.Option.{option_map}
use Rattle.px_core.specs.declared.variable.VarKind.{VarKind}
use Rattle.px_flat.specs.declared.act.Abort.TheVariants as aborts
use Rattle.px_flat.specs.declared.act.Act.{Act}
use Rattle.px_flat.specs.declared.act.Act.TheVariants as acts
use Rattle.px_flat.specs.Numbered.{Numbered, TargetNumbered, BodyNumbered, Command}

-- what is under way as its abort is done
abbrev pub aborted : Act → Act
aborted (acts.Sent index abort) = acts.Sent index aborts.Done
aborted act = act

-- the cell of a scalar, and of an array that of the element whose index was taken as the command was sent; none where
-- the array did not have it
abbrev pub cell_in : TargetNumbered → Option ℕ → Option ℕ
cell_in target taken = at target.index
  where
    at : Option Numbered → Option ℕ
    at None = Some target.place.first
    at (Some term) = option_map (λ index. target.place.first + index) taken

-- the cell, and the type of its variable; none also where no command with a result is under way
abbrev pub result_slot : BodyNumbered → Act → Option (ℕ × VarKind)
result_slot (Command args (Some target)) (acts.Sent index abort) =
    option_map (λ cell. (cell, target.kind)) (cell_in target index)
result_slot body act = None
