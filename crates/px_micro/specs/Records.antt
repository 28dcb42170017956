-- What the parts say of one node.
use Rattle.std.specs.Prelude.{Bool, true, false}
use Rattle.px_flat.specs.declared.act.Abort.{Abort}
use Rattle.px_flat.specs.declared.act.Abort.TheVariants as aborts

-- an abort is done
abbrev pub is_done : Abort → Bool
is_done aborts.Done = true
is_done abort = false
