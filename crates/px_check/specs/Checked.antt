-- What the check of a plan answers.
use Rattle.std.specs.Prelude.{◌≡◌, List, slice_get, Some}
use Rattle.px_syntax.specs.Fault.{Fault, number_of}
use Rattle.px_syntax.specs.declared.fault.CheckFault.{CheckFault}
use Rattle.px_syntax.specs.declared.fault.CheckFault.TheVariants as answers

-- an answer that names the first of faults, or want of memory
abbrev pub IsFirst : List Fault → CheckFault → Type 0
IsFirst faults answers.NoMemory = Unit {0}
IsFirst faults (answers.Fault kind token) =
    (first : Fault) × (slice_get faults 0 ≡ Some first) × (kind ≡ number_of first.kind) × (token ≡ first.token)
