-- Which calls of a disk in memory fail, and how many did.
use Rattle.std.specs.Prelude.{◌||◌, ℕ, Bool, false, nat_lt, if◌then◌else◌, List, Option, Result, is_err}
use Rattle.std.specs.Option.{option_map_or}
use Rattle.px_ports.specs.Host.{counted}
use Rattle.px_ports.specs.MemHost.{is_next}
use Rattle.px_ports.specs.declared.disk.DiskFault.{DiskFault}

-- how the calls are to go, and how they went so far
pub record CallsState : Type 0 where
  -- the numbers of the calls that fail, counted from 1
  pub failing : List ℕ
  -- after so many calls each fails
  pub stop_after : Option ℕ
  -- how many calls there were, and how many failed, up to 2^64 - 1
  pub made : ℕ
  pub faults : ℕ

-- the next call is one of those that fail, or it comes after the last
abbrev pub call_fails : CallsState → Bool
call_fails calls =
    is_next calls.failing calls.made
    || option_map_or (λ last. nat_lt last (counted calls.made)) calls.stop_after false

abbrev pub called : CallsState → CallsState
called calls = record calls { made = counted calls.made }

abbrev pub faulted : CallsState → CallsState
faulted calls = record calls { faults = counted calls.faults }

-- the calls after one more with this answer
abbrev pub after_call : {T : Type 0} → CallsState → Result T DiskFault → CallsState
after_call calls result = if is_err result then faulted (called calls) else called calls
