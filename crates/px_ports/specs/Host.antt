-- What the calls of a host answer, and what they change.
use Rattle.std.specs.Prelude.{◌≡◌, ◌≢◌, ◌<◌, ◌≤◌, ◌+◌, ◌-◌, ◌^◌, ℕ, min, List, ◌++◌, take, length, Option, Some, Result, IfOk, OnErr, IsErrOf, IsSomeAnd}
use Rattle.std.specs.Map.{lookup}
use Rattle.std.specs.Option.{option_map, ForSome}
use Rattle.std.specs.Str.{bytes_eq}
use Rattle.px_ports.specs.declared.host.Fetched.{Fetched}
use Rattle.px_ports.specs.declared.host.Fetched.TheVariants.{Whole, Longer}
use Rattle.px_ports.specs.declared.host.HostFault.{HostFault}
use Rattle.px_ports.specs.declared.host.HostFault.TheVariants.{Failed, NoMemory}

-- names and contents, of which the first of a name counts
abbrev pub Files : Type 0
Files = List (List ℕ × List ℕ)

-- the content under a name
abbrev pub file_at : Files → List ℕ → Option (List ℕ)
file_at files name = lookup (λ key. bytes_eq key name) files

-- a count after one more, where 2^64 - 1 is its last value
abbrev pub counted : ℕ → ℕ
counted count = min (count + 1) (2 ^ 64 - 1)

-- the count went up, or stands at its last value
abbrev pub Rose : ℕ → ℕ → Type 0
Rose before now = counted before ≤ now

-- a file came whole where it has at most so many bytes, and is longer where it has more
abbrev pub Fetches : Option Files → List ℕ → ℕ → Fetched → Type 0
Fetches files name limit (Whole bytes) =
    (length bytes.items ≤ limit) × ForSome files (λ told. file_at told name ≡ Some bytes.items)
Fetches files name limit Longer =
    ForSome files (λ told. IsSomeAnd (file_at told name) (λ bytes. limit < length bytes))

-- a fetch fails only where the count of its name rose, and leaves every other count
pub record CountsReads (name : List ℕ) (before now : List ℕ → ℕ)
    (result : Result Fetched HostFault) : Type 0 where
  pub later : (other : List ℕ) → before other ≤ now other
  pub others : (other : List ℕ) → other ≢ name → now other ≡ before other
  pub failed : IsErrOf result Failed → before name < now name

-- the text stands behind what was emitted before
abbrev pub Emits : Option (List ℕ) → Option (List ℕ) → List ℕ → Type 0
Emits old new text = new ≡ option_map (λ emitted. emitted ++ text) old

-- so many bytes of the front were emitted, and none where the call failed
pub record EmitsFront (bytes : List ℕ) (old new : Option (List ℕ))
    (result : Result ℕ HostFault) : Type 0 where
  pub within : IfOk result (λ count. count ≤ length bytes)
  pub front : IfOk result (λ count. Emits old new (take count bytes))
  pub nothing : OnErr result (new ≡ old)

-- an emit fails only where the count rose or stands at its last value, and never for want of memory
pub record CountsWrites (before now : ℕ) (result : Result ℕ HostFault) : Type 0 where
  pub later : before ≤ now
  pub failed : IsErrOf result Failed → Rose before now
  pub memory : ¬ IsErrOf result NoMemory

-- the count rises, or stands at its last value, where the answer is 0, and is as before where it isn't
pub record CountsIdle (before now : ℕ) (result : Result ℕ HostFault) : Type 0 where
  pub later : before ≤ now
  pub none : IfOk result (λ count. count ≡ 0 → Rose before now)
  pub some : IfOk result (λ count. 0 < count → now ≡ before)
  pub failed : OnErr result (now ≡ before)
