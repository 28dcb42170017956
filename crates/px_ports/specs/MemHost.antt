-- What a host in memory holds, and how it answers.
use Rattle.std.specs.Prelude.{◌≡◌, ◌<◌, ◌==◌, ◌+◌, ◌||◌, ℕ, Bool, true, false, min, if◌then◌else◌, List, [], ◌∷◌, ◌++◌, take, length, Result, Ok, Err, IfOk, OnOk, OnErr, IsErrOf, is_none}
use Rattle.std.specs.List.{list_any}
use Rattle.px_ports.specs.Host.{Files, file_at, counted}
use Rattle.px_ports.specs.declared.host.Fetched.{Fetched}
use Rattle.px_ports.specs.declared.host.HostFault.{HostFault}
use Rattle.px_ports.specs.declared.host.HostFault.TheVariants.{Failed}

-- the files, how the calls are to go, and how they went so far
pub record MemHostState : Type 0 where
  pub files : Files
  -- the numbers of the calls that fail, counted from 1
  pub failing_fetches : List ℕ
  pub failing_emits : List ℕ
  -- the most bytes that an emit takes
  pub piece : ℕ
  -- how many calls there were, up to 2^64 - 1
  pub fetches : ℕ
  pub emits : ℕ
  -- the name of each failed fetch
  pub failed : List (List ℕ)
  pub text : List ℕ
  -- how many bytes of text have a place without a growth
  pub room : ℕ
  pub write_faults : ℕ
  pub idle : ℕ

-- a host with no call yet
abbrev pub unused : Files → List ℕ → List ℕ → ℕ → MemHostState
unused files failing_fetches failing_emits piece = record {
  files = files;
  failing_fetches = failing_fetches;
  failing_emits = failing_emits;
  piece = piece;
  fetches = 0;
  emits = 0;
  failed = [];
  text = [];
  room = 0;
  write_faults = 0;
  idle = 0;
}

-- the next call is one of those that fail
abbrev pub is_next : List ℕ → ℕ → Bool
is_next failing calls = list_any (λ number. number == counted calls) failing

-- the next fetch is one of those that fail, or the name has no file
abbrev pub fetch_fails : MemHostState → List ℕ → Bool
fetch_fails host name =
    is_next host.failing_fetches host.fetches || is_none (file_at host.files name)

-- the host after a fetch with this answer
abbrev pub after_fetch : MemHostState → List ℕ → Result Fetched HostFault → MemHostState
after_fetch host name (Err Failed) =
    record host { fetches = counted host.fetches; failed = host.failed ++ name ∷ [] }
after_fetch host name answer = record host { fetches = counted host.fetches }

-- a fetch fails exactly where it is to fail, want of memory apart
pub record FetchesNext (old : MemHostState) (name : List ℕ)
    (result : Result Fetched HostFault) (new : MemHostState) : Type 0 where
  pub ok : OnOk result (fetch_fails old name ≡ false)
  pub failed : IsErrOf result Failed → fetch_fails old name ≡ true
  pub after : new ≡ after_fetch old name result

-- how many bytes an emit takes, if it doesn't fail
abbrev pub taken : MemHostState → List ℕ → ℕ
taken host bytes = min host.piece (length bytes)

-- the host after an emit with this answer, apart from its room
abbrev pub after_emit : MemHostState → List ℕ → Result ℕ HostFault → MemHostState
after_emit host bytes (Ok count) = record host {
  emits = counted host.emits;
  text = host.text ++ take count bytes;
  idle = (if count == 0 then counted host.idle else host.idle);
}
after_emit host bytes (Err fault) =
    record host { emits = counted host.emits; write_faults = counted host.write_faults }

-- an emit fails where it is to fail, and else takes its piece, if there is room for it or memory
pub record EmitsNext (old : MemHostState) (bytes : List ℕ)
    (result : Result ℕ HostFault) (new : MemHostState) : Type 0 where
  pub ok : OnOk result (is_next old.failing_emits old.emits ≡ false)
  pub count : IfOk result (λ count. count ≡ taken old bytes)
  pub failed : OnErr result (is_next old.failing_emits old.emits ≡ false
      → old.room < length old.text + taken old bytes)
  pub after : new ≡ record (after_emit old bytes result) { room = new.room }
