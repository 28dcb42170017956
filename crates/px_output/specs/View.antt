-- What a host shows of itself at a moment, and how two moments differ.
use Rattle.std.specs.Prelude.{◌≡◌, ◌⊎◌, ◌≤◌, ℕ, List, ◌++◌, Option}
use Rattle.px_ports.specs.declared.host.Host
use Rattle.px_ports.specs.Host.{Files, Rose, Emits}

pub record View : Type 0 where
  pub files : Option Files
  pub emitted : Option (List ℕ)
  pub read_faults : List ℕ → ℕ
  pub write_faults : ℕ
  pub idle : ℕ

abbrev pub view : {Self : Type 0} → Host.Ghosts Self → Self → View
view members host = record {
  files = members.files host;
  emitted = members.emitted host;
  read_faults = members.read_faults host;
  write_faults = members.write_faults host;
  idle = members.idle host;
}

-- an emit failed, or took nothing, by a count that rose or stands at its last value
abbrev pub Faulted : View → View → Type 0
Faulted old new = Rose old.write_faults new.write_faults ⊎ Rose old.idle new.idle

-- a front of the text was emitted, and nothing else
abbrev pub EmitsPart : View → View → List ℕ → Type 0
EmitsPart old new text = (front rest : List ℕ) × (text ≡ front ++ rest) × Emits old.emitted new.emitted front

-- nothing but the sink was used, and no count fell
pub record OnlyPrints (old new : View) : Type 0 where
  pub files : new.files ≡ old.files
  pub read_faults : new.read_faults ≡ old.read_faults
  pub write_faults : old.write_faults ≤ new.write_faults
  pub idle : old.idle ≤ new.idle

-- nothing but a fetch was made, and no count fell
pub record OnlyReads (old new : View) : Type 0 where
  pub files : new.files ≡ old.files
  pub emitted : new.emitted ≡ old.emitted
  pub read_faults : (name : List ℕ) → old.read_faults name ≤ new.read_faults name
  pub write_faults : new.write_faults ≡ old.write_faults
  pub idle : new.idle ≡ old.idle

-- no file was touched, and no count fell
pub record KeepsFiles (old new : View) : Type 0 where
  pub files : new.files ≡ old.files
  pub read_faults : (name : List ℕ) → old.read_faults name ≤ new.read_faults name
  pub write_faults : old.write_faults ≤ new.write_faults
  pub idle : old.idle ≤ new.idle
