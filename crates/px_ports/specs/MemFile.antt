-- What a file of a host in memory stands for.
use Rattle.std.specs.Prelude.{ℕ, Bool, List, map}
use Rattle.std.specs.String.{string_bytes}
use Rattle.std.specs.Str.{bytes_eq}
use Rattle.px_ports.specs.Host.{Files}
use Rattle.px_ports.specs.declared.mem_host.MemFile.{MemFile}

-- each file as its name and content
abbrev pub files_of : List MemFile → Files
files_of files = map (λ file. (string_bytes file.name, file.bytes.items)) files

-- the file has this name
abbrev pub is_named : List ℕ → MemFile → Bool
is_named name file = bytes_eq (string_bytes file.name) name
