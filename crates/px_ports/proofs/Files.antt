-- A search in the files finds what a search in their names and contents does.
use Rattle.std.proofs.Common.{◌≡◌, ℕ, List}
use Rattle.std.specs.Prelude.{find}
use Rattle.std.specs.Option.{option_map}
use Rattle.std.specs.String.{string_bytes}
use Rattle.std.specs.Str.{bytes_eq}
use Rattle.px_value.proofs.General.{lookup-map}
use Rattle.px_ports.specs.Host.{file_at}
use Rattle.px_ports.specs.MemFile.{files_of, is_named}
use Rattle.px_ports.specs.declared.mem_host.MemFile.{MemFile}

pub file_at_files_of : (files : List MemFile) (name : List ℕ) → file_at (files_of files) name ≡ option_map (λ file. file.bytes.items) (find (is_named name) files)
file_at_files_of files name =
    lookup-map (λ key. bytes_eq key name) (λ (file : MemFile). string_bytes file.name) (λ file. file.bytes.items) files
