-- A write of a disk that tells nothing, and of which a crash may leave anything.
use Rattle.std.proofs.Common.{◌≡◌, ℕ, List, length, refl}
use Rattle.std.specs.Prelude.{Result, Ok, Err, OnOk, None}
use Rattle.std.specs.Option.{option_map}
use Rattle.std.proofs.lemmas.Option.{none-some}
use Rattle.px_ports.specs.Disk.{Told}
use Rattle.px_ports.specs.Moment.{overwritten}
use Rattle.px_ports.specs.ReplayLaws.{Torn-same}
use Rattle.px_ports.specs.declared.disk.DiskFault.{DiskFault}
use Rattle.px_system.proofs.disk.StdDiskDisk.write_at.Goals as goal

nothing_told : (result : Result Unit DiskFault) (at : ℕ) (bytes : List ℕ) → OnOk result (◌≡◌ {A = Told} None (option_map (overwritten at bytes) None))
nothing_told (Ok _) at bytes = refl
nothing_told (Err _) at bytes = tt

pub returns-clause-writes : goal.returns-clause-writes
returns-clause-writes g c = record {
  written = nothing_told c.counted.result c.args.at c.args.bytes.now;
  tells = refl;
  no_shorter = λ was is_was. absurd (none-some was is_was);
  elapses = record {
    grows = refl;
    each = λ image _. (image, tt, Torn-same c.args.at (length c.args.bytes.now) image);
  };
}
