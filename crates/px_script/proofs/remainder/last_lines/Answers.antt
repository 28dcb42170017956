use Rattle.std.proofs.Common.{ℕ, refl}
use Rattle.px_value.proofs.General.{replicate-same}
use Rattle.px_script.proofs.remainder.last_lines.Goals as goal

pub loop-entry-init : goal.loop-entry-init
loop-entry-init c = record { long = refl; last = λ thread. replicate-same {X = ℕ} 256 thread 0 }
