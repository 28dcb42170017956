use Rattle.std.proofs.Common.{◌≡◌, map}
use Rattle.std.specs.List.{range_with_len}
use Rattle.px_script.specs.Soak.{soak_line}
use Rattle.px_script.proofs.soak.soak_lines.Given as goal

abbrev pub invariant-loop-before : goal.invariant-loop-before
invariant-loop-before l = l.lines.items ≡ map (soak_line l.seed) (range_with_len 1 l.before)
