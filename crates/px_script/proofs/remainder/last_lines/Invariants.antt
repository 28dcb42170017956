use Rattle.std.proofs.Common.{◌≡◌, ℕ, take, length, slice_index}
use Rattle.px_script.specs.Remainder.{last_line}
use Rattle.px_script.proofs.remainder.last_lines.Given as goal

-- the greatest lines of the entries so far
abbrev pub invariant-loop-entry : goal.invariant-loop-entry
invariant-loop-entry l = record {
  long : length l.last ≡ 256;
  last : (thread : ℕ) → slice_index l.last thread ≡ last_line thread (take l.entry-index l.history);
}
