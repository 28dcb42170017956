use Rattle.std.proofs.Common.{◌≡◌}
use Rattle.px_script.specs.Remainder.{rest}
use Rattle.px_script.proofs.remainder.threads_left.Given as goal

-- what is left of the threads so far
abbrev pub invariant-loop-thread : goal.invariant-loop-thread
invariant-loop-thread l = l.left.items ≡ rest l.yielded l.history
