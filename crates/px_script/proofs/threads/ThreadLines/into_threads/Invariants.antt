use Rattle.std.proofs.Common.{◌≡◌, length, filter}
use Rattle.px_script.specs.Remainder.{has_a_line}
use Rattle.px_script.specs.Threads.{todos_from}
use Rattle.px_script.proofs.threads.ThreadLines.into_threads.Given as goal

-- the threads so far
abbrev pub invariant-loop-lines : goal.invariant-loop-lines
invariant-loop-lines l = record {
  threads : l.threads.items ≡ filter has_a_line (todos_from 1 l.yielded);
  thread : l.thread ≡ length l.yielded;
}
