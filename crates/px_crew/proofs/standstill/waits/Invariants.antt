use Rattle.std.proofs.Common.{◌≡◌, ◌++◌, length, drop}
use Rattle.px_crew.specs.Standstill.{waits_of}
use Rattle.px_crew.specs.Work.{places_of}
use Rattle.px_crew.proofs.standstill.waits.Given as goal

abbrev pub invariant-loop-todo : goal.invariant-loop-todo
invariant-loop-todo g l =
    l.waits.items ++ waits_of (drop (length l.yielded) l.threads) (drop (length l.yielded) (places_of l.workers)) ≡ waits_of l.threads (places_of l.workers)
