use Rattle.std.proofs.Common.{take}
use Rattle.px_machine.specs.Queue.{HaveGone}
use Rattle.px_machine.proofs.queue.have_gone.Given as goal

-- those so far have gone
abbrev pub invariant-loop-one : goal.invariant-loop-one
invariant-loop-one l = HaveGone l.fn.queue l.queue (take l.one-index l.going)
