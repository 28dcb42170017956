use Rattle.std.proofs.Common.{take}
use Rattle.px_machine.specs.Noticing.{HaveNotedActs}
use Rattle.px_machine.proofs.noticing.note_acts.Given as goal

-- of the nodes so far
abbrev pub invariant-loop-node : goal.invariant-loop-node
invariant-loop-node l = HaveNotedActs l.initial.kept l.kept (take l.node-index l.news)
