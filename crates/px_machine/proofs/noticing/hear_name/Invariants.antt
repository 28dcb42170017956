use Rattle.px_machine.proofs.Heard.{HasHeardSome}
use Rattle.px_machine.proofs.noticing.hear_name.Given as goal

-- of the tolerances so far
abbrev pub invariant-loop-tolerance : goal.invariant-loop-tolerance
invariant-loop-tolerance l = HasHeardSome l.parts l.lookup l.fn.conditions l.conditions l.tolerance-index
