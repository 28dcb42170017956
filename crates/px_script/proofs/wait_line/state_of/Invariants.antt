use Rattle.std.proofs.Common.{◌≡◌, length}
use Rattle.std.specs.List.{find}
use Rattle.px_value.specs.Enums.{state_word}
use Rattle.px_core.specs.Plan.{is_same}
use Rattle.px_script.specs.WaitLine.{state_of}
use Rattle.px_script.proofs.wait_line.state_of.Given as goal

-- the state is that of those that are left
abbrev pub invariant-loop-states : goal.invariant-loop-states
invariant-loop-states l = find (λ state. is_same (state_word state) l.word) l.states ≡ state_of l.word

abbrev pub decreases-loop-states : goal.decreases-loop-states
decreases-loop-states l = length l.states
