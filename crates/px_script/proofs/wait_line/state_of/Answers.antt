use Rattle.std.proofs.Common.{sym, ◌∙◌}
use Rattle.px_value.specs.Enums.{state_word}
use Rattle.px_core.specs.Plan.{is_same}
use Rattle.px_script.proofs.Searches.{find_rest}
use Rattle.px_script.proofs.wait_line.state_of.Goals as goal

pub loop-states-preserved : goal.loop-states-preserved
loop-states-preserved c =
    find_rest (λ state. is_same (state_word state) c.args.word.now) c.loop-states.states.now _ c.in-len1-up.len_at_least
    (sym (rw c.word.ensures at c.if-is_word.ensures)) ∙ c.loop-states.invariant
