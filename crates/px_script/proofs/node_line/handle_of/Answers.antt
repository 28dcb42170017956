use Rattle.std.proofs.Common.{sym, ◌∙◌}
use Rattle.px_value.specs.Enums.{handle_word}
use Rattle.px_core.specs.Plan.{is_same}
use Rattle.px_script.proofs.Searches.{find_rest}
use Rattle.px_script.proofs.node_line.handle_of.Goals as goal

pub loop-handles-preserved : goal.loop-handles-preserved
loop-handles-preserved c =
    find_rest (λ handle. is_same (handle_word handle) c.args.word.now) c.loop-handles.handles.now _ c.in-len1-up.len_at_least
    (sym (rw c.word.ensures at c.if-is_word.ensures)) ∙ c.loop-handles.invariant
