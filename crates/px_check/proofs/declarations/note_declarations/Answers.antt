use Rattle.std.proofs.Common.{List, map, ap, ◌∙◌}
use Rattle.std.proofs.lemmas.Result.{on_ok_weaker}
use Rattle.px_syntax.specs.PlanFaults.{global_faults}
use Rattle.px_check.specs.Found.{noted}
use Rattle.px_check.specs.Globals.{callable_data}
use Rattle.px_check.specs.declared.globals.Callable.{Callable}
use Rattle.px_check.proofs.Noting.{noted_then}
use Rattle.px_check.proofs.declarations.note_declarations.Goals as goal

pub returns : goal.returns
returns c =
    on_ok_weaker c.note_callables-2.result (λ own. noted_then _ c.note_callables.new.found _ _ _
    (c.in_ok-note_callables.ensures
    ∙ ap (λ (callables : List Callable). noted c.args.found.now (global_faults (map callable_data callables)))
    c.deref.ensures.value
    ∙ ap (λ globals. noted c.args.found.now (global_faults globals)) c.in_ok-callables.ensures)
    (own
    ∙ ap (λ (callables : List Callable). noted c.note_callables.new.found (global_faults (map callable_data callables)))
    c.deref-2.ensures.value
    ∙ ap (λ globals. noted c.note_callables.new.found (global_faults globals)) c.in_ok-callables-2.ensures))
    c.note_callables-2.ensures
