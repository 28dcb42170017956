-- How a run grows by one post, from any history on.
use Rattle.std.proofs.Common.{◌≡◌, List, [], ◌∷◌, ◌++◌, ℕ, length, Some, ap, sym, ◌∙◌}
use Rattle.std.proofs.lemmas.List.{length-map, map-append}
use Rattle.px_core.specs.Plan.{Site}
use Rattle.px_event.specs.declared.entry.Entry.{Entry}
use Rattle.px_event.specs.declared.reply.Reply.{Reply}
use Rattle.px_sem.specs.World.{World}
use Rattle.px_sem.specs.Run.{run}
use Rattle.px_sem.specs.Log.{events_of, accepted, answer, world_after}
use Rattle.px_sem.proofs.Logs.{follows}
use Rattle.px_exec.specs.Answers.{logged}

-- the run over a history goes on as a reply says
pub run_after : (plan : List Site) (limit : ℕ) (history : List Entry) (world : World) (entry : Entry) (reply : Reply) → run plan (events_of history) ≡ Some world
    → reply ≡ answer plan limit (length history) world entry.event
    → run plan (events_of (history ++ accepted (logged entry reply ∷ []))) ≡ Some (world_after plan world entry.event reply)
run_after plan limit history world entry reply runs is =
    let counted = ap (λ count. answer plan limit count world entry.event) (sym (length-map history (λ e. e.event))) in
    ap (run plan) (map-append (λ e. e.event) history (accepted (logged entry reply ∷ [])))
    ∙ (follows plan limit (events_of history) world entry reply runs (is ∙ counted)).runs
