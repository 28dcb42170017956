use Rattle.std.proofs.Common.{append_assoc}
use Rattle.px_trace.proofs.Appends.{ok_along}
use Rattle.px_trace.proofs.standings.push_finished.Goals as goal

pub returns-clause-ok : goal.returns-clause-ok
returns-clause-ok c =
    let first = c.in_ok-push_all.ensures.ok in
    let second = c.in_ok-push_failure.ensures.ok in
    ok_along _ _ _ _ (rw (second, first, c.word.ensures) (simp append_assoc)) c.push_all-2.ensures.ok
