use Rattle.std.proofs.Common.{◌≡◌, ◌++◌, length}
use Rattle.px_sem.proofs.Logs.{IsPosting}
use Rattle.px_sem.proofs.posting.post_each.Given as goal

abbrev pub invariant-loop-entry : goal.invariant-loop-entry
invariant-loop-entry g l =
    let history = l.posted.history.items in
    record {
      posting : IsPosting (g.S.Stepper.state l.fn.stepper).nodes l.limit l.yielded l.posted.log.items history (g.S.Stepper.state l.stepper) (length history);
      front : l.fn.entries.items ≡ l.yielded ++ l.entry-iterator.rest.items;
    }
