use Rattle.std.proofs.Common.{◌≡◌, ◌≢◌, take}
use Rattle.std.specs.List.{All}
use Rattle.px_script.specs.declared.worker.WorkEnd.TheVariants as works
use Rattle.px_crew.proofs.rounds.end_of.Given as goal

abbrev pub invariant-loop-worker : goal.invariant-loop-worker
invariant-loop-worker g l = record {
  none_broken : All (λ w. w.end ≢ works.Disk) (take l.worker-index l.workers);
  ended : l.end ≢ works.Disk;
  going : l.end ≡ works.Going → All (λ w. w.end ≡ works.Going) (take l.worker-index l.workers);
}
