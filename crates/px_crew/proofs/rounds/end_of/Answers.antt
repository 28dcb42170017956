use Rattle.std.proofs.Common.{◌≡◌, ◌≢◌, refl, sym, ◌∙◌}
use Rattle.std.proofs.lemmas.List.{take_all}
use Rattle.std.proofs.lemmas.List.Elements.{All-same}
use Rattle.px_script.specs.declared.worker.WorkEnd.TheVariants as works
use Rattle.px_crew.proofs.Working.{all_ends, all_end}
use Rattle.px_crew.proofs.rounds.end_of.Goals as goal
use Rattle.px_crew.proofs.rounds.end_of.Goals.{in-Going, in-NoMemory}

pub returns-in-Disk : goal.returns-in-Disk
returns-in-Disk g c = (c.worker-item.result, (c.loop-worker.worker-index, c.loop-worker-test.true, sym c.worker-item.is), c.in-Disk.is)

pub loop-worker-preserved : goal.loop-worker-preserved
loop-worker-preserved g c =
    let i = c.loop-worker.worker-index in
    let workers = c.args.workers.now in
    elim c.match-worker.branch [
      | in-Going w ↦ record {
        none_broken = all_ends (λ end. end ≢ works.Disk) workers i c.worker-item.result works.Going c.loop-worker-test.true c.worker-item.is w.in-Going.is (λ is. absurd (cc)) c.loop-worker.invariant.none_broken;
        ended = λ is. c.loop-worker.invariant.ended (sym w.end-is ∙ is);
        going = λ is. all_ends (λ end. end ≡ works.Going) workers i c.worker-item.result works.Going c.loop-worker-test.true c.worker-item.is w.in-Going.is refl
            (c.loop-worker.invariant.going (sym w.end-is ∙ is));
      }
      | in-NoMemory w ↦ record {
        none_broken = all_ends (λ end. end ≢ works.Disk) workers i c.worker-item.result works.NoMemory c.loop-worker-test.true c.worker-item.is w.in-NoMemory.is (λ is. absurd (cc)) c.loop-worker.invariant.none_broken;
        ended = λ is. absurd (cc);
        going = λ is. absurd (cc);
      }
    ]

pub returns : goal.returns
returns g c =
    let workers = c.args.workers.now in
    let all = take_all c.loop-worker.worker-index workers c.loop-worker-test.false in
    all_end workers c.loop-worker.end
    (All-same (λ w. w.end ≢ works.Disk) workers _ (sym all) c.loop-worker.invariant.none_broken) c.loop-worker.invariant.ended
    (λ is. All-same (λ w. w.end ≡ works.Going) workers _ (sym all) (c.loop-worker.invariant.going is))
