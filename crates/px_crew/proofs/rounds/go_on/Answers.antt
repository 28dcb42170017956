use Rattle.std.proofs.Common.{length, ap, arith}
use Rattle.px_script.proofs.Scripts.{one_of_script, fit_one}
use Rattle.px_crew.proofs.rounds.go_on.Goals as goal

pub walk-at-requires-clause-fit : goal.walk-at-requires-clause-fit
walk-at-requires-clause-fit g c κs within =
    fit_one c.args.script.now c.args.i c.index-as_slice-i.result c.requires.fit
    (one_of_script c.args.script.now c.as_slice.result.now c.args.i c.index-as_slice-i.result c.as_slice.ensures
    (omega (arith, c.requires.one, ap length c.as_slice.ensures)) c.index-as_slice-i.is)
