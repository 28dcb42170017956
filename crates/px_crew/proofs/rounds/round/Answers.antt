use denote.Param.Send.{sendable}
use Rattle.std.proofs.Common.{rules, ◌<◌, length, get_or, sym, subst, arith}
use Rattle.px_script.specs.declared.worker.Worker.{Worker}
use Rattle.px_crew.specs.Work.{HasWorked, IsReady}
use Rattle.px_crew.proofs.rounds.round.Goals as goal

pub for_each_mut-requires-clause-accepts : goal.for_each_mut-requires-clause-accepts
for_each_mut-requires-clause-accepts g c κs within i p one is =
    let of_script : i < length c.args.script.now.threads = omega (arith, one, c.requires.ready.same) in (
      (
        c.requires.fit,
        of_script,
        λ d.
            subst (λ (w : Worker g.row.K-Seat.Denot). IsReady (g.K.Desk.start c.args.desk.now) (g.K.Desk.fits c.args.desk.now) g.K.Desk.seating (get_or c.args.script.now.threads i d) w) (sym is)
            (c.requires.ready.each i d p.now of_script),
      ),
      search (rules, sendable),
    )

pub returns : goal.returns
returns g c = record {
  same = c.for_each_mut.auto.s;
  each = λ i d e within.
      let change = (c.for_each_mut.ensures i e (omega (arith, within, c.requires.ready.same))).1 in
      subst (λ (w : Worker g.row.K-Seat.Denot). HasWorked (g.K.Desk.start c.args.desk.now) (g.K.Desk.fits c.args.desk.now) g.K.Desk.seating (get_or c.args.script.now.threads i d) w (get_or c.for_each_mut.new.s i e))
      change.argument_is
      (subst (λ (w : Worker g.row.K-Seat.Denot). HasWorked (g.K.Desk.start c.args.desk.now) (g.K.Desk.fits c.args.desk.now) g.K.Desk.seating (get_or c.args.script.now.threads i d) change.argument.now w) change.left
      (change.call d within));
}
