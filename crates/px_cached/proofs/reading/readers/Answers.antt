use Rattle.std.proofs.Common.{rules, ◌<◌, length, sym, subst, ◌+◌}
use Rattle.px_flat.specs.Flat.{plan_of}
use Rattle.px_cached.specs.Reading.{AreReadersBelow}
use Rattle.px_cached.proofs.Listening.{more_below}
use Rattle.px_cached.proofs.reading.readers.Goals as goal

pub loop-part-preserved : goal.loop-part-preserved
loop-part-preserved c =
    let there : c.loop-part.part < length c.args.network.now = search rules in
    subst (λ readers. AreReadersBelow (plan_of c.args.flat.now) c.args.network.now readers (c.loop-part.part + 1))
    (sym c.in_ok-push_part.ensures)
    (more_below (plan_of c.args.flat.now) c.args.network.now c.loop-part.readers.items c.loop-part.part there
    (c.requires.read c.loop-part.part there) c.loop-part.invariant)
