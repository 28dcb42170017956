use Rattle.std.proofs.Common.{sym, subst}
use Rattle.px_cells.specs.Marked.{Contents}
use Rattle.px_value.specs.declared.value.Value.{Value}
use Rattle.px_cached.specs.Cached.{IsSeenBut}
use Rattle.px_flat_tests.proofs.Seeing.{written_seen}
use Rattle.px_flat_tests.proofs.bench.write.Goals as goal

pub returns-clause-seen : goal.returns-clause-seen
returns-clause-seen c =
    subst (λ (contents : Contents Value). IsSeenBut c.touch_cell.new.self
    (record { cells = contents.values; reports = c.args.reports.now.reports })) (sym c.overwrite.ensures.contents)
    (written_seen c.args.conditions.now c.touch_cell.new.self c.args.cells.now.contents.values c.args.reports.now.reports
    c.args.cell c.args.value c.touch_cell.ensures c.requires.seen)
