use Rattle.std.proofs.Common.{length, ap, ◌∙◌}
use Rattle.std.proofs.lemmas.List.{length-set}
use Rattle.px_value.specs.declared.value.Value.{Value}
use Rattle.px_cells.specs.Marked.{Contents}
use Rattle.px_flat.specs.Flat.{plan_of}
use Rattle.px_flat_tests.proofs.bench.Bench.set.Goals as goal

pub invariant_of-self : goal.invariant_of-self
invariant_of-self c =
    let kept = c.self.invariant in
    let cells = c.write.ensures.cells in
    record {
      plan = ap plan_of c.write.ensures.plan ∙ kept.plan;
      cells = ap (λ (contents : Contents Value). length contents.values) cells
          ∙ length-set c.self.inside.cells.contents.values c.args.cell c.args.value ∙ kept.cells;
      unmarked = ap (λ (contents : Contents Value). contents.marked) cells ∙ kept.unmarked;
      few = kept.few;
      seen = c.write.ensures.seen;
    }
