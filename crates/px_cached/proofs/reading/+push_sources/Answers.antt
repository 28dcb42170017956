use Rattle.std.proofs.Common.{◌≡◌, suc, ◌+◌, ◌∷◌, ◌++◌, [], ap, sym, ◌∙◌, append-nil, arith, take}
use Rattle.std.proofs.Math.Seq.{take-suc}
use Rattle.px_flat.specs.Flat.{plan_of}
use Rattle.px_flat.specs.NumberedData.{expr_data}
use Rattle.px_flat.specs.Sources.{sources_in}
use Rattle.px_eval.proofs.Numbers.{each_within}
use Rattle.px_cached.specs.Reading.{readers_of}
use Rattle.px_cached.proofs.Pushing.{one_expr_more}
use Rattle.px_cached.proofs.reading.+push_sources.Goals as goal

pub push_each-loop-expr-init : goal.push_each-loop-expr-init
push_each-loop-expr-init t c = record {
  readers = sym (append-nil c.args.readers.now.items);
  within = each_within (plan_of c.args.flat.now) c.args.exprs.now c.requires.within;
}

pub push_each-loop-expr-preserved : goal.push_each-loop-expr-preserved
push_each-loop-expr-preserved t c =
    let plan = plan_of c.args.flat.now in
    let exprs = c.args.exprs.now in
    let at = c.loop-expr.expr-index in
    let next : at + 1 ≡ suc at = omega arith in
    record {
      readers = c.in_ok-push_sources.ensures
          ∙ ap (λ so_far. so_far ++ readers_of plan c.args.part (sources_in plan (expr_data c.expr-item.result)))
          c.loop-expr.invariant.readers
          ∙ one_expr_more plan c.args.part c.args.readers.now.items exprs at c.expr-item.result
          (ap (λ count. take count exprs) next ∙ take-suc exprs at c.expr-item.result c.loop-expr-test.true
          ∙ ap (λ expr. take at exprs ++ expr ∷ []) (sym c.expr-item.is));
      within = c.loop-expr.invariant.within;
    }
