use Rattle.std.proofs.Common.{◌≡◌, ◌+◌, ◌-◌, ◌≤◌, List, map, sum, ap, ◌∙◌, subst, arith, inl, inr}
use Rattle.std.specs.List.{range_with_len}
use Rattle.std.proofs.lemmas.Bool.{cases_eq}
use Rattle.std.proofs.lemmas.List.FromFn.{sum_by-map-range_with_len_more}
use Rattle.px_core.specs.Plan.{Site}
use Rattle.px_flat.specs.declared.flat.Flat.{Flat}
use Rattle.px_flat.specs.Flat.{plan_of}
use Rattle.px_flat.specs.Layout.{all_cells}
use Rattle.px_cached.specs.Cached.{due, is_touched, plan_in}
use Rattle.px_cached.specs.Conditions.{all_sources}
use Rattle.px_cached.specs.Costs.{cost}
use Rattle.px_cached.proofs.cached.Cached.touch_reports.Goals as goal

pub touch-requires : goal.touch-requires
touch-requires c =
    omega (
      arith,
      c.loop-number-test.true,
      c.in-Some.ensures.1,
      ap all_sources c.requires.plan,
      ap (λ (flat : Flat). all_sources (plan_of flat)) c.loop-number.invariant.flat,
    )

pub loop-number-preserved : goal.loop-number-preserved
loop-number-preserved c =
    let so_far = c.loop-number.invariant in
    let touched = c.touch.ensures in
    let plan : List Site = plan_in c.args.self.now in
    let first = all_cells plan in
    let number = c.loop-number.number in
    let next : number + 1 - first ≡ number - first + 1 = omega (arith, so_far.least) in
    record {
      flat = touched.flat ∙ so_far.flat;
      truths = touched.truths ∙ so_far.truths;
      seen = touched.seen ∙ so_far.seen;
      all = λ source least few. elim (cases_eq source c.loop-number.number) [
        | inl same ↦ ap (is_touched c.touch.new.self) same ∙ touched.this
        | inr apart ↦ touched.others source (so_far.all source least (omega (arith, few, apart)))
      ];
      others = λ source was. touched.others source (so_far.others source was);
      least = omega (arith, so_far.least);
      owed = omega (
        arith,
        touched.owed,
        so_far.owed,
        ap (λ (flat : Flat). cost (plan_of flat) number) so_far.flat,
        ap (λ count. sum (map (cost plan) (range_with_len first count))) next,
        sum_by-map-range_with_len_more (λ x. x) (cost plan) first (number - first) number (omega (arith, so_far.least)),
      );
    }

pub returns : goal.returns
returns c =
    let so_far = c.loop-number.invariant in
    let plan : List Site = plan_in c.args.self.now in
    let end : c.loop-number.number ≡ all_sources plan = omega (
      arith,
      c.loop-number-test.false,
      c.loop-number.auto.number-end,
      c.in-Some.ensures.1,
      ap all_sources c.requires.plan,
    ) in
    record {
      flat = so_far.flat;
      truths = so_far.truths;
      seen = so_far.seen;
      all = λ source least few. so_far.all source least
          (omega (arith, few, c.loop-number-test.false, c.in-Some.ensures.1, ap all_sources c.requires.plan));
      others = so_far.others;
      owed = subst (λ number. due c.loop-number.self ≤ due c.args.self.now
          + sum (map (cost plan) (range_with_len (all_cells plan) (number - all_cells plan)))) end so_far.owed;
    }
