use Rattle.std.proofs.Common.{◌≡◌, true, List, None, sym, subst, arith, ap, length, get_or}
use Rattle.px_core.specs.Plan.{Site}
use Rattle.px_flat.specs.Sources.{Reports}
use Rattle.px_cached.specs.Cached.{is_touched}
use Rattle.px_cached.specs.Conditions.{source_number}
use Rattle.px_machine.proofs.Heard.{HasHeardSome, all_heard, one_heard}
use Rattle.px_machine.proofs.noticing.hear_name.Goals as goal

pub loop-tolerance-init : goal.loop-tolerance-init
loop-tolerance-init c =
    let touched = c.touch_report.ensures in
    record {
      flat = touched.flat;
      truths = touched.truths;
      seen = touched.seen;
      others = touched.others;
      last = subst (λ (sites : List Site).
          is_touched c.touch_report.new.self (source_number sites (Reports c.args.lookup None)) ≡ true)
          c.requires.plan touched.this;
      stayed = λ k few untouched. absurd (omega (arith, few));
    }

pub loop-tolerance-preserved : goal.loop-tolerance-preserved
loop-tolerance-preserved c =
    one_heard c.args.parts.now c.args.lookup c.args.conditions.now c.loop-tolerance.conditions c.hear_latched.new.conditions
    c.loop-tolerance.tolerance-index _ c.loop-tolerance.invariant
    (ap (λ tolerances. get_or tolerances c.loop-tolerance.tolerance-index 0) (sym c.tolerances-tolerances.ensures)) c.hear_latched.ensures

pub returns : goal.returns
returns c =
    all_heard c.args.parts.now c.args.lookup c.args.conditions.now c.loop-tolerance.conditions
    (subst (HasHeardSome c.args.parts.now c.args.lookup c.args.conditions.now c.loop-tolerance.conditions)
    (omega (
      arith,
      c.loop-tolerance-test.false,
      c.loop-tolerance.auto.tolerance-index-end,
      ap length c.tolerances-tolerances.ensures,
    ))
    c.loop-tolerance.invariant)
