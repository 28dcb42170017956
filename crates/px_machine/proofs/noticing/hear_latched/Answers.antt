use Rattle.std.proofs.Common.{◌≡◌, true, List, Some, sym, ◌∙◌, subst}
use Rattle.std.proofs.lemmas.Bool.{false≢true}
use Rattle.px_core.specs.Plan.{Site}
use Rattle.px_flat.specs.Sources.{Reports}
use Rattle.px_cached.specs.Cached.{is_touched}
use Rattle.px_cached.specs.Conditions.{source_number}
use Rattle.px_machine.proofs.noticing.hear_latched.Goals as goal

pub returns-then-has_moved : goal.returns-then-has_moved
returns-then-has_moved c =
    let touched = c.touch_report.ensures in
    record {
      flat = touched.flat;
      truths = touched.truths;
      seen = touched.seen;
      others = touched.others;
      stayed = λ untouched. absurd (false≢true (sym untouched
          ∙ subst (λ (sites : List Site).
          is_touched c.touch_report.new.self (source_number sites (Reports c.args.lookup (Some c.args.tolerance))) ≡ true)
          c.requires.plan touched.this));
    }
