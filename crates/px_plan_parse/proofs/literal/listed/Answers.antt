use Rattle.std.proofs.Common.{refl}
use Rattle.std.proofs.lemmas.Bool.{false≢true}
use Rattle.px_value.proofs.General.{handed_on}
use Rattle.px_plan_parse.proofs.Items.{makes_listed}
use Rattle.px_plan_parse.proofs.Parts.{joins_both, lack_first, lack_made, optional_absent, optional_present, part_joined, part_made}
use Rattle.px_plan_parse.proofs.Shortests.{short_optional}
use Rattle.px_plan_parse.proofs.Spans.{local_literal}
use Rattle.px_plan_parse.proofs.literal.listed.Goals as goal
use Rattle.px_plan_parse.proofs.literal.listed.Goals.{then-is_sign, else-is_sign}

pub returns-clause-ok : goal.returns-clause-ok
returns-clause-ok c =
    part_made (makes_listed c.args.tokens.now c.args.from)
    (part_joined (joins_both (λ others part from end o next. tt) (local_literal _) c.in_ok-value.ensures.ok)
    (elim c.if-is_sign.branch [
      | then-is_sign w ↦
          rw w.end-is (optional_present (λ others place has none. none has) (w.if-is_sign.ensures.inside refl) (w.if-is_sign.ensures.answer.0 refl))
      | else-is_sign w ↦ rw w.end-is (optional_absent c.in_ok-value.ensures.ok.within (λ has. false≢true (w.if-is_sign.ensures.answer.1 has)))
    ]))

pub returns-in_err-value-clause-fault : goal.returns-in_err-value-clause-fault
returns-in_err-value-clause-fault c =
    handed_on _ _ _ c.from_residual.ensures.1
    (lack_made (makes_listed c.args.tokens.now c.args.from) (lack_first (λ others part from end o next. tt) short_optional c.in_err-value.ensures.fault))
