use Rattle.std.proofs.Common.{inl, inr, refl}
use Rattle.px_value.proofs.General.{handed_on}
use Rattle.std.proofs.lemmas.Bool.{false≢true}
use Rattle.px_plan_parse.specs.Part.{Anything}
use Rattle.px_plan_parse.proofs.Numbers.{lack_priority}
use Rattle.px_plan_parse.proofs.Parts.{lack_before, lack_token}
use Rattle.px_plan_parse.proofs.Spans.{local_number}
use Rattle.px_plan_parse.proofs.item.priority.Goals.{then-is_sign, else-is_sign}
use Rattle.px_plan_parse.proofs.item.priority.Goals as goal

pub returns-in_err-priority-clause-fault : goal.returns-in_err-priority-clause-fault
returns-in_err-priority-clause-fault c =
    handed_on _ _ _ c.from_residual.ensures.1 (lack_priority c.args.tokens.now c.args.from c.if-is_sign.at (elim c.if-is_sign.branch [
      | then-is_sign w ↦ inl (w.if-is_sign.ensures.answer.0 refl, w.at-is)
      | else-is_sign w ↦ inr (λ has. false≢true (w.if-is_sign.ensures.answer.1 has), w.at-is)
    ])
    (lack_before {Next = Anything} (λ others place is. tt) c.in_err-priority.ensures.fault))

pub returns-in_err-expect-clause-fault : goal.returns-in_err-expect-clause-fault
returns-in_err-expect-clause-fault c =
    handed_on _ _ _ c.from_residual-in_err-expect.ensures.1 (lack_priority c.args.tokens.now c.args.from c.if-is_sign.at (elim c.if-is_sign.branch [
      | then-is_sign w ↦ inl (w.if-is_sign.ensures.answer.0 refl, w.at-is)
      | else-is_sign w ↦ inr (λ has. false≢true (w.if-is_sign.ensures.answer.1 has), w.at-is)
    ])
    (lack_token {Next = Anything} (λ others place is. tt) (local_number _) c.in_ok-priority.ensures.ok c.in_err-expect.ensures.fault))
