use Rattle.std.proofs.Common.{refl, arith}
use Rattle.px_value.proofs.General.{handed_on}
use Rattle.std.proofs.lemmas.Bool.{false≢true}
use Rattle.std.proofs.lemmas.Grind.{common_steps}
use Rattle.px_plan_parse.proofs.Numbers.{lack_signed, no_signed}
use Rattle.px_plan_parse.proofs.number.signed_at.Goals as goal

pub returns-in_err-size-clause-fault : goal.returns-in_err-size-clause-fault
returns-in_err-size-clause-fault c =
    handed_on _ _ _ c.from_residual.ensures.1 (lack_signed c.args.tokens.now c.args.from (c.if-is_sign.ensures.answer.0 refl) c.in_err-size.ensures.fault)

pub returns-in_default : goal.returns-in_default
returns-in_default c =
    record {
      ok = tt;
      fits = tt;
      onward = tt;
      fault =
          no_signed c.args.tokens.now c.args.from c.requires (λ has. false≢true (c.if-is_sign.ensures.answer.1 has))
          (λ value has. grind (arith, common_steps));
    }

pub returns-in_default-2-clause-fault : goal.returns-in_default-2-clause-fault
returns-in_default-2-clause-fault c =
    no_signed c.args.tokens.now c.args.from c.requires (λ has. false≢true (c.if-is_sign.ensures.answer.1 has))
    (λ value has. grind (arith, common_steps))
