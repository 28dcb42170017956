use Rattle.std.proofs.Common.{◌+◌, refl, sym, ◌∙◌, arith}
use Rattle.px_plan_parse.specs.declared.start.Start.TheVariants as starts
use Rattle.px_value.proofs.General.{handed_on}
use Rattle.std.proofs.lemmas.Bool.{false≢true}
use Rattle.px_syntax.specs.Form.{identifier, maybe}
use Rattle.px_plan_parse.specs.Start.{NoName}
use Rattle.px_plan_parse.proofs.Globals.{lacks_here, makes_parameter, no_parameter}
use Rattle.px_plan_parse.proofs.Parts.{lack_made, lack_present, of_found, of_missing, part_absent, part_made, part_present}
use Rattle.px_plan_parse.proofs.Shortests.{short_parameter}
use Rattle.px_plan_parse.proofs.Starts.{ends_type, not_so, start_name, starts_so}
use Rattle.px_expr_parse.proofs.Parts.{two}
use Rattle.px_plan_parse.proofs.global.parameter.Goals as goal

pub returns-in_default-clause-fault : goal.returns-in_default-clause-fault
returns-in_default-clause-fault c =
    lacks_here c.args.tokens.now c.args.from _ refl c.requires short_parameter
    (no_parameter c.args.tokens.now c.args.from (λ of_type is. c.in_default.not-Type of_type (c.start_at.ensures.value ∙ is)))

pub returns-then-not-begins-clause-ok : goal.returns-then-not-begins-clause-ok
returns-then-not-begins-clause-ok c =
    let is = sym c.start_at.ensures.value ∙ c.in-Type.is in
    rw c.parameter.ensures (part_made (makes_parameter c.args.tokens.now c.args.from c.in-Type.of_type is)
    (part_made (ends_type (maybe identifier) c.args.tokens.now c.args.from c.in-Type.of_type is)
    (part_absent (omega (arith, c.start_at.ensures.inside (λ e. let t = c.in-Type.is in cc)))
    (not_so c.args.tokens.now (c.args.from + 1) identifier starts.Name (λ others part from end o. start_name others from part.name o.1.0)
    (λ name. false≢true (c.if-not-begins.ensures.answer.1 name))))))

pub returns-in_err-name-clause-fault : goal.returns-in_err-name-clause-fault
returns-in_err-name-clause-fault c =
    let is = sym c.start_at.ensures.value ∙ c.in-Type.is in
    handed_on _ _ _ c.from_residual.ensures.1 (lack_made (makes_parameter c.args.tokens.now c.args.from c.in-Type.of_type is)
    (lack_made (ends_type (maybe identifier) c.args.tokens.now c.args.from c.in-Type.of_type is)
    (lack_present (starts_so c.args.tokens.now (c.args.from + 1) starts.Name (c.if-not-begins.ensures.answer.0 refl))
    (of_missing identifier c.args.tokens.now (c.args.from + 1) c.in_err-name.field-0.0 NoName c.in_err-name.ensures.fault))))

pub returns-clause-ok : goal.returns-clause-ok
returns-clause-ok c =
    let is = sym c.start_at.ensures.value ∙ c.in-Type.is in
    rw (c.parameter-2.ensures, two c.args.from) (part_made (makes_parameter c.args.tokens.now c.args.from c.in-Type.of_type is)
    (part_made (ends_type (maybe identifier) c.args.tokens.now c.args.from c.in-Type.of_type is)
    (part_present (starts_so c.args.tokens.now (c.args.from + 1) starts.Name (c.if-not-begins.ensures.answer.0 refl))
    (of_found NoName c.in_ok-name.ensures.ok))))
