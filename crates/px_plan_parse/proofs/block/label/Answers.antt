use Rattle.std.proofs.Common.{refl}
use Rattle.px_plan_parse.specs.declared.start.Start.TheVariants as starts
use Rattle.px_value.proofs.General.{handed_on}
use Rattle.std.proofs.lemmas.Bool.{false≢true}
use Rattle.px_syntax.specs.Form.{identifier}
use Rattle.px_plan_parse.specs.Part.{Anything}
use Rattle.px_plan_parse.proofs.Parts.{lack_before, lack_present, of_missing, part_absent}
use Rattle.px_expr_parse.proofs.Spans.{local_identifier}
use Rattle.px_plan_parse.proofs.Parts.{lack_token, of_found}
use Rattle.px_plan_parse.proofs.Blocks.{colon_label, label_starts}
use Rattle.px_plan_parse.proofs.Starts.{not_so, starts_so}
use Rattle.px_plan_parse.proofs.block.label.Goals as goal

pub returns-then-not-begins-clause-ok : goal.returns-then-not-begins-clause-ok
returns-then-not-begins-clause-ok c =
    part_absent c.requires (not_so c.args.tokens.now c.args.from colon_label starts.Name label_starts (λ name. false≢true (c.if-not-begins.ensures.answer.1 name)))

pub returns-in_err-name-clause-fault : goal.returns-in_err-name-clause-fault
returns-in_err-name-clause-fault c =
    handed_on _ _ _ c.from_residual.ensures.1 (lack_present (starts_so c.args.tokens.now c.args.from starts.Name (c.if-not-begins.ensures.answer.0 refl))
    (lack_before {Next = Anything} (λ others place is. tt)
    (of_missing identifier c.args.tokens.now c.args.from c.in_err-name.field-0.0 Anything c.in_err-name.ensures.fault)))

pub returns-in_err-expect-clause-fault : goal.returns-in_err-expect-clause-fault
returns-in_err-expect-clause-fault c =
    handed_on _ _ _ c.from_residual-in_err-expect.ensures.1
    (lack_present (starts_so c.args.tokens.now c.args.from starts.Name (c.if-not-begins.ensures.answer.0 refl))
    (lack_token {Next = Anything} (λ others place is. tt) (local_identifier _) (of_found Anything c.in_ok-name.ensures.ok)
    c.in_err-expect.ensures.fault))
