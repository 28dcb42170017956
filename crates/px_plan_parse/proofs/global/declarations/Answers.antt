use Rattle.std.proofs.Common.{sym, ap, ◌∙◌, arith}
use Rattle.std.proofs.lemmas.List.{map_push}
use Rattle.px_value.proofs.General.{handed_on}
use Rattle.px_syntax.specs.Plan.{declaration_data}
use Rattle.px_syntax.specs.PlanGrammar.{declaration}
use Rattle.px_plan_parse.specs.Start.{is_declaration}
use Rattle.px_plan_parse.proofs.Parts.{front_ends, front_lacks, front_more}
use Rattle.px_plan_parse.proofs.Starts.{start_same, not_there, starts_there}
use Rattle.px_plan_parse.proofs.Spans.{local_declaration}
use Rattle.px_plan_parse.proofs.Globals.{declaration_starts}
use Rattle.px_plan_parse.proofs.global.declarations.Goals as goal

pub returns-in_err-declaration-clause-fault : goal.returns-in_err-declaration-clause-fault
returns-in_err-declaration-clause-fault c =
    handed_on _ _ _ c.from_residual.ensures.1 (front_lacks c.loop-alloc.invariant (λ others part from end o. tt) (λ others place last. tt)
    (starts_there c.args.tokens.now c.loop-alloc.at is_declaration
    (ap is_declaration (sym c.start_at.ensures.value) ∙ sym c.is_declaration.ensures ∙ c.loop-alloc-test.true)) local_declaration c.in_err-declaration.ensures.fault)

pub loop-alloc-preserved : goal.loop-alloc-preserved
loop-alloc-preserved c =
    rw (c.in_ok-push.ensures.items, map_push declaration_data c.loop-alloc.declarations.items c.in_ok-declaration.declaration)
    (front_more c.loop-alloc.invariant (λ others part from end o. tt) (λ others place last. tt)
    (starts_there c.args.tokens.now c.loop-alloc.at is_declaration
    (ap is_declaration (sym c.start_at.ensures.value) ∙ sym c.is_declaration.ensures ∙ c.loop-alloc-test.true)) c.in_ok-declaration.ensures.ok)

pub returns-clause-ok : goal.returns-clause-ok
returns-clause-ok c =
    front_ends c.loop-alloc.invariant (λ others agree.
    not_there c.args.tokens.now c.loop-alloc.at declaration is_declaration declaration_starts (ap is_declaration (sym c.start_at.ensures.value) ∙ sym c.is_declaration.ensures ∙ c.loop-alloc-test.false) others
    (start_same c.args.tokens.now others c.loop-alloc.at (agree c.loop-alloc.at (omega arith))))
