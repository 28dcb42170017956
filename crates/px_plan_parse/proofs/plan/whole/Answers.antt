use Rattle.std.proofs.Common.{sym, subst, arith}
use Rattle.px_value.proofs.General.{handed_on}
use Rattle.px_syntax.specs.Plan.{PlanTree}
use Rattle.px_plan_parse.specs.Verdict.{IsPlan}
use Rattle.px_plan_parse.proofs.Bodies.{block_no_name}
use Rattle.px_plan_parse.proofs.Plans.{goes_on, is_no_plan, is_plan, makes_plan, root_begins}
use Rattle.px_plan_parse.proofs.Parts.{lack_first, lack_made, part_made, joins_both, lack_joined, part_joined}
use Rattle.px_plan_parse.proofs.Shortests.{short_block, short_root}
use Rattle.px_plan_parse.proofs.Spans.{local_declarations, local_label}
use Rattle.px_plan_parse.proofs.plan.whole.Goals as goal

pub returns-in_err-declarations-clause-fault : goal.returns-in_err-declarations-clause-fault
returns-in_err-declarations-clause-fault c =
    handed_on _ _ _ c.from_residual.ensures.1 (is_no_plan c.args.tokens.now c.in_err-declarations.field-0.0
    (lack_made (makes_plan c.args.tokens.now 0) (lack_first root_begins short_root c.in_err-declarations.ensures.fault)))

pub returns-in_err-label-clause-fault : goal.returns-in_err-label-clause-fault
returns-in_err-label-clause-fault c =
    handed_on _ _ _ c.from_residual-in_err-label.ensures.1 (is_no_plan c.args.tokens.now c.in_err-label.field-0.0
    (lack_made (makes_plan c.args.tokens.now 0) (lack_joined (joins_both root_begins (local_declarations _) c.in_ok-declarations.ensures.ok)
    (lack_first block_no_name short_block c.in_err-label.ensures.fault))))

pub returns-in_err-root-clause-fault : goal.returns-in_err-root-clause-fault
returns-in_err-root-clause-fault c =
    handed_on _ _ _ c.from_residual-in_err-root.ensures.1 (is_no_plan c.args.tokens.now c.in_err-root.field-0.0
    (lack_made (makes_plan c.args.tokens.now 0) (lack_joined (joins_both root_begins (local_declarations _) c.in_ok-declarations.ensures.ok)
    (lack_joined (joins_both block_no_name (local_label _) c.in_ok-label.ensures.ok) c.in_err-root.ensures.fault))))

pub returns-clause-ok : goal.returns-clause-ok
returns-clause-ok c =
    subst (λ (tree : PlanTree). IsPlan c.args.tokens.now tree) (sym c.surface.ensures)
    (is_plan c.args.tokens.now _ c.in_ok-root.end (omega (arith, c.if-end-tokens.false))
    (part_made (makes_plan c.args.tokens.now 0) (part_joined (joins_both root_begins (local_declarations _) c.in_ok-declarations.ensures.ok)
    (part_joined (joins_both block_no_name (local_label _) c.in_ok-label.ensures.ok) c.in_ok-root.ensures.ok))))

pub returns-then-end-tokens-clause-fault : goal.returns-then-end-tokens-clause-fault
returns-then-end-tokens-clause-fault c =
    goes_on c.args.tokens.now _ c.in_ok-root.end c.if-end-tokens.true
    (part_made (makes_plan c.args.tokens.now 0) (part_joined (joins_both root_begins (local_declarations _) c.in_ok-declarations.ensures.ok)
    (part_joined (joins_both block_no_name (local_label _) c.in_ok-label.ensures.ok) c.in_ok-root.ensures.ok)))
