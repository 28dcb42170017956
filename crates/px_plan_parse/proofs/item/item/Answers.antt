use Rattle.std.proofs.Common.{refl, sym, ap, ◌∙◌}
use Rattle.px_value.proofs.General.{handed_on}
use Rattle.px_lex.specs.declared.keyword.Keyword.TheVariants as words
use Rattle.px_lex.specs.declared.token.TokenKind.TheVariants as kinds
use Rattle.px_syntax.specs.BlockGrammar.{item}
use Rattle.px_plan_parse.proofs.Items.{makes_condition, makes_priority, makes_variables}
use Rattle.px_plan_parse.proofs.Parts.{lack_behind, lack_made, part_behind, part_made}
use Rattle.px_plan_parse.proofs.Starts.{ends_condition, ends_type, here, item_starts, not_item, not_there}
use Rattle.px_plan_parse.specs.Start.{is_item}
use Rattle.px_plan_parse.specs.declared.start.Start.TheVariants as starts
use Rattle.px_plan_parse.specs.Tail.{closed_variables, test}
use Rattle.px_plan_parse.proofs.Globals.{lacks_here}
use Rattle.px_plan_parse.proofs.Shortests.{short_item}
use Rattle.px_plan_parse.proofs.item.item.Goals as goal

pub returns-in_err-variables-in-Type-clause-fault : goal.returns-in_err-variables-in-Type-clause-fault
returns-in_err-variables-in-Type-clause-fault c =
    let is = sym c.start_at.ensures.value ∙ c.in-Type.is in
    handed_on _ _ _ c.from_residual.ensures.1 (lack_made (makes_variables c.args.tokens.now c.args.from c.in-Type.of_type is)
    (lack_made (ends_type closed_variables c.args.tokens.now c.args.from c.in-Type.of_type is) c.in_err-variables-in-Type.ensures.fault))

pub returns-in_err-test-in-Condition-clause-fault : goal.returns-in_err-test-in-Condition-clause-fault
returns-in_err-test-in-Condition-clause-fault c =
    let is = sym c.start_at.ensures.value ∙ c.in-Condition.is in
    handed_on _ _ _ c.from_residual-in_err-test-in-Condition.ensures.1 (lack_made (makes_condition c.args.tokens.now c.args.from c.in-Condition.condition is)
    (lack_made (ends_condition test c.args.tokens.now c.args.from c.in-Condition.condition is) c.in_err-test-in-Condition.ensures.fault))

pub returns-in_err-priority-in-Priority-clause-fault : goal.returns-in_err-priority-in-Priority-clause-fault
returns-in_err-priority-in-Priority-clause-fault c =
    let is = sym c.start_at.ensures.value ∙ c.in-Priority.is in
    handed_on _ _ _ c.from_residual-in_err-priority-in-Priority.ensures.1
    (lack_made (makes_priority c.args.tokens.now c.args.from is)
    (lack_behind (here starts.Priority (kinds.Keyword words.Priority) (λ kind is_of. is_of)
    (λ e. cc) c.args.tokens.now c.args.from is) c.in_err-priority-in-Priority.ensures.fault))

pub returns-in_ok-variables-in-Type-clause-ok : goal.returns-in_ok-variables-in-Type-clause-ok
returns-in_ok-variables-in-Type-clause-ok c =
    let is = sym c.start_at.ensures.value ∙ c.in-Type.is in
    rw c.declarations.ensures (part_made (makes_variables c.args.tokens.now c.args.from c.in-Type.of_type is)
    (part_made (ends_type closed_variables c.args.tokens.now c.args.from c.in-Type.of_type is) c.in_ok-variables-in-Type.ensures.ok))

pub returns-in_ok-test-in-Condition-clause-ok : goal.returns-in_ok-test-in-Condition-clause-ok
returns-in_ok-test-in-Condition-clause-ok c =
    let is = sym c.start_at.ensures.value ∙ c.in-Condition.is in
    rw c.condition.ensures (part_made (makes_condition c.args.tokens.now c.args.from c.in-Condition.condition is)
    (part_made (ends_condition test c.args.tokens.now c.args.from c.in-Condition.condition is) c.in_ok-test-in-Condition.ensures.ok))

pub returns-in_ok-priority-in-Priority-clause-ok : goal.returns-in_ok-priority-in-Priority-clause-ok
returns-in_ok-priority-in-Priority-clause-ok c =
    let is = sym c.start_at.ensures.value ∙ c.in-Priority.is in
    part_made (makes_priority c.args.tokens.now c.args.from is)
    (part_behind (here starts.Priority (kinds.Keyword words.Priority) (λ kind is_of. is_of) (λ e. cc) c.args.tokens.now c.args.from is)
    c.in_ok-priority-in-Priority.ensures.ok)

pub returns-in_default-clause-fault : goal.returns-in_default-clause-fault
returns-in_default-clause-fault c =
    lacks_here c.args.tokens.now c.args.from _ refl c.requires.place short_item (not_there c.args.tokens.now c.args.from item is_item item_starts
    (ap is_item (sym c.start_at.ensures.value) ∙ not_item c.start_at.result c.in_default.not-Type c.in_default.not-Condition c.in_default.not-Priority))
