use Rattle.std.proofs.Common.{◌≡◌, ◌++◌, codes, length, rules, ◌∙◌}
use Rattle.std.specs.Fmt.{signed_decimal}
use Rattle.std.proofs.lemmas.Result.{on_ok_weaker}
use Rattle.px_syntax.specs.Expr.{term_of}
use Rattle.px_print.specs.ExprLayout.{term_text}
use Rattle.px_print.specs.Texts.{◌then◌}
use Rattle.px_print.proofs.Laid.{block_laid, margin_back, if_laid, while_laid, for_laid}
use Rattle.px_print.proofs.block.+block.Goals as goal

pub push_block-returns-clause-text : goal.push_block-returns-clause-text
push_block-returns-clause-text t c =
    let inner = c.in_ok-extend_from_slice.ensures.items in
    let outer : c.len-outer.result ≡ length c.args.margin.now.items = search rules in
    let left = margin_back c.args.margin.now.items c.push_actions.new.margin.items c.truncate.new.self.items c.len-outer.result outer
    (c.in_ok-push_actions.ensures.margin ∙ inner) c.truncate.ensures.items in
    on_ok_weaker c.push_all-2.result
    (block_laid c.args.block.now c.args.margin.now.items _ _ _ _ _ _ _ _ _ _ _ _ _ _ c.form_word.ensures (c.deref-2.ensures.value ∙ inner)
    (c.deref-3.ensures.value ∙ inner) inner (c.deref-5.ensures.value ∙ left) c.deref.ensures.value c.deref-4.ensures.value
    c.in_ok-push_all.ensures c.in_ok-push_items.ensures c.in_ok-push_node_list.ensures c.in_ok-push_actions.ensures.text
    c.in_ok-extend_from_slice-2.ensures.items)
    c.push_all-2.ensures

pub push_body-returns-in_ok-push_else-in-If-clause-text : goal.push_body-returns-in_ok-push_else-in-If-clause-text
push_body-returns-in_ok-push_else-in-If-clause-text t c =
    on_ok_weaker c.push_all-in-If.result
    (if_laid c.args.body.now c.in-If.first c.in-If.others c.in-If.otherwise c.deref-in-If.result.now c.args.margin.now.items _ _ _ _ _ _ _ _
    c.in-If.is c.deref-in-If.ensures.value c.in_ok-push_guarded-in-If.ensures.margin c.in_ok-push_else_ifs-in-If.ensures.margin
    c.in_ok-push_all-in-If.ensures c.in_ok-push_guarded-in-If.ensures.text c.in_ok-push_else_ifs-in-If.ensures.text
    c.in_ok-push_else-in-If.ensures.text)
    c.push_all-in-If.ensures

pub push_body-returns-in_ok-push_all-in-While-clause-text : goal.push_body-returns-in_ok-push_all-in-While-clause-text
push_body-returns-in_ok-push_all-in-While-clause-text t c =
    on_ok_weaker c.push_guarded-in-While.result
    (while_laid c.args.body.now c.in-While.guarded c.args.margin.now.items _ _ _ c.in-While.is c.in_ok-push_all-in-While.ensures)
    c.push_guarded-in-While.ensures.text

pub push_body-returns-in_ok-push_counter-in-For-clause-text : goal.push_body-returns-in_ok-push_counter-in-For-clause-text
push_body-returns-in_ok-push_counter-in-For-clause-text t c =
    let counter : c.push_counter.new.out.items ≡ c.args.out.now.items ++ (codes "for (Integer " then c.in-For.variable.name then codes " = "
    then signed_decimal c.in-For.first then codes "; " then term_text (term_of c.in-For.test) then codes "; "
    then term_text (term_of c.in-For.step) then codes ") ") = search rules in
    on_ok_weaker c.push_branch.result
    (for_laid c.args.body.now c.in-For.variable c.in-For.first c.in-For.test c.in-For.step c.in-For.branch c.args.margin.now.items _ _ _
    c.in-For.is counter)
    c.push_branch.ensures.text
