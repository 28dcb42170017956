use Rattle.std.proofs.Common.{◌≡◌, refl, sym, ap, subst, ◌∙◌, None, arith}
use Rattle.std.proofs.lemmas.List.{map_push}
use Rattle.std.proofs.lemmas.Result.{IfErr-weaker, IfOk-weaker}
use Rattle.px_value.proofs.General.{handed_on}
use Rattle.std.proofs.lemmas.Bool.{false≢true}
use Rattle.px_lex.specs.declared.keyword.Keyword.TheVariants as words
use Rattle.px_lex.specs.declared.sign.Sign.TheVariants as signs
use Rattle.px_lex.specs.declared.token.TokenKind.TheVariants as kinds
use Rattle.px_plan_parse.specs.declared.start.Start.TheVariants as starts
use Rattle.std.proofs.Common.{ℤ}
use Rattle.std.proofs.lemmas.Int.{to_z-of_z}
use mir.Syntax.{w32}
use mir.Val.{of_z, to_z}
use Rattle.px_syntax.specs.Block.{ActionTree, BodyTree, For, GuardedTree, Labelled, action_of, branch_of, guarded_of}
use Rattle.px_syntax.specs.BlockGrammar.{action, block, body, branch, guarded}
use Rattle.px_syntax.specs.Expr.{term_of}
use Rattle.px_expr_parse.specs.Tail.{closed}
use Rattle.px_plan_parse.specs.Part.{Anything, IsPart}
use Rattle.px_plan_parse.specs.Start.{NoBranch, is_action, keyword_start}
use Rattle.px_plan_parse.proofs.Blocks.{action_acts, actions_follow, block_tail, closing_no_branch, list_begins, makes_actions, makes_block, brace_closes}
use Rattle.px_plan_parse.proofs.Bodies.{block_no_name, else_follows, end_follows, makes_branch, makes_else_ifs, makes_for, makes_guarded, makes_if, makes_inner, makes_named, makes_otherwise, makes_unlabelled, makes_update, makes_while, no_body, no_sort, one_else_if, ends_labelled, joins_plain}
use Rattle.px_plan_parse.proofs.Globals.{lacks_here}
use Rattle.px_plan_parse.proofs.Names.{name_missing}
use Rattle.px_plan_parse.proofs.Parts.{front_ends, front_lacks, front_more, lack_before, lack_behind, lack_first, lack_first_of, lack_kind, lack_made, lack_narrowed, lack_present, lack_token, local_each, of_found, of_missing, part_absent, part_before, part_behind, part_made, part_narrowed, part_present, behind, joins_both, joins_both_of, lack_joined, part_joined}
use Rattle.px_expr_parse.proofs.Spans.{IsLocal, local_closed, local_identifier, local_one, local_then}
use Rattle.px_plan_parse.proofs.Shortests.{short_actions, short_block, short_body, short_branch, short_else_ifs, short_optional, short_list, short_loop, short_otherwise, short_tail, short_tested}
use Rattle.px_plan_parse.proofs.Spans.{local_action, local_counter, local_else_ifs, local_guarded, local_head, local_item, local_label, local_list_word, local_otherwise}
use Rattle.px_plan_parse.proofs.Sorts.{sort_of}
use Rattle.px_plan_parse.proofs.Starts.{here, name_here, not_so, not_there, start_keyword, start_same, starts_so, starts_there}
use Rattle.px_plan_parse.proofs.+block.Goals as goal

local_else_if : (part : GuardedTree) → IsLocal (one_else_if part)
local_else_if part = local_then (local_one (kinds.Keyword words.ElseIf)) (local_guarded part)

pub block::block-returns-in_err-word-clause-fault : goal.block::block-returns-in_err-word-clause-fault
block::block-returns-in_err-word-clause-fault t c =
    handed_on _ _ _ c.from_residual.ensures.1 (lack_made (makes_block c.args.tokens.now c.args.from)
    (lack_first_of block_tail (λ word others part from end o next. tt) short_tail c.in_err-word.ensures.fault))

pub block::block-returns-in_err-items-clause-fault : goal.block::block-returns-in_err-items-clause-fault
block::block-returns-in_err-items-clause-fault t c =
    handed_on _ _ _ c.from_residual-in_err-items.ensures.1
    (lack_made (makes_block c.args.tokens.now c.args.from)
    (lack_joined (joins_both_of block_tail (λ word others part from end o next. tt) (local_head c.in_ok-word.word) c.in_ok-word.ensures.ok)
    (lack_first (list_begins c.in_ok-word.word) (short_list c.in_ok-word.word) c.in_err-items.ensures.fault)))

pub block::block-returns-in_err-form-clause-fault : goal.block::block-returns-in_err-form-clause-fault
block::block-returns-in_err-form-clause-fault t c =
    handed_on _ _ _ c.from_residual-in_err-form.ensures.1
    (lack_made (makes_block c.args.tokens.now c.args.from)
    (lack_joined (joins_both_of block_tail (λ word others part from end o next. tt) (local_head c.in_ok-word.word) c.in_ok-word.ensures.ok)
    (lack_joined (joins_both (list_begins c.in_ok-word.word) (local_each local_item _) c.in_ok-items.ensures.ok)
    (lack_first actions_follow short_actions c.in_err-form.ensures.fault))))

pub block::block-returns-in_err-actions-clause-fault : goal.block::block-returns-in_err-actions-clause-fault
block::block-returns-in_err-actions-clause-fault t c =
    handed_on _ _ _ c.from_residual-in_err-actions.ensures.1
    (lack_made (makes_block c.args.tokens.now c.args.from)
    (lack_joined (joins_both_of block_tail (λ word others part from end o next. tt) (local_head c.in_ok-word.word) c.in_ok-word.ensures.ok)
    (lack_joined (joins_both (list_begins c.in_ok-word.word) (local_each local_item _) c.in_ok-items.ensures.ok)
    (lack_joined (joins_both actions_follow (local_list_word c.in_ok-word.word c.in_ok-form.form) c.in_ok-form.ensures.ok) c.in_err-actions.ensures.fault))))

pub block::block-returns-clause-ok : goal.block::block-returns-clause-ok
block::block-returns-clause-ok t c =
    rw c.block.ensures (part_made (makes_block c.args.tokens.now c.args.from)
    (part_joined (joins_both_of block_tail (λ word others part from end o next. tt) (local_head c.in_ok-word.word) c.in_ok-word.ensures.ok)
    (part_joined (joins_both (list_begins c.in_ok-word.word) (local_each local_item _) c.in_ok-items.ensures.ok)
    (part_joined (joins_both actions_follow (local_list_word c.in_ok-word.word c.in_ok-form.form) c.in_ok-form.ensures.ok) c.in_ok-actions.ensures.ok))))

pub block::actions-returns-in_err-action-clause-fault : goal.block::actions-returns-in_err-action-clause-fault
block::actions-returns-in_err-action-clause-fault t c =
    handed_on _ _ _ c.from_residual.ensures.1 (lack_made (makes_actions c.args.tokens.now c.args.from)
    (lack_before (λ others place is. is) (front_lacks c.loop-alloc.invariant
    (λ others part from end o. (action_acts part others from end o).1) closing_no_branch
    (λ others agree closes. starts_there c.args.tokens.now c.loop-alloc.at is_action
    (ap is_action (sym c.start_at.ensures.value) ∙ sym c.is_action.ensures ∙ c.loop-alloc-test.true) others agree
    (brace_closes others c.loop-alloc.at closes).0) local_action c.in_err-action.ensures.fault)))

pub block::actions-loop-alloc-preserved : goal.block::actions-loop-alloc-preserved
block::actions-loop-alloc-preserved t c =
    rw (c.in_ok-push.ensures.items, map_push action_of c.loop-alloc.actions.items c.in_ok-action.action)
    (front_more c.loop-alloc.invariant
    (λ others part from end o. (action_acts part others from end o).1) closing_no_branch
    (λ others agree closes. starts_there c.args.tokens.now c.loop-alloc.at is_action
    (ap is_action (sym c.start_at.ensures.value) ∙ sym c.is_action.ensures ∙ c.loop-alloc-test.true) others agree
    (brace_closes others c.loop-alloc.at closes).0) c.in_ok-action.ensures.ok)

pub block::actions-returns-in_err-expect-clause-fault : goal.block::actions-returns-in_err-expect-clause-fault
block::actions-returns-in_err-expect-clause-fault t c =
    handed_on _ _ _ c.from_residual-in_err-expect.ensures.1
    (lack_made (makes_actions c.args.tokens.now c.args.from) (lack_token (λ others place is. is) (local_each local_action _)
    (front_ends c.loop-alloc.invariant (λ others agree. not_there c.args.tokens.now c.loop-alloc.at action is_action
    (λ part others from end o. (action_acts part others from end o).0)
    (ap is_action (sym c.start_at.ensures.value) ∙ sym c.is_action.ensures ∙ c.loop-alloc-test.false) others
    (start_same c.args.tokens.now others c.loop-alloc.at (agree c.loop-alloc.at (omega arith))))) c.in_err-expect.ensures.fault))

pub block::actions-returns-clause-ok : goal.block::actions-returns-clause-ok
block::actions-returns-clause-ok t c =
    part_made (makes_actions c.args.tokens.now c.args.from) (part_before (λ others place is. is) (local_each local_action _) c.in_ok-expect.ensures.ok.0
    (front_ends c.loop-alloc.invariant (λ others agree. not_there c.args.tokens.now c.loop-alloc.at action is_action
    (λ part others from end o. (action_acts part others from end o).0)
    (ap is_action (sym c.start_at.ensures.value) ∙ sym c.is_action.ensures ∙ c.loop-alloc-test.false) others
    (start_same c.args.tokens.now others c.loop-alloc.at (agree c.loop-alloc.at (omega arith))))) c.in_ok-expect.ensures.ok.1)

pub branch::branch-returns-in_err-label-clause-fault : goal.branch::branch-returns-in_err-label-clause-fault
branch::branch-returns-in_err-label-clause-fault t c =
    handed_on _ _ _ c.from_residual.ensures.1 (lack_made (makes_branch c.args.tokens.now c.args.from)
    (lack_first block_no_name short_block c.in_err-label.ensures.fault))

pub branch::branch-returns-in_err-block-clause-fault : goal.branch::branch-returns-in_err-block-clause-fault
branch::branch-returns-in_err-block-clause-fault t c =
    handed_on _ _ _ c.from_residual-in_err-block.ensures.1
    (lack_made (makes_branch c.args.tokens.now c.args.from)
    (lack_joined (joins_both block_no_name (local_label c.in_ok-label.label) c.in_ok-label.ensures.ok) c.in_err-block.ensures.fault))

pub branch::branch-returns-clause-ok : goal.branch::branch-returns-clause-ok
branch::branch-returns-clause-ok t c =
    rw c.branch-label-2.ensures (part_made (makes_branch c.args.tokens.now c.args.from)
    (part_joined (joins_both block_no_name (local_label _) c.in_ok-label.ensures.ok) c.in_ok-block.ensures.ok))

pub branch::guarded-returns-in_err-expect-clause-fault : goal.branch::guarded-returns-in_err-expect-clause-fault
branch::guarded-returns-in_err-expect-clause-fault t c =
    handed_on _ _ _ c.from_residual.ensures.1 (lack_made (makes_guarded c.args.tokens.now c.args.from)
    (lack_kind (c.requires.place) short_tested c.in_err-expect.ensures.fault))

pub branch::guarded-returns-in_err-test-clause-fault : goal.branch::guarded-returns-in_err-test-clause-fault
branch::guarded-returns-in_err-test-clause-fault t c =
    handed_on _ _ _ c.from_residual-in_err-test.ensures.1
    (lack_made (makes_guarded c.args.tokens.now c.args.from) (lack_behind c.in_ok-expect.ensures.ok.1 c.in_err-test.ensures.fault))

pub branch::guarded-returns-clause-ok : goal.branch::guarded-returns-clause-ok
branch::guarded-returns-clause-ok t c =
    rw c.guarded.ensures (part_made (makes_guarded c.args.tokens.now c.args.from) (part_behind c.in_ok-expect.ensures.ok.1 c.in_ok-test.ensures.ok))

pub branch::closed_branch-returns-in_err-expr-clause-fault : goal.branch::closed_branch-returns-in_err-expr-clause-fault
branch::closed_branch-returns-in_err-expr-clause-fault t c =
    handed_on _ _ _ c.from_residual.ensures.1 (lack_first {Next = Anything} (λ others part from end o next. tt) short_branch
    (of_missing (closed signs.CloseParen) c.args.tokens.now c.args.from c.in_err-expr.field-0.0 Anything c.in_err-expr.ensures.fault))

pub branch::closed_branch-returns-in_err-branch-clause-fault : goal.branch::closed_branch-returns-in_err-branch-clause-fault
branch::closed_branch-returns-in_err-branch-clause-fault t c =
    handed_on _ _ _ c.from_residual-in_err-branch.ensures.1
    (lack_joined (joins_both (λ others part from end o next. tt) (local_closed signs.CloseParen _)
    (of_found Anything c.in_ok-expr.ensures.ok)) c.in_err-branch.ensures.fault)

pub branch::closed_branch-returns-clause-ok : goal.branch::closed_branch-returns-clause-ok
branch::closed_branch-returns-clause-ok t c =
    part_joined (joins_both (λ others part from end o next. tt) (local_closed signs.CloseParen _) (of_found Anything c.in_ok-expr.ensures.ok)) c.in_ok-branch.ensures.ok

pub branch::else_ifs-returns-in_err-other-clause-fault : goal.branch::else_ifs-returns-in_err-other-clause-fault
branch::else_ifs-returns-in_err-other-clause-fault t c =
    handed_on _ _ _ c.from_residual.ensures.1 (lack_made (makes_else_ifs c.args.tokens.now c.args.from)
    (front_lacks c.loop-alloc.invariant {Next = Anything} (λ others part from end o. tt) (λ others place last. tt)
    (starts_so c.args.tokens.now c.loop-alloc.at starts.ElseIf (c.loop-alloc-test.ensures.answer.0 refl)) local_else_if
    (lack_behind (here starts.ElseIf (kinds.Keyword words.ElseIf) (λ kind is_of. is_of) (λ e. cc) c.args.tokens.now c.loop-alloc.at
    (c.loop-alloc-test.ensures.answer.0 refl)) c.in_err-other.ensures.fault)))

pub branch::else_ifs-loop-alloc-preserved : goal.branch::else_ifs-loop-alloc-preserved
branch::else_ifs-loop-alloc-preserved t c =
    rw (c.in_ok-push.ensures.items, map_push guarded_of c.loop-alloc.others.items c.in_ok-other.other)
    (front_more c.loop-alloc.invariant {Next = Anything} (λ others part from end o. tt) (λ others place last. tt)
    (starts_so c.args.tokens.now c.loop-alloc.at starts.ElseIf (c.loop-alloc-test.ensures.answer.0 refl))
    (part_behind (here starts.ElseIf (kinds.Keyword words.ElseIf) (λ kind is_of. is_of) (λ e. cc) c.args.tokens.now c.loop-alloc.at
    (c.loop-alloc-test.ensures.answer.0 refl)) c.in_ok-other.ensures.ok))

pub branch::else_ifs-returns-clause-ok : goal.branch::else_ifs-returns-clause-ok
unfolding keyword_start
branch::else_ifs-returns-clause-ok t c =
    part_made (makes_else_ifs c.args.tokens.now c.args.from) (front_ends c.loop-alloc.invariant
    (not_so c.args.tokens.now c.loop-alloc.at one_else_if starts.ElseIf
    (λ others part from end o. start_keyword others from words.ElseIf o.1.0) (λ is. false≢true (c.loop-alloc-test.ensures.answer.1 is))))

pub branch::otherwise-returns-then-not-begins-clause-ok : goal.branch::otherwise-returns-then-not-begins-clause-ok
unfolding keyword_start
branch::otherwise-returns-then-not-begins-clause-ok t c =
    part_made (makes_otherwise c.args.tokens.now c.args.from) (part_absent c.requires.place
    (not_so c.args.tokens.now c.args.from (behind (kinds.Keyword words.Else) branch) starts.Else
    (λ others part from end o. start_keyword others from words.Else o.1.0) (λ is. false≢true (c.if-not-begins.ensures.answer.1 is))))

pub branch::otherwise-returns-in_err-branch-clause-fault : goal.branch::otherwise-returns-in_err-branch-clause-fault
branch::otherwise-returns-in_err-branch-clause-fault t c =
    handed_on _ _ _ c.from_residual.ensures.1 (lack_made (makes_otherwise c.args.tokens.now c.args.from)
    (lack_present (starts_so c.args.tokens.now c.args.from starts.Else (c.if-not-begins.ensures.answer.0 refl))
    (lack_behind (here starts.Else (kinds.Keyword words.Else) (λ kind is_of. is_of) (λ e. cc) c.args.tokens.now c.args.from
    (c.if-not-begins.ensures.answer.0 refl)) (lack_narrowed (λ others place last. tt) c.in_err-branch.ensures.fault))))

pub branch::otherwise-returns-clause-ok : goal.branch::otherwise-returns-clause-ok
branch::otherwise-returns-clause-ok t c =
    part_made (makes_otherwise c.args.tokens.now c.args.from) (part_present (starts_so c.args.tokens.now c.args.from starts.Else (c.if-not-begins.ensures.answer.0 refl))
    (part_behind (here starts.Else (kinds.Keyword words.Else) (λ kind is_of. is_of) (λ e. cc) c.args.tokens.now c.args.from
    (c.if-not-begins.ensures.answer.0 refl)) (part_narrowed (λ others place last. tt) c.in_ok-branch.ensures.ok)))

pub action::action-returns-in_err-body-clause-fault : goal.action::action-returns-in_err-body-clause-fault
action::action-returns-in_err-body-clause-fault t c =
    handed_on _ _ _ c.from_residual.ensures.1 (lack_made
    (makes_unlabelled c.args.tokens.now c.args.from (λ is. false≢true (c.if-not-begins.ensures.answer.1 is))) c.in_err-body.ensures.fault)

pub action::action-returns-then-not-begins-clause-ok : goal.action::action-returns-then-not-begins-clause-ok
action::action-returns-then-not-begins-clause-ok t c =
    rw c.action.ensures (part_made (makes_unlabelled c.args.tokens.now c.args.from
    (λ is. false≢true (c.if-not-begins.ensures.answer.1 is))) c.in_ok-body.ensures.ok)

pub action::action-returns-in_err-name-clause-fault : goal.action::action-returns-in_err-name-clause-fault
action::action-returns-in_err-name-clause-fault t c =
    handed_on _ _ _ c.from_residual-in_err-name.ensures.1 (let name = name_here c.args.tokens.now c.args.from (c.if-not-begins.ensures.answer.0 refl) in
    name_missing c.args.tokens.now c.args.from name.0 name.1 c.in_err-name.field-0.0 c.in_err-name.ensures.fault action NoBranch)

pub action::action-returns-in_err-body-2-clause-fault : goal.action::action-returns-in_err-body-2-clause-fault
action::action-returns-in_err-body-2-clause-fault t c =
    handed_on _ _ _ c.from_residual-in_err-body-2.ensures.1
    (lack_made (ends_labelled c.args.tokens.now c.args.from c.in_ok-name.name c.in_ok-name.ensures.ok
    (c.if-is_sign.ensures.answer.0 refl)) c.in_err-body-2.ensures.fault)

pub action::action-returns-then-is_sign-clause-ok : goal.action::action-returns-then-is_sign-clause-ok
action::action-returns-then-is_sign-clause-ok t c =
    rw c.action-then-is_sign.ensures (part_made (ends_labelled c.args.tokens.now c.args.from c.in_ok-name.name c.in_ok-name.ensures.ok
    (c.if-is_sign.ensures.answer.0 refl)) c.in_ok-body-2.ensures.ok)

pub action::action-returns-in_err-body-3-clause-fault : goal.action::action-returns-in_err-body-3-clause-fault
action::action-returns-in_err-body-3-clause-fault t c =
    handed_on _ _ _ c.from_residual-in_err-body-3.ensures.1
    (lack_joined (joins_plain c.args.tokens.now c.args.from c.in_ok-name.name c.in_ok-name.ensures.ok
    (λ has. false≢true (c.if-is_sign.ensures.answer.1 has))) c.in_err-body-3.ensures.fault)

pub action::action-returns-clause-ok : goal.action::action-returns-clause-ok
action::action-returns-clause-ok t c =
    subst (λ (tree : ActionTree). IsPart action NoBranch c.args.tokens.now c.args.from tree c.in_ok-body-3.end)
    (sym (c.action-2.ensures ∙ ap (λ (b : BodyTree). Labelled None b) c.in_ok-body-3.ensures.ok.1))
    (part_joined (joins_plain c.args.tokens.now c.args.from c.in_ok-name.name c.in_ok-name.ensures.ok
    (λ has. false≢true (c.if-is_sign.ensures.answer.1 has))) c.in_ok-body-3.ensures.ok.2)

pub body::body-returns-in_err-name-in-Name-clause-fault : goal.body::body-returns-in_err-name-in-Name-clause-fault
body::body-returns-in_err-name-in-Name-clause-fault t c =
    handed_on _ _ _ c.from_residual.ensures.1 (let name = name_here c.args.tokens.now c.args.from (sym c.start_at.ensures.value ∙ c.in-Name.is) in
    name_missing c.args.tokens.now c.args.from name.0 name.1 c.in_err-name-in-Name.field-0.0 c.in_err-name-in-Name.ensures.fault body NoBranch)

pub body::conditional-returns-in_err-first-clause-fault : goal.body::conditional-returns-in_err-first-clause-fault
body::conditional-returns-in_err-first-clause-fault t c =
    handed_on _ _ _ c.from_residual.ensures.1 (lack_made (makes_if c.args.tokens.now c.args.from (ap sort_of c.requires.begins))
    (lack_behind (here starts.If (kinds.Keyword words.If) (λ kind is_of. is_of) (λ e. cc) c.args.tokens.now c.args.from c.requires.begins)
    (lack_first {Next = Anything} (λ others part from end o next. tt) short_else_ifs c.in_err-first.ensures.fault)))

pub body::conditional-returns-in_err-others-clause-fault : goal.body::conditional-returns-in_err-others-clause-fault
body::conditional-returns-in_err-others-clause-fault t c =
    handed_on _ _ _ c.from_residual-in_err-others.ensures.1
    (lack_made (makes_if c.args.tokens.now c.args.from (ap sort_of c.requires.begins))
    (lack_behind (here starts.If (kinds.Keyword words.If) (λ kind is_of. is_of) (λ e. cc) c.args.tokens.now c.args.from c.requires.begins)
    (lack_joined (joins_both (λ others part from end o next. tt) (local_guarded _) c.in_ok-first.ensures.ok)
    (lack_first else_follows short_otherwise c.in_err-others.ensures.fault))))

pub body::conditional-returns-in_err-otherwise-clause-fault : goal.body::conditional-returns-in_err-otherwise-clause-fault
body::conditional-returns-in_err-otherwise-clause-fault t c =
    handed_on _ _ _ c.from_residual-in_err-otherwise.ensures.1
    (lack_made (makes_if c.args.tokens.now c.args.from (ap sort_of c.requires.begins))
    (lack_behind (here starts.If (kinds.Keyword words.If) (λ kind is_of. is_of) (λ e. cc) c.args.tokens.now c.args.from c.requires.begins)
    (lack_joined (joins_both (λ others part from end o next. tt) (local_guarded _) c.in_ok-first.ensures.ok)
    (lack_joined (joins_both else_follows (local_else_ifs _) c.in_ok-others.ensures.ok)
    (lack_first end_follows short_optional c.in_err-otherwise.ensures.fault)))))

pub body::conditional-returns-clause-ok : goal.body::conditional-returns-clause-ok
body::conditional-returns-clause-ok t c =
    rw c.conditional.ensures (part_made (makes_if c.args.tokens.now c.args.from (ap sort_of c.requires.begins))
    (part_behind (here starts.If (kinds.Keyword words.If) (λ kind is_of. is_of) (λ e. cc) c.args.tokens.now c.args.from c.requires.begins)
    (part_joined (joins_both (λ others part from end o next. tt) (local_guarded _) c.in_ok-first.ensures.ok)
    (part_joined (joins_both else_follows (local_else_ifs _) c.in_ok-others.ensures.ok)
    (part_joined (joins_both end_follows (local_otherwise _) c.in_ok-otherwise.ensures.ok) c.end_if-end.ensures)))))

pub body::counted-returns-in_err-variable-clause-fault : goal.body::counted-returns-in_err-variable-clause-fault
body::counted-returns-in_err-variable-clause-fault t c =
    handed_on _ _ _ c.from_residual.ensures.1 (lack_made (makes_for c.args.tokens.now c.args.from (ap sort_of c.requires.begins))
    (lack_behind (here starts.For (kinds.Keyword words.For) (λ kind is_of. is_of)
    (λ e. cc) c.args.tokens.now c.args.from c.requires.begins)
    (lack_first {Next = Anything} (λ others part from end o next. tt) short_loop c.in_err-variable.ensures.fault)))

pub body::counted-returns-in_err-test-clause-fault : goal.body::counted-returns-in_err-test-clause-fault
body::counted-returns-in_err-test-clause-fault t c =
    handed_on _ _ _ c.from_residual-in_err-test.ensures.1
    (lack_made (makes_for c.args.tokens.now c.args.from (ap sort_of c.requires.begins))
    (lack_behind (here starts.For (kinds.Keyword words.For) (λ kind is_of. is_of)
    (λ e. cc) c.args.tokens.now c.args.from c.requires.begins)
    (lack_joined (joins_both (λ others part from end o next. tt) (local_counter _) c.in_ok-variable.ensures.ok)
    (lack_first {Next = Anything} (λ others part from end o next. tt) short_tested
    (of_missing (closed signs.Semicolon) c.args.tokens.now c.in_ok-variable.behind_counter c.in_err-test.field-0.0 Anything c.in_err-test.ensures.fault)))))

pub body::counted-returns-in_err-step-clause-fault : goal.body::counted-returns-in_err-step-clause-fault
body::counted-returns-in_err-step-clause-fault t c =
    handed_on _ _ _ c.from_residual-in_err-step.ensures.1
    (lack_made (makes_for c.args.tokens.now c.args.from (ap sort_of c.requires.begins))
    (lack_behind (here starts.For (kinds.Keyword words.For) (λ kind is_of. is_of)
    (λ e. cc) c.args.tokens.now c.args.from c.requires.begins)
    (lack_joined (joins_both (λ others part from end o next. tt) (local_counter _) c.in_ok-variable.ensures.ok)
    (lack_joined (joins_both (λ others part from end o next. tt) (local_closed signs.Semicolon _) (of_found Anything c.in_ok-test.ensures.ok))
    (lack_narrowed (λ others place last. tt) c.in_err-step.ensures.fault)))))

pub body::body-returns-in_ok-name-in-Name-clause-ok : goal.body::body-returns-in_ok-name-in-Name-clause-ok
body::body-returns-in_ok-name-in-Name-clause-ok t c =
    IfOk-weaker c.named.result _ _ (λ read found.
    subst (λ (tree : BodyTree). IsPart body NoBranch c.args.tokens.now c.args.from tree read.1) (sym found.1)
    (part_made (makes_named c.args.tokens.now c.args.from (ap sort_of (sym c.start_at.ensures.value ∙ c.in-Name.is)))
    (part_joined (joins_both (λ others part from end o next. tt) (local_identifier _) (of_found Anything c.in_ok-name-in-Name.ensures.ok))
    (part_narrowed (λ others place last. tt) found.2)))) c.named.ensures.ok

pub body::body-returns-in_ok-name-in-Name-clause-fault : goal.body::body-returns-in_ok-name-in-Name-clause-fault
body::body-returns-in_ok-name-in-Name-clause-fault t c =
    IfErr-weaker c.named.result _ _ (λ fault missing.
    lack_made (makes_named c.args.tokens.now c.args.from (ap sort_of (sym c.start_at.ensures.value ∙ c.in-Name.is))) (lack_joined (joins_both (λ others part from end o next. tt) (local_identifier _) (of_found Anything c.in_ok-name-in-Name.ensures.ok)) (lack_narrowed (λ others place last. tt) missing))) c.named.ensures.fault

pub body::body-returns-in_err-block-in-Form-clause-fault : goal.body::body-returns-in_err-block-in-Form-clause-fault
body::body-returns-in_err-block-in-Form-clause-fault t c =
    handed_on _ _ _ c.from_residual-in_err-block-in-Form.ensures.1
    (lack_made (makes_inner c.args.tokens.now c.args.from (ap sort_of (sym c.start_at.ensures.value ∙ c.in-Form.is)))
    (lack_narrowed (λ others place last. tt) c.in_err-block-in-Form.ensures.fault))

pub body::body-returns-in_ok-block-in-Form-clause-ok : goal.body::body-returns-in_ok-block-in-Form-clause-ok
body::body-returns-in_ok-block-in-Form-clause-ok t c =
    rw c.inner.ensures (part_made (makes_inner c.args.tokens.now c.args.from (ap sort_of (sym c.start_at.ensures.value ∙ c.in-Form.is)))
    (part_narrowed (λ others place last. tt) c.in_ok-block-in-Form.ensures.ok))

pub body::body-returns-in_err-block-in-Brace-clause-fault : goal.body::body-returns-in_err-block-in-Brace-clause-fault
body::body-returns-in_err-block-in-Brace-clause-fault t c =
    handed_on _ _ _ c.from_residual-in_err-block-in-Brace.ensures.1
    (lack_made (makes_inner c.args.tokens.now c.args.from (ap sort_of (sym c.start_at.ensures.value ∙ c.in-Brace.is)))
    (lack_narrowed (λ others place last. tt) c.in_err-block-in-Brace.ensures.fault))

pub body::body-returns-in_ok-block-in-Brace-clause-ok : goal.body::body-returns-in_ok-block-in-Brace-clause-ok
body::body-returns-in_ok-block-in-Brace-clause-ok t c =
    rw c.inner-in-Brace.ensures (part_made (makes_inner c.args.tokens.now c.args.from
    (ap sort_of (sym c.start_at.ensures.value ∙ c.in-Brace.is))) (part_narrowed (λ others place last. tt) c.in_ok-block-in-Brace.ensures.ok))

pub body::body-returns-in_err-pairs-in-Update-clause-fault : goal.body::body-returns-in_err-pairs-in-Update-clause-fault
body::body-returns-in_err-pairs-in-Update-clause-fault t c =
    handed_on _ _ _ c.from_residual-in_err-pairs-in-Update.ensures.1
    (lack_made (makes_update c.args.tokens.now c.args.from (ap sort_of (sym c.start_at.ensures.value ∙ c.in-Update.is)))
    (lack_behind (here starts.Update (kinds.Keyword words.Update) (λ kind is_of. is_of) (λ e. cc) c.args.tokens.now c.args.from
    (sym c.start_at.ensures.value ∙ c.in-Update.is)) (lack_narrowed (λ others place last. tt) c.in_err-pairs-in-Update.ensures.fault)))

pub body::body-returns-in_ok-pairs-in-Update-clause-ok : goal.body::body-returns-in_ok-pairs-in-Update-clause-ok
body::body-returns-in_ok-pairs-in-Update-clause-ok t c =
    rw c.update.ensures (part_made (makes_update c.args.tokens.now c.args.from
    (ap sort_of (sym c.start_at.ensures.value ∙ c.in-Update.is)))
    (part_behind (here starts.Update (kinds.Keyword words.Update) (λ kind is_of. is_of) (λ e. cc) c.args.tokens.now c.args.from
    (sym c.start_at.ensures.value ∙ c.in-Update.is)) (part_narrowed (λ others place last. tt) c.in_ok-pairs-in-Update.ensures.ok)))

pub body::body-returns-in_err-guarded-in-While-clause-fault : goal.body::body-returns-in_err-guarded-in-While-clause-fault
body::body-returns-in_err-guarded-in-While-clause-fault t c =
    handed_on _ _ _ c.from_residual-in_err-guarded-in-While.ensures.1
    (lack_made (makes_while c.args.tokens.now c.args.from (ap sort_of (sym c.start_at.ensures.value ∙ c.in-While.is)))
    (lack_behind (here starts.While (kinds.Keyword words.While) (λ kind is_of. is_of) (λ e. cc) c.args.tokens.now c.args.from
    (sym c.start_at.ensures.value ∙ c.in-While.is)) (lack_narrowed (λ others place last. tt) c.in_err-guarded-in-While.ensures.fault)))

pub body::body-returns-in_ok-guarded-in-While-clause-ok : goal.body::body-returns-in_ok-guarded-in-While-clause-ok
body::body-returns-in_ok-guarded-in-While-clause-ok t c =
    rw c.repeated.ensures (part_made (makes_while c.args.tokens.now c.args.from
    (ap sort_of (sym c.start_at.ensures.value ∙ c.in-While.is)))
    (part_behind (here starts.While (kinds.Keyword words.While) (λ kind is_of. is_of) (λ e. cc) c.args.tokens.now c.args.from
    (sym c.start_at.ensures.value ∙ c.in-While.is)) (part_narrowed (λ others place last. tt) c.in_ok-guarded-in-While.ensures.ok)))

pub body::body-returns-in_default-clause-fault : goal.body::body-returns-in_default-clause-fault
body::body-returns-in_default-clause-fault t c =
    lacks_here c.args.tokens.now c.args.from _ refl c.requires.place short_body (no_body c.args.tokens.now c.args.from (ap sort_of (sym c.start_at.ensures.value)
    ∙ no_sort c.start_at.result c.in_default.not-Name c.in_default.not-Form c.in_default.not-Brace c.in_default.not-Update c.in_default.not-If c.in_default.not-While c.in_default.not-For))

pub body::counted-returns-clause-ok : goal.body::counted-returns-clause-ok
body::counted-returns-clause-ok t c =
    let same : to_z w32 (of_z w32 c.in_ok-variable.first) ≡ c.in_ok-variable.first = to_z-of_z w32 c.in_ok-variable.first c.in_ok-variable.ensures.fits in
    subst (λ (tree : BodyTree). IsPart body NoBranch c.args.tokens.now c.args.from tree c.in_ok-step.end)
    (sym (c.counted.ensures ∙ ap (λ (first : ℤ). For c.in_ok-variable.variable first (term_of c.in_ok-test.test)
    (term_of c.in_ok-step.step) (branch_of c.in_ok-step.branch)) same))
    (part_made (makes_for c.args.tokens.now c.args.from (ap sort_of c.requires.begins))
    (part_behind (here starts.For (kinds.Keyword words.For) (λ kind is_of. is_of)
    (λ e. cc) c.args.tokens.now c.args.from c.requires.begins)
    (part_joined (joins_both (λ others part from end o next. tt) (local_counter _) c.in_ok-variable.ensures.ok)
    (part_joined (joins_both (λ others part from end o next. tt) (local_closed signs.Semicolon _) (of_found Anything c.in_ok-test.ensures.ok))
    (part_narrowed (λ others place last. tt) c.in_ok-step.ensures.ok)))))
