use Rattle.std.proofs.Common.{◌≡◌, ◌+◌, refl, sym, ap, ◌∙◌, arith, Some}
use Rattle.std.proofs.lemmas.List.{map_push}
use Rattle.std.proofs.lemmas.Result.{IfErr-weaker, IfOk-weaker}
use Rattle.px_value.proofs.General.{handed_on}
use Rattle.std.proofs.lemmas.Bool.{false≢true}
use Rattle.px_lex.specs.declared.sign.Sign.TheVariants as signs
use Rattle.px_lex.specs.declared.token.TokenKind.TheVariants as kinds
use Rattle.px_syntax.specs.Expr.{term_of}
use Rattle.px_syntax.specs.Form.{identifier}
use Rattle.px_syntax.specs.ExprGrammar.{expression, look_end}
use Rattle.px_syntax.proofs.Levels.{binary_level}
use Rattle.px_expr_parse.specs.Tail.{closed, closed_arguments, look_rest, second_argument}
use Rattle.px_expr_parse.specs.declared.opening.Opening.TheVariants as openings
use Rattle.px_expr_parse.proofs.Arguments.{found_none, last_argument, missing_last, no_arguments, one_more_argument, refuse_argument}
use Rattle.px_expr_parse.proofs.Chains.{level}
use Rattle.px_expr_parse.proofs.Closed.{closer_ends, closes}
use Rattle.px_expr_parse.proofs.Completions.{Shortest, short_behind, short_closed, short_expression, short_look_end, short_look_rest, short_name, short_token}
use Rattle.px_expr_parse.proofs.Lookups.{ends_given, ends_left_out}
use Rattle.px_expr_parse.proofs.Loops.{loop_begins, loop_ends, loop_goes_on, loop_refused, loop_stops}
use Rattle.px_expr_parse.proofs.Parts.{IsClosing, alone, both, ends_before, ends_behind, ends_both, ends_closed, found_alone, found_ending, missing_alone, missing_closed, missing_ending, missing_first, missing_kind, short_pair, three, two}
use Rattle.px_expr_parse.proofs.Primaries.{begins_with, opens_binary_call, opens_look, opens_paren, opens_unary_call, produces_element, produces_named, read_enumerated, read_prefix, read_variable, refuse_end, refuse_name, refuse_nothing, refuse_prefix}
use Rattle.px_expr_parse.proofs.Productions.{read_opened, read_produced, refuse_opened, refuse_produced}
use Rattle.px_expr_parse.proofs.Spans.{local_closed_arguments, local_identifier}
use Rattle.px_expr_parse.proofs.+expression.Goals as goal
use Rattle.px_expr_parse.proofs.+expression.Goals.{operation::operation-in-Some+then-level-floor, operation::operation-in_default}

-- a comma closes the first of two arguments
second_closes : IsClosing second_argument
second_closes tokens part from end o = closer_ends tokens from signs.Comma refl o.1.0

-- the shortest of what stands behind a word
short_second : Shortest second_argument
short_second = short_behind (kinds.Sign signs.Comma) (short_closed signs.CloseParen)

pub argument::arguments-returns-then-is_sign-clause-ok : goal.argument::arguments-returns-then-is_sign-clause-ok
argument::arguments-returns-then-is_sign-clause-ok t c =
    rw c.new-args.ensures.items
    (found_none c.args.tokens.now c.args.from (c.if-is_sign.ensures.inside refl) (c.if-is_sign.ensures.answer.0 refl))

pub argument::arguments-loop-args-init : goal.argument::arguments-loop-args-init
argument::arguments-loop-args-init t c =
    rw c.new-args.ensures.items
    (no_arguments c.args.tokens.now c.args.from c.requires (λ has. false≢true (c.if-is_sign.ensures.answer.1 has)))

pub argument::arguments-returns-in_err-arg-clause-fault : goal.argument::arguments-returns-in_err-arg-clause-fault
argument::arguments-returns-in_err-arg-clause-fault t c =
    handed_on _ _ _ c.from_residual.ensures.1
    (refuse_argument c.loop-args.invariant c.in_err-arg.field-0.0 c.in_err-arg.ensures.fault)

pub argument::arguments-returns-in_err-expect-clause-fault : goal.argument::arguments-returns-in_err-expect-clause-fault
argument::arguments-returns-in_err-expect-clause-fault t c =
    handed_on _ _ _ c.from_residual-in_err-expect.ensures.1
    (missing_last c.loop-args.invariant c.in_ok-arg.ensures.ok c.in_err-expect.field-0.0
    (λ has. false≢true (c.if-not-is_sign.ensures.answer.1 has)) c.in_err-expect.ensures.fault)

pub argument::arguments-returns-then-not-is_sign-clause-ok : goal.argument::arguments-returns-then-not-is_sign-clause-ok
argument::arguments-returns-then-not-is_sign-clause-ok t c =
    rw (c.in_ok-push.ensures.items, map_push term_of c.loop-args.args.items c.in_ok-arg.arg)
    (last_argument c.loop-args.invariant c.in_ok-arg.ensures.ok c.in_ok-expect.ensures.ok.0 c.in_ok-expect.ensures.ok.1)

pub argument::arguments-loop-args-preserved : goal.argument::arguments-loop-args-preserved
argument::arguments-loop-args-preserved t c =
    rw (c.in_ok-push.ensures.items, map_push term_of c.loop-args.args.items c.in_ok-arg.arg)
    (one_more_argument c.loop-args.invariant c.in_ok-arg.ensures.ok (c.if-not-is_sign.ensures.inside refl)
    (c.if-not-is_sign.ensures.answer.0 refl))

pub argument::closed-returns-in_err-tree-clause-fault : goal.argument::closed-returns-in_err-tree-clause-fault
argument::closed-returns-in_err-tree-clause-fault t c =
    handed_on _ _ _ c.from_residual.ensures.1
    (missing_ending (ends_before (kinds.Sign c.args.close) c.args.tokens.now c.args.from expression) c.in_err-tree.field-0.0
    (missing_closed (alone (kinds.Sign c.args.close)) (closes c.args.close c.requires.closer) c.args.tokens.now c.args.from c.in_err-tree.field-0.0
    (short_token (kinds.Sign c.args.close)) c.in_err-tree.ensures.fault))

pub argument::closed-returns-in_err-expect-clause-fault : goal.argument::closed-returns-in_err-expect-clause-fault
argument::closed-returns-in_err-expect-clause-fault t c =
    handed_on _ _ _ c.from_residual-in_err-expect.ensures.1
    (missing_ending (ends_before (kinds.Sign c.args.close) c.args.tokens.now c.args.from expression) c.in_err-expect.field-0.0
    (missing_ending (ends_closed (alone (kinds.Sign c.args.close)) (closes c.args.close c.requires.closer) c.in_ok-tree.ensures.ok) c.in_err-expect.field-0.0
    (missing_alone (kinds.Sign c.args.close) c.args.tokens.now c.in_ok-tree.end c.in_err-expect.field-0.0 c.in_ok-tree.ensures.ok.within c.in_err-expect.ensures.fault)))

pub argument::closed-returns-clause-ok : goal.argument::closed-returns-clause-ok
argument::closed-returns-clause-ok t c =
    found_ending (ends_before (kinds.Sign c.args.close) c.args.tokens.now c.args.from expression)
    (found_ending (ends_closed (alone (kinds.Sign c.args.close)) (closes c.args.close c.requires.closer) c.in_ok-tree.ensures.ok)
    (found_alone (kinds.Sign c.args.close) c.args.tokens.now c.in_ok-tree.end c.in_ok-expect.ensures.ok.0 c.in_ok-expect.ensures.ok.1))

pub lookup::look_rest-returns-in_err-tolerance-clause-fault : goal.lookup::look_rest-returns-in_err-tolerance-clause-fault
lookup::look_rest-returns-in_err-tolerance-clause-fault t c =
    handed_on _ _ _ c.from_residual.ensures.1
    (missing_ending (ends_left_out c.args.word c.args.tokens.now c.args.from (λ has. false≢true (c.if-not-is_sign.ensures.answer.1 has)))
    c.in_err-tolerance.field-0.0 c.in_err-tolerance.ensures.fault)

pub lookup::look_rest-returns-then-not-is_sign-clause-ok : goal.lookup::look_rest-returns-then-not-is_sign-clause-ok
lookup::look_rest-returns-then-not-is_sign-clause-ok t c =
    rw c.new.ensures.items
    (found_ending (ends_left_out c.args.word c.args.tokens.now c.args.from (λ has. false≢true (c.if-not-is_sign.ensures.answer.1 has)))
    c.in_ok-tolerance.ensures.ok)

pub lookup::look_rest-returns-in_err-args-clause-fault : goal.lookup::look_rest-returns-in_err-args-clause-fault
lookup::look_rest-returns-in_err-args-clause-fault t c =
    let opening = c.if-not-is_sign.ensures.answer.0 refl in
    handed_on _ _ _ c.from_residual-in_err-args.ensures.1
    (missing_ending (ends_given c.args.word c.args.tokens.now c.args.from opening) c.in_err-args.field-0.0
    (missing_ending (ends_behind (kinds.Sign signs.OpenParen) c.args.tokens.now c.args.from (both closed_arguments (look_end c.args.word)) opening) c.in_err-args.field-0.0
    (missing_first closed_arguments (look_end c.args.word) c.args.tokens.now (c.args.from + 1) c.in_err-args.field-0.0 (short_look_end c.args.word)
    c.in_err-args.ensures.fault)))

pub lookup::look_rest-returns-in_err-tolerance-2-clause-fault : goal.lookup::look_rest-returns-in_err-tolerance-2-clause-fault
lookup::look_rest-returns-in_err-tolerance-2-clause-fault t c =
    let opening = c.if-not-is_sign.ensures.answer.0 refl in
    handed_on _ _ _ c.from_residual-in_err-tolerance-2.ensures.1
    (missing_ending (ends_given c.args.word c.args.tokens.now c.args.from opening) c.in_err-tolerance-2.field-0.0
    (missing_ending (ends_behind (kinds.Sign signs.OpenParen) c.args.tokens.now c.args.from
    (both closed_arguments (look_end c.args.word)) opening) c.in_err-tolerance-2.field-0.0
    (missing_ending (ends_both closed_arguments (look_end c.args.word) (local_closed_arguments _) c.in_ok-args.ensures.ok) c.in_err-tolerance-2.field-0.0
    c.in_err-tolerance-2.ensures.fault)))

pub lookup::look_rest-returns-clause-ok : goal.lookup::look_rest-returns-clause-ok
lookup::look_rest-returns-clause-ok t c =
    let opening = c.if-not-is_sign.ensures.answer.0 refl in
    found_ending (ends_given c.args.word c.args.tokens.now c.args.from opening)
    (found_ending (ends_behind (kinds.Sign signs.OpenParen) c.args.tokens.now c.args.from (both closed_arguments (look_end c.args.word)) opening)
    (found_ending (ends_both closed_arguments (look_end c.args.word) (local_closed_arguments _) c.in_ok-args.ensures.ok) c.in_ok-tolerance-2.ensures.ok))

pub operation::operand-returns-in_err-tree-clause-fault : goal.operation::operand-returns-in_err-tree-clause-fault
operation::operand-returns-in_err-tree-clause-fault t c =
    handed_on _ _ _ c.from_residual.ensures.1
    (refuse_prefix c.args.tokens.now c.args.from c.in-Some.operator (sym c.in-Some.ensures.value) c.in_err-tree.field-0.0 c.in_err-tree.ensures.fault)

pub operation::operand-returns-clause-ok : goal.operation::operand-returns-clause-ok
operation::operand-returns-clause-ok t c =
    rw c.in_ok-unary.ensures (read_prefix c.args.tokens.now c.args.from c.in-Some.operator (sym c.in-Some.ensures.value)
    (term_of c.in_ok-tree.tree) c.in_ok-tree.end c.in_ok-tree.ensures.ok)

pub operation::operation-returns-in_err-left-clause-fault : goal.operation::operation-returns-in_err-left-clause-fault
operation::operation-returns-in_err-left-clause-fault t c =
    handed_on _ _ _ c.from_residual.ensures.1
    (loop_refused c.args.floor c.args.tokens.now c.args.from c.in_err-left.field-0.0 c.requires.level c.in_err-left.ensures.fault)

pub operation::operation-loop-operator-init : goal.operation::operation-loop-operator-init
operation::operation-loop-operator-init t c = loop_begins c.requires.level c.in_ok-left.ensures.ok

pub operation::operation-overflow_add-level : goal.operation::operation-overflow_add-level
operation::operation-overflow_add-level t c = omega (arith, (binary_level c.in-Some.operator).1)

pub operation::operation-operation-requires : goal.operation::operation-operation-requires
operation::operation-operation-requires t c =
    let bound = (binary_level c.in-Some.operator).1 in
    let inside = c.in-Some.ensures.inside refl in
    (omega (arith, c.decreases, c.loop-operator.invariant.advances, inside), (omega (arith, inside), omega (arith, bound)))

pub operation::operation-returns-in_err-right-clause-fault : goal.operation::operation-returns-in_err-right-clause-fault
operation::operation-returns-in_err-right-clause-fault t c =
    handed_on _ _ _ c.from_residual-in_err-right.ensures.1
    (loop_stops c.loop-operator.invariant c.in-Some.operator (sym c.in-Some.ensures.value) (omega (arith, c.level-level.ensures, c.if-level-floor.false))
    c.in_err-right.field-0.0 (rw c.level-level.ensures at c.in_err-right.ensures.fault))

pub operation::operation-loop-operator-preserved : goal.operation::operation-loop-operator-preserved
operation::operation-loop-operator-preserved t c =
    rw c.in_ok-left-2.ensures
    (loop_goes_on c.loop-operator.invariant c.in-Some.operator (sym c.in-Some.ensures.value) (omega (arith, c.level-level.ensures, c.if-level-floor.false))
    (rw c.level-level.ensures at c.in_ok-right.ensures.ok))

pub operation::operation-returns-clause-ok : goal.operation::operation-returns-clause-ok
operation::operation-returns-clause-ok t c =
    loop_ends c.loop-operator.invariant
    (elim c.match-binary_at.branch [
      | operation::operation-in-Some+then-level-floor w ↦
          λ operator is.
          let both_are : Some operator ≡ Some w.in-Some.operator = sym is ∙ sym w.in-Some.ensures.value in
          let same : operator ≡ w.in-Some.operator = cc in
          let levels : level operator ≡ level w.in-Some.operator = ap level same in
          omega (arith, levels, w.level-level.ensures, w.if-level-floor.true)
      | operation::operation-in_default w ↦
          λ operator is. absurd (w.in_default.not-Some operator (c.binary_at.ensures.value ∙ is))
    ])

pub primary::unary_call-returns-in_err-expect-clause-fault : goal.primary::unary_call-returns-in_err-expect-clause-fault
primary::unary_call-returns-in_err-expect-clause-fault t c =
    handed_on _ _ _ c.from_residual.ensures.1
    (refuse_opened (opens_unary_call c.args.from c.args.function) c.requires.begins c.in_err-expect.field-0.0
    (missing_kind (kinds.Sign signs.OpenParen) c.args.tokens.now (c.args.from + 1) (closed signs.CloseParen) c.in_err-expect.field-0.0
    (omega (arith, c.requires.place)) (short_closed signs.CloseParen) c.in_err-expect.ensures.fault))

pub primary::unary_call-returns-in_err-argument-clause-fault : goal.primary::unary_call-returns-in_err-argument-clause-fault
primary::unary_call-returns-in_err-argument-clause-fault t c =
    handed_on _ _ _ c.from_residual-in_err-argument.ensures.1
    (refuse_opened (opens_unary_call c.args.from c.args.function) c.requires.begins c.in_err-argument.field-0.0
    (missing_ending (ends_behind (kinds.Sign signs.OpenParen) c.args.tokens.now (c.args.from + 1) (closed signs.CloseParen) c.in_ok-expect.ensures.ok.1)
    c.in_err-argument.field-0.0 (rw (two c.args.from) at c.in_err-argument.ensures.fault)))

pub primary::unary_call-returns-clause-ok : goal.primary::unary_call-returns-clause-ok
primary::unary_call-returns-clause-ok t c =
    rw c.in_ok-unary_call.ensures (read_opened (opens_unary_call c.args.from c.args.function) c.requires.begins
    (found_ending (ends_behind (kinds.Sign signs.OpenParen) c.args.tokens.now (c.args.from + 1) (closed signs.CloseParen) c.in_ok-expect.ensures.ok.1)
    (rw (two c.args.from) at c.in_ok-argument.ensures.ok)))

pub primary::binary_call-returns-in_err-expect-clause-fault : goal.primary::binary_call-returns-in_err-expect-clause-fault
primary::binary_call-returns-in_err-expect-clause-fault t c =
    handed_on _ _ _ c.from_residual.ensures.1
    (refuse_opened (opens_binary_call c.args.from c.args.function) c.requires.begins c.in_err-expect.field-0.0
    (missing_kind (kinds.Sign signs.OpenParen) c.args.tokens.now (c.args.from + 1) (both expression second_argument) c.in_err-expect.field-0.0
    (omega (arith, c.requires.place)) (short_pair short_expression short_second) c.in_err-expect.ensures.fault))

pub primary::binary_call-returns-in_err-first-clause-fault : goal.primary::binary_call-returns-in_err-first-clause-fault
primary::binary_call-returns-in_err-first-clause-fault t c =
    handed_on _ _ _ c.from_residual-in_err-first.ensures.1
    (refuse_opened (opens_binary_call c.args.from c.args.function) c.requires.begins c.in_err-first.field-0.0
    (missing_ending (ends_behind (kinds.Sign signs.OpenParen) c.args.tokens.now (c.args.from + 1) (both expression second_argument) c.in_ok-expect.ensures.ok.1)
    c.in_err-first.field-0.0
    (missing_closed second_argument second_closes c.args.tokens.now (c.args.from + 1 + 1) c.in_err-first.field-0.0 short_second
    (rw (two c.args.from) at c.in_err-first.ensures.fault))))

pub primary::binary_call-returns-in_err-expect-2-clause-fault : goal.primary::binary_call-returns-in_err-expect-2-clause-fault
primary::binary_call-returns-in_err-expect-2-clause-fault t c =
    handed_on _ _ _ c.from_residual-in_err-expect-2.ensures.1
    (refuse_opened (opens_binary_call c.args.from c.args.function) c.requires.begins c.in_err-expect-2.field-0.0
    (missing_ending (ends_behind (kinds.Sign signs.OpenParen) c.args.tokens.now (c.args.from + 1) (both expression second_argument) c.in_ok-expect.ensures.ok.1)
    c.in_err-expect-2.field-0.0
    (missing_ending (ends_closed second_argument second_closes (rw (two c.args.from) at c.in_ok-first.ensures.ok)) c.in_err-expect-2.field-0.0
    (missing_kind (kinds.Sign signs.Comma) c.args.tokens.now c.in_ok-first.middle (closed signs.CloseParen) c.in_err-expect-2.field-0.0
    c.in_ok-first.ensures.ok.within (short_closed signs.CloseParen) c.in_err-expect-2.ensures.fault))))

pub primary::binary_call-returns-in_err-second-clause-fault : goal.primary::binary_call-returns-in_err-second-clause-fault
primary::binary_call-returns-in_err-second-clause-fault t c =
    handed_on _ _ _ c.from_residual-in_err-second.ensures.1
    (refuse_opened (opens_binary_call c.args.from c.args.function) c.requires.begins c.in_err-second.field-0.0
    (missing_ending (ends_behind (kinds.Sign signs.OpenParen) c.args.tokens.now (c.args.from + 1) (both expression second_argument) c.in_ok-expect.ensures.ok.1)
    c.in_err-second.field-0.0
    (missing_ending (ends_closed second_argument second_closes (rw (two c.args.from) at c.in_ok-first.ensures.ok)) c.in_err-second.field-0.0
    (missing_ending (ends_behind (kinds.Sign signs.Comma) c.args.tokens.now c.in_ok-first.middle (closed signs.CloseParen) c.in_ok-expect-2.ensures.ok.1)
    c.in_err-second.field-0.0 c.in_err-second.ensures.fault))))

pub primary::binary_call-returns-clause-ok : goal.primary::binary_call-returns-clause-ok
primary::binary_call-returns-clause-ok t c =
    rw c.in_ok-tree.ensures (read_opened (opens_binary_call c.args.from c.args.function) c.requires.begins
    (found_ending (ends_behind (kinds.Sign signs.OpenParen) c.args.tokens.now (c.args.from + 1) (both expression second_argument) c.in_ok-expect.ensures.ok.1)
    (found_ending (ends_closed second_argument second_closes (rw (two c.args.from) at c.in_ok-first.ensures.ok))
    (found_ending (ends_behind (kinds.Sign signs.Comma) c.args.tokens.now c.in_ok-first.middle (closed signs.CloseParen) c.in_ok-expect-2.ensures.ok.1)
    c.in_ok-second.ensures.ok))))

pub primary::look-returns-in_err-expect-clause-fault : goal.primary::look-returns-in_err-expect-clause-fault
primary::look-returns-in_err-expect-clause-fault t c =
    handed_on _ _ _ c.from_residual.ensures.1
    (refuse_opened (opens_look c.args.from c.args.word) c.requires.begins c.in_err-expect.field-0.0
    (missing_kind (kinds.Sign signs.OpenParen) c.args.tokens.now (c.args.from + 1) (both identifier (look_rest c.args.word)) c.in_err-expect.field-0.0
    (omega (arith, c.requires.place)) (short_pair short_name (short_look_rest c.args.word)) c.in_err-expect.ensures.fault))

pub primary::look-returns-in_err-name-clause-fault : goal.primary::look-returns-in_err-name-clause-fault
primary::look-returns-in_err-name-clause-fault t c =
    handed_on _ _ _ c.from_residual-in_err-name.ensures.1
    (refuse_opened (opens_look c.args.from c.args.word) c.requires.begins c.in_err-name.field-0.0
    (missing_ending (ends_behind (kinds.Sign signs.OpenParen) c.args.tokens.now (c.args.from + 1) (both identifier (look_rest c.args.word)) c.in_ok-expect.ensures.ok.1)
    c.in_err-name.field-0.0
    (missing_first identifier (look_rest c.args.word) c.args.tokens.now (c.args.from + 1 + 1) c.in_err-name.field-0.0 (short_look_rest c.args.word)
    (rw (two c.args.from) at c.in_err-name.ensures.fault))))

pub primary::look-returns-in_err-args-clause-fault : goal.primary::look-returns-in_err-args-clause-fault
primary::look-returns-in_err-args-clause-fault t c =
    handed_on _ _ _ c.from_residual-in_err-args.ensures.1
    (refuse_opened (opens_look c.args.from c.args.word) c.requires.begins c.in_err-args.field-0.0
    (missing_ending (ends_behind (kinds.Sign signs.OpenParen) c.args.tokens.now (c.args.from + 1) (both identifier (look_rest c.args.word)) c.in_ok-expect.ensures.ok.1)
    c.in_err-args.field-0.0
    (missing_ending (ends_both identifier (look_rest c.args.word) (local_identifier c.in_ok-name.name) (rw (two c.args.from) at c.in_ok-name.ensures.ok))
    c.in_err-args.field-0.0 (rw (three c.args.from) at c.in_err-args.ensures.fault))))

pub primary::look-returns-clause-ok : goal.primary::look-returns-clause-ok
primary::look-returns-clause-ok t c =
    rw c.look.ensures (read_opened (opens_look c.args.from c.args.word) c.requires.begins
    (found_ending (ends_behind (kinds.Sign signs.OpenParen) c.args.tokens.now (c.args.from + 1) (both identifier (look_rest c.args.word)) c.in_ok-expect.ensures.ok.1)
    (found_ending (ends_both identifier (look_rest c.args.word) (local_identifier c.in_ok-name.name) (rw (two c.args.from) at c.in_ok-name.ensures.ok))
    (rw (three c.args.from) at c.in_ok-args.ensures.ok))))

pub primary::named-returns-in_err-name-clause-fault : goal.primary::named-returns-in_err-name-clause-fault
primary::named-returns-in_err-name-clause-fault t c =
    handed_on _ _ _ c.from_residual.ensures.1
    (refuse_name c.args.tokens.now c.args.from c.in_err-name.field-0.0 c.requires.begins c.in_err-name.ensures.fault)

pub primary::named-returns-in_err-index-clause-fault : goal.primary::named-returns-in_err-index-clause-fault
primary::named-returns-in_err-index-clause-fault t c =
    let bracket = c.if-is_sign.ensures.answer.0 refl in
    handed_on _ _ _ c.from_residual-in_err-index.ensures.1
    (refuse_produced (produces_element c.args.tokens.now c.args.from c.in_ok-name.name c.requires.begins c.in_ok-name.ensures.ok bracket) c.in_err-index.field-0.0
    (missing_ending (ends_behind (kinds.Sign signs.OpenBracket) c.args.tokens.now (c.args.from + 1) (closed signs.CloseBracket) bracket)
    c.in_err-index.field-0.0 (rw (two c.args.from) at c.in_err-index.ensures.fault)))

pub primary::named-returns-then-is_sign-clause-ok : goal.primary::named-returns-then-is_sign-clause-ok
primary::named-returns-then-is_sign-clause-ok t c =
    let bracket = c.if-is_sign.ensures.answer.0 refl in
    rw c.in_ok-element.ensures
    (read_produced (produces_element c.args.tokens.now c.args.from c.in_ok-name.name c.requires.begins c.in_ok-name.ensures.ok bracket)
    (λ others there. omega (arith, c.in_ok-index.ensures.ok.advances))
    (found_ending (ends_behind (kinds.Sign signs.OpenBracket) c.args.tokens.now (c.args.from + 1) (closed signs.CloseBracket) bracket)
    (rw (two c.args.from) at c.in_ok-index.ensures.ok)))

pub primary::named-returns-in_err-attribute-clause-fault : goal.primary::named-returns-in_err-attribute-clause-fault
primary::named-returns-in_err-attribute-clause-fault t c =
    let dot = c.if-is_sign-2.ensures.answer.0 refl in
    handed_on _ _ _ c.from_residual-in_err-attribute.ensures.1
    (refuse_produced (produces_named c.args.tokens.now c.args.from c.in_ok-name.name c.requires.begins c.in_ok-name.ensures.ok dot)
    c.in_err-attribute.field-0.0 c.in_err-attribute.ensures.fault)

pub primary::named-returns-then-is_sign-2-clause-ok : goal.primary::named-returns-then-is_sign-2-clause-ok
primary::named-returns-then-is_sign-2-clause-ok t c =
    let end : c.args.from + 3 ≡ c.args.from + 1 + 2 = omega arith in
    let dot = c.if-is_sign-2.ensures.answer.0 refl in
    rw (c.attribute.ensures, end)
    (read_produced (produces_named c.args.tokens.now c.args.from c.in_ok-name.name c.requires.begins c.in_ok-name.ensures.ok dot)
    (λ others there. omega arith) c.in_ok-attribute.ensures.ok)

pub primary::named-returns-clause-ok : goal.primary::named-returns-clause-ok
primary::named-returns-clause-ok t c =
    rw c.variable.ensures (read_variable c.args.tokens.now c.args.from c.in_ok-name.name c.requires.begins c.in_ok-name.ensures.ok
    (λ has. false≢true (c.if-is_sign.ensures.answer.1 has)) (λ has. false≢true (c.if-is_sign-2.ensures.answer.1 has)))

pub primary::primary-returns-in_default-clause-fault : goal.primary::primary-returns-in_default-clause-fault
primary::primary-returns-in_default-clause-fault t c =
    refuse_end c.args.tokens.now c.args.from c.in_default.ensures c.requires.place

pub primary::primary-returns-in-Paren-clause-ok : goal.primary::primary-returns-in-Paren-clause-ok
primary::primary-returns-in-Paren-clause-ok t c =
    let begins = begins_with c.args.tokens.now c.args.from c.in-Some.kind.now openings.Paren c.in-Some.ensures.1 c.in-Paren.ensures c.requires.no_operator in
    IfOk-weaker c.closed.result _ _ (λ read found. read_opened (opens_paren c.args.from) begins found) c.closed.ensures.ok

pub primary::primary-returns-in-Paren-clause-fault : goal.primary::primary-returns-in-Paren-clause-fault
primary::primary-returns-in-Paren-clause-fault t c =
    let begins = begins_with c.args.tokens.now c.args.from c.in-Some.kind.now openings.Paren c.in-Some.ensures.1 c.in-Paren.ensures c.requires.no_operator in
    IfErr-weaker c.closed.result _ _ (λ fault missing. refuse_opened (opens_paren c.args.from) begins fault missing) c.closed.ensures.fault

pub primary::primary-returns-in-Enumerated-clause-ok : goal.primary::primary-returns-in-Enumerated-clause-ok
primary::primary-returns-in-Enumerated-clause-ok t c =
    let begins = begins_with c.args.tokens.now c.args.from c.in-Some.kind.now (openings.Enumerated c.in-Enumerated.value) c.in-Some.ensures.1
    c.in-Enumerated.ensures c.requires.no_operator in
    rw c.enumerated.ensures (read_enumerated c.args.tokens.now c.args.from c.in-Enumerated.value begins c.in-Some.ensures.0)

pub primary::primary-returns-in-Nothing-clause-fault : goal.primary::primary-returns-in-Nothing-clause-fault
primary::primary-returns-in-Nothing-clause-fault t c =
    refuse_nothing c.args.tokens.now c.args.from
    (begins_with c.args.tokens.now c.args.from c.in-Some.kind.now openings.Nothing c.in-Some.ensures.1 c.in-Nothing.ensures c.requires.no_operator)
    c.requires.place
