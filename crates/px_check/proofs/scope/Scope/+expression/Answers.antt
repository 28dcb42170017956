use Rattle.std.proofs.Common.{◌≡◌, length, ap, sym, ◌∙◌, refl, rules, option_map, [], ◌∷◌, if◌then◌else◌}
use Rattle.px_syntax.specs.Expr.{Term, term_of}
use Rattle.px_syntax.specs.ExprFaults.{expr_faults, look_faults, type_of, answer_type}
use Rattle.px_syntax.specs.Scope.{parameter_types}
use Rattle.px_syntax.specs.ValueType.{Signature, UnarySignature, binary_signature, binary_function_signature}
use Rattle.px_syntax.specs.declared.value_type.ValueType.TheVariants.{Integer, Any}
use Rattle.px_check.specs.Found.{noted}
use Rattle.px_check.specs.Globals.{callable_data}
use Rattle.px_check.proofs.Judging.{operand_noted, operand_then, alike_noted, argument_noted, arguments_done, call_noted, look_type}
use Rattle.px_check.proofs.Noting.{noted_then, noted_none}
use Rattle.px_check.proofs.Terms as terms
use Rattle.px_check.proofs.scope.Scope.+expression.Goals as goal

pub arguments-loop-place-preserved : goal.arguments-loop-place-preserved
arguments-loop-place-preserved t c =
    argument_noted c.args.self.now c.args.args.now (parameter_types c.args.parameters.now) c.loop-place.place
    c.index-args-place.result _ _ _ c.loop-place-test.true c.index-args-place.is c.allowed_at.ensures
    c.operand.ensures.found
    ∙ c.loop-place.invariant

pub arguments-returns : goal.arguments-returns
arguments-returns t c =
    arguments_done c.args.self.now c.args.args.now (parameter_types c.args.parameters.now) c.loop-place.place
    c.loop-place.found c.loop-place-test.false
    ∙ c.loop-place.invariant

pub type_of-returns-in-Literal-clause-found : goal.type_of-returns-in-Literal-clause-found
type_of-returns-in-Literal-clause-found t c =
    sym (noted_none c.args.found.now)
    ∙ ap (λ (term : Term). noted c.args.found.now (expr_faults c.args.self.now term)) (sym (ap term_of c.in-Literal.is ∙ terms.literal c.in-Literal.value c.in-Literal.token))

pub type_of-returns-in-Enumerated-clause-found : goal.type_of-returns-in-Enumerated-clause-found
type_of-returns-in-Enumerated-clause-found t c =
    sym (noted_none c.args.found.now)
    ∙ ap (λ (term : Term). noted c.args.found.now (expr_faults c.args.self.now term)) (sym (ap term_of c.in-Enumerated.is ∙ terms.enumerated c.in-Enumerated.value c.in-Enumerated.token))

pub type_of-returns-in-Element-clause-found : goal.type_of-returns-in-Element-clause-found
type_of-returns-in-Element-clause-found t c =
    operand_then (Integer ∷ []) c.args.self.now (term_of c.in-Element.index.value) _ _ _ _ c.named-of_type.ensures.found
    (operand_noted (Integer ∷ []) _ c.args.self.now c.in-Element.index.value _ _ _ c.deref.ensures refl
    c.operand.ensures.found)
    ∙ ap (λ (term : Term). noted c.args.found.now (expr_faults c.args.self.now term)) (sym (ap term_of c.in-Element.is ∙ terms.element c.in-Element.array c.in-Element.index))

pub type_of-returns-then-is_right-clause-of_type : goal.type_of-returns-then-is_right-clause-of_type
type_of-returns-then-is_right-clause-of_type t c =
    let count : c.len.result ≡ length c.in-Look.args.items = search rules in
    look_type c.in-Look.name c.in-Look.args.items _ _ c.len.result c.in-Look.tolerance c.note_look-is_right.result _ c.lookup-callable.ensures
    count c.note_look-is_right.ensures.right
    (c.answer_type.ensures ∙ ap (λ right. if right then answer_type (option_map callable_data c.lookup-callable.result) else Any) (sym c.if-is_right.true))
    ∙ ap (λ (term : Term). type_of c.args.self.now term) (sym (ap term_of c.in-Look.is ∙ terms.look c.in-Look.word c.in-Look.token c.in-Look.name c.in-Look.args c.in-Look.tolerance))

pub type_of-returns-then-is_right-clause-found : goal.type_of-returns-then-is_right-clause-found
type_of-returns-then-is_right-clause-found t c =
    let count : c.len.result ≡ length c.in-Look.args.items = search rules in
    call_noted (λ known count. look_faults known c.in-Look.name count c.in-Look.tolerance) c.args.self.now c.in-Look.args.items _ _ _ _ _ _ _ _ c.lookup-callable.ensures count
    c.deref-in-Look.ensures.value c.parameters_of.ensures c.note_look-is_right.ensures.found c.arguments.ensures
    ∙ ap (λ (term : Term). noted c.args.found.now (expr_faults c.args.self.now term)) (sym (ap term_of c.in-Look.is ∙ terms.look c.in-Look.word c.in-Look.token c.in-Look.name c.in-Look.args c.in-Look.tolerance))

pub type_of-returns-else-is_right-clause-of_type : goal.type_of-returns-else-is_right-clause-of_type
type_of-returns-else-is_right-clause-of_type t c =
    let count : c.len.result ≡ length c.in-Look.args.items = search rules in
    look_type c.in-Look.name c.in-Look.args.items _ _ c.len.result c.in-Look.tolerance c.note_look-is_right.result _ c.lookup-callable.ensures
    count c.note_look-is_right.ensures.right
    (ap (λ right. if right then answer_type (option_map callable_data c.lookup-callable.result) else Any) (sym c.if-is_right.false))
    ∙ ap (λ (term : Term). type_of c.args.self.now term) (sym (ap term_of c.in-Look.is ∙ terms.look c.in-Look.word c.in-Look.token c.in-Look.name c.in-Look.args c.in-Look.tolerance))

pub type_of-returns-else-is_right-clause-found : goal.type_of-returns-else-is_right-clause-found
type_of-returns-else-is_right-clause-found t c =
    let count : c.len.result ≡ length c.in-Look.args.items = search rules in
    call_noted (λ known count. look_faults known c.in-Look.name count c.in-Look.tolerance) c.args.self.now c.in-Look.args.items _ _ _ _ _ _ _ _ c.lookup-callable.ensures count
    c.deref-in-Look.ensures.value c.parameters_of.ensures c.note_look-is_right.ensures.found c.arguments.ensures
    ∙ ap (λ (term : Term). noted c.args.found.now (expr_faults c.args.self.now term)) (sym (ap term_of c.in-Look.is ∙ terms.look c.in-Look.word c.in-Look.token c.in-Look.name c.in-Look.args c.in-Look.tolerance))

pub type_of-returns-in-UnaryCall-clause-found : goal.type_of-returns-in-UnaryCall-clause-found
type_of-returns-in-UnaryCall-clause-found t c =
    operand_noted _ _ c.args.self.now c.in-UnaryCall.argument.value _ _ _ c.deref-in-UnaryCall.ensures
    (ap (λ (known : UnarySignature). known.takes) c.unary_function_signature-signature.ensures)
    c.operand-in-UnaryCall.ensures.found
    ∙ ap (λ (term : Term). noted c.args.found.now (expr_faults c.args.self.now term)) (sym (ap term_of c.in-UnaryCall.is ∙ terms.unary_call c.in-UnaryCall.function c.in-UnaryCall.token c.in-UnaryCall.argument))

pub type_of-returns-in-Unary-clause-found : goal.type_of-returns-in-Unary-clause-found
type_of-returns-in-Unary-clause-found t c =
    operand_noted _ _ c.args.self.now c.in-Unary.operand.value _ _ _ c.deref-in-Unary.ensures
    (ap (λ (known : UnarySignature). known.takes) c.unary_signature-signature.ensures)
    c.operand-in-Unary.ensures.found
    ∙ ap (λ (term : Term). noted c.args.found.now (expr_faults c.args.self.now term)) (sym (ap term_of c.in-Unary.is ∙ terms.unary c.in-Unary.operator c.in-Unary.token c.in-Unary.operand))

pub type_of-returns-in-BinaryCall-clause-found : goal.type_of-returns-in-BinaryCall-clause-found
type_of-returns-in-BinaryCall-clause-found t c =
    let takes = ap (λ (known : Signature). known.takes) c.binary_function_signature-signature.ensures in
    operand_then (binary_function_signature c.in-BinaryCall.function).takes c.args.self.now (term_of c.in-BinaryCall.second.value) _ _ _ _
    (operand_noted _ _ c.args.self.now c.in-BinaryCall.first.value _ _ _ c.deref-in-BinaryCall.ensures takes
    c.operand-first_given.ensures.found)
    (operand_noted _ _ c.args.self.now c.in-BinaryCall.second.value _ _ _ c.deref-in-BinaryCall-2.ensures takes
    c.operand-second_given.ensures.found)
    ∙ ap (λ (term : Term). noted c.args.found.now (expr_faults c.args.self.now term)) (sym (ap term_of c.in-BinaryCall.is ∙ terms.binary_call c.in-BinaryCall.function c.in-BinaryCall.token c.in-BinaryCall.first c.in-BinaryCall.second))

pub type_of-returns-in-Binary-clause-found : goal.type_of-returns-in-Binary-clause-found
type_of-returns-in-Binary-clause-found t c =
    let takes = ap (λ (known : Signature). known.takes) c.binary_signature-signature.ensures in
    noted_then _ _ _ _ _
    (operand_then (binary_signature c.in-Binary.operator).takes c.args.self.now (term_of c.in-Binary.right.value) _ _ _ _
    (operand_noted _ _ c.args.self.now c.in-Binary.left.value _ _ _ c.deref-in-Binary.ensures takes
    c.operand-left_given.ensures.found)
    (operand_noted _ _ c.args.self.now c.in-Binary.right.value _ _ _ c.deref-in-Binary-2.ensures takes
    c.operand-right_given.ensures.found))
    (alike_noted _ _ c.args.self.now c.in-Binary.left.value _ c.in-Binary.right.value _ _ _ _ _ _ c.binary_signature-signature.ensures
    c.deref-in-Binary.ensures c.deref-in-Binary-2.ensures c.deref-in-Binary-3.ensures c.operand-left_given.ensures.of_type
    c.operand-right_given.ensures.of_type c.judge_alike.ensures)
    ∙ ap (λ (term : Term). noted c.args.found.now (expr_faults c.args.self.now term)) (sym (ap term_of c.in-Binary.is ∙ terms.binary c.in-Binary.operator c.in-Binary.left c.in-Binary.right))
