-- What expressions are at fault for, noted part by part.
use Rattle.std.proofs.Common.{◌≡◌, ℕ, suc, ◌+◌, ◌<◌, ◌≤◌, Bool, ◌&&◌, List, [], ◌∷◌, ◌++◌, map, drop, length, get_or}
use Rattle.std.proofs.Common.{Option, refl, sym, ap, ◌∙◌, append_assoc, if◌then◌else◌}
use Rattle.std.proofs.lemmas.List.{drop-drop, length-map}
use Rattle.px_value.proofs.General.{cut_at}
use Rattle.px_syntax.specs.Expr.{Term, Terms, term_of, in_turn, More}
use Rattle.px_syntax.specs.ExprFaults.{first_token, count_terms, look_faults, any_where_faulty, any_unless_allowed, answer_type, type_of, expr_faults, type_fault, faults_as, alike_fault, argument_faults, parameters_of}
use Rattle.px_syntax.specs.Fault.{Fault, fault_where}
use Rattle.px_syntax.specs.Scope.{Scope, Global}
use Rattle.px_syntax.specs.ValueType.{Signature, differ}
use Rattle.px_syntax.specs.declared.expr.Identifier.{Identifier}
use Rattle.px_syntax.specs.declared.expr.SurfaceExpr.{SurfaceExpr}
use Rattle.px_syntax.specs.declared.expr.Tolerance.{Tolerance}
use Rattle.px_syntax.specs.declared.fault.FaultKind.TheVariants.{TypeDiffers}
use Rattle.px_syntax.specs.declared.value_type.ValueType.{ValueType}
use Rattle.px_syntax.specs.declared.value_type.ValueType.TheVariants.{Any}
use Rattle.px_check.specs.Arguments.{allowed_next}
use Rattle.px_check.specs.Found.{Sought, noted}
use Rattle.px_check.proofs.Noting.{noted_append, noted_then}
use Rattle.px_check.proofs.Walking.{all_walked}

-- an operand
pub operand_noted : (allowed given_allowed : List ValueType) (scope : Scope) (tree part : SurfaceExpr)
    (found new : Sought) → part ≡ tree → given_allowed ≡ allowed
    → new ≡ noted found (faults_as given_allowed scope (term_of part))
    → new ≡ noted found (faults_as allowed scope (term_of tree))
operand_noted allowed given_allowed scope tree part found new part_is allowed_is own =
    own ∙ (λ i. noted found (faults_as (allowed_is i) scope (term_of (part_is i))))

-- an operand behind what stands before it
pub operand_then : (allowed : List ValueType) (scope : Scope) (term : Term) (before : List Fault)
    (found between new : Sought) → between ≡ noted found before → new ≡ noted between (faults_as allowed scope term)
    → new ≡ noted found (before ++ expr_faults scope term ++ type_fault allowed scope term)
operand_then allowed scope term before found between new first second =
    noted_then found between new before (faults_as allowed scope term) first second
    ∙ ap (noted found) (sym (append_assoc before (expr_faults scope term) (type_fault allowed scope term)))

-- two operands that have to be of one type
pub alike_noted : (known given : Signature) (scope : Scope) (left left_part right right_part shown : SurfaceExpr)
    (left_given right_given : ValueType) (found new : Sought)
    → given ≡ known → left_part ≡ left → right_part ≡ right → shown ≡ right
    → left_given ≡ type_of scope (term_of left_part) → right_given ≡ type_of scope (term_of right_part)
    → new ≡ noted found (fault_where
    (given.alike && differ (any_unless_allowed given.takes left_given) (any_unless_allowed given.takes right_given))
    TypeDiffers (first_token (term_of shown)))
    → new ≡ noted found (alike_fault known scope (term_of left) (term_of right))
alike_noted known given scope left left_part right right_part shown left_given right_given found new known_is left_is right_is shown_is left_type right_type own =
    let left_as = left_type ∙ ap (λ tree. type_of scope (term_of tree)) left_is in
    let right_as = right_type ∙ ap (λ tree. type_of scope (term_of tree)) right_is in
    own ∙ (λ i. noted found (fault_where
    ((known_is i).alike && differ (any_unless_allowed (known_is i).takes (left_as i))
    (any_unless_allowed (known_is i).takes (right_as i)))
    TypeDiffers (first_token (term_of (shown_is i)))))

-- ---- arguments

count_in_turn : (terms : List Term) → count_terms (in_turn terms) ≡ length terms
count_in_turn [] = refl
count_in_turn (term ∷ terms) = ap suc (count_in_turn terms)

pub counted_args : (args : List SurfaceExpr) (count : ℕ) → count ≡ length args
    → count ≡ count_terms (in_turn (map term_of args))
counted_args args count is = is ∙ sym (length-map args term_of) ∙ sym (count_in_turn (map term_of args))

argument_step : (scope : Scope) (parameters : List ValueType) (first : Term) (rest : Terms)
    → argument_faults scope parameters (More first rest)
    ≡ expr_faults scope first ++ type_fault (allowed_next parameters) scope first
    ++ argument_faults scope (drop 1 parameters) rest
argument_step scope [] first rest = refl
argument_step scope (parameter ∷ parameters) first rest = refl

-- an argument more
pub argument_noted : (scope : Scope) (args : List SurfaceExpr) (parameters : List ValueType) (place : ℕ) (arg : SurfaceExpr)
    (allowed : List ValueType) (found new : Sought)
    → place < length args → arg ≡ get_or args place arg → allowed ≡ allowed_next (drop place parameters)
    → new ≡ noted found (faults_as allowed scope (term_of arg))
    → noted new (argument_faults scope (drop (place + 1) parameters) (in_turn (map term_of (drop (place + 1) args))))
    ≡ noted found (argument_faults scope (drop place parameters) (in_turn (map term_of (drop place args))))
argument_noted scope args parameters place arg allowed found new within arg_is allowed_is own =
    let next = drop place parameters in
    let rest = drop (place + 1) args in
    let cut : drop place args ≡ arg ∷ rest =
    cut_at args place arg within arg_is in
    let further : drop (place + 1) parameters ≡ drop 1 next = sym (drop-drop 1 place parameters) in
    let typed = operand_noted (allowed_next next) allowed scope arg arg found new refl allowed_is own in
    (λ i. noted (typed i) (argument_faults scope (further i) (in_turn (map term_of rest))))
    ∙ sym (noted_append found (faults_as (allowed_next next) scope (term_of arg))
    (argument_faults scope (drop 1 next) (in_turn (map term_of rest))))
    ∙ ap (noted found) (sym (argument_step scope next (term_of arg) (in_turn (map term_of rest))))
    ∙ ap (λ left. noted found (argument_faults scope next (in_turn (map term_of left)))) (sym cut)

-- no arguments are left
pub arguments_done : (scope : Scope) (args : List SurfaceExpr) (parameters : List ValueType) (place : ℕ)
    (found : Sought) → length args ≤ place
    → found ≡ noted found (argument_faults scope (drop place parameters) (in_turn (map term_of (drop place args))))
arguments_done scope args parameters place found past =
    all_walked (λ (left : List SurfaceExpr). argument_faults scope (drop place parameters) (in_turn (map term_of left))) args place found refl past

-- ---- calls and lookups

-- what a call is at fault for by itself, and its arguments
pub call_noted : (own : Option Global → ℕ → List Fault) (scope : Scope) (args items : List SurfaceExpr)
    (declared known : Option Global) (parameters : List ValueType) (count : ℕ) (found between new : Sought)
    → known ≡ declared → count ≡ length args → items ≡ args → parameters ≡ parameters_of known
    → between ≡ noted found (own known count)
    → new ≡ noted between (argument_faults scope parameters (in_turn (map term_of items)))
    → new ≡ noted found (own declared (count_terms (in_turn (map term_of args)))
    ++ argument_faults scope (parameters_of declared) (in_turn (map term_of args)))
call_noted own scope args items declared known parameters count found between new known_is count_is items_is parameters_is first second =
    let counted = counted_args args count count_is in
    let types = parameters_is ∙ ap parameters_of known_is in
    noted_then found between new (own declared (count_terms (in_turn (map term_of args))))
    (argument_faults scope (parameters_of declared) (in_turn (map term_of args)))
    (first ∙ (λ i. noted found (own (known_is i) (counted i))))
    (second ∙ (λ i. noted between (argument_faults scope (types i) (in_turn (map term_of (items_is i))))))

pub look_type : (name : Identifier) (args : List SurfaceExpr) (declared known : Option Global) (count : ℕ) (tolerance : Option Tolerance)
    (is_right : Bool) (given : ValueType) → known ≡ declared → count ≡ length args
    → ((own : ValueType) → any_where_faulty (look_faults known name count tolerance) own ≡ (if is_right then own else Any))
    → given ≡ (if is_right then answer_type known else Any)
    → given ≡ any_where_faulty (look_faults declared name (count_terms (in_turn (map term_of args))) tolerance) (answer_type declared)
look_type name args declared known count tolerance is_right given known_is count_is right given_is =
    let counted = counted_args args count count_is in
    given_is ∙ sym (right (answer_type known))
    ∙ (λ i. any_where_faulty (look_faults (known_is i) name (counted i) tolerance) (answer_type (known_is i)))
