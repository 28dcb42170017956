-- What expressions, targets and items of a tree without faults speak of is there in its core plan.
use Rattle.std.proofs.Common.{◌≡◌, ℕ, Bool, true, false, not, List, [], ◌∷◌, ◌++◌, map, Option, Some, None, refl, ap, ◌∙◌, subst, length}
use Rattle.std.specs.Prelude.{if◌then◌else◌}
use Rattle.std.specs.List.{list_any, list_all, flat_map}
use denote.Enum.Bare.{sameb}
use Rattle.std.proofs.lemmas.Bool.{and_from, not-false, cond_both}
use Rattle.std.proofs.lemmas.List.Folds.{list_all-append, list_all-map}
use Rattle.px_value.proofs.General.{neither}
use Rattle.px_syntax.specs.contracts.word.Condition.{the_type as condition_type}
use Rattle.px_syntax.specs.declared.expr.Attribute.{Attribute as AttributeWord}
use Rattle.px_syntax.specs.declared.expr.Attribute.TheVariants as attributes
use Rattle.px_syntax.specs.declared.expr.Identifier.{Identifier}
use Rattle.px_syntax.specs.declared.expr.NodeReference.{NodeReference}
use Rattle.px_syntax.specs.declared.fault.FaultKind.{FaultKind}
use Rattle.px_syntax.specs.declared.fault.FaultKind.TheVariants.{Undeclared, TypeDiffers, NotAssignable, NoSuchNode}
use Rattle.px_syntax.specs.declared.value_type.ValueType.{ValueType}
use Rattle.px_syntax.specs.declared.value_type.ValueType.TheVariants.{Boolean, Integer}
use Rattle.px_syntax.specs.declared.word.Condition.{Condition}
use Rattle.px_syntax.specs.declared.word.Condition.TheVariants as which
use Rattle.px_syntax.specs.Block.{ItemData, Variables, Conditions, Priority, TargetData, CallData, PairData, Assign, CallInto, Call, Update}
use Rattle.px_syntax.specs.BlockFaults.{target_faults, target_types, assign_faults, call_faults, call_into_faults, update_faults, result_fault, item_faults}
use Rattle.px_syntax.specs.Expr as expr
use Rattle.px_syntax.specs.ExprFaults.{name_faults, is_misused, attribute_faults, over_eight, count_faults, look_faults, count_terms, parameters_of, expr_faults, argument_faults, type_fault, alike_fault, faults_as}
use Rattle.px_syntax.specs.Scope as seen
use Rattle.px_syntax.specs.Scope.{Visible, Head, variable_named, declared, reference_token}
use Rattle.px_syntax.specs.ValueType.{told_types, allowed_as, binary_signature, binary_function_signature, unary_signature, unary_function_signature}
use Rattle.px_core.specs.Expr.{Term, in_turn}
use Rattle.px_core.specs.Fit.{Scalar, Array, declares_in, is_there, has_site, references, references_of_each, references_of_target, targets_of}
use Rattle.px_core.specs.Plan as plan
use Rattle.px_core.specs.Plan.{BodyData, Site, is_same}
use Rattle.px_scope.specs.Items.{given_for}
use Rattle.px_expand.specs.Items.{given_by}
use Rattle.px_scope.specs.Actions.{body_of, target_of, pair_of}
use Rattle.px_scope.specs.Resolving.{resolved, resolved_each, attribute_term, binary_op, binary_function_op}
use Rattle.px_scope.specs.Scope.{Scope, owner_of, path_meant}
use Rattle.px_expand.proofs.Faultless.{all_pass, fault_some, where_none}
use Rattle.px_expand.proofs.Seen.{HasHead, HasVariable, IsSeen, meant_there, owner_there}
use Rattle.px_expand.proofs.Speaking.{speaks, both_speak, each_speaks, MaySpeak, GivenSpeaks, BodySpeaks}
use Rattle.px_expand.proofs.Within.{site_weaker}

not_misused : (is_array has_index : Bool) → (if is_array then not has_index else has_index) ≡ false → is_array ≡ has_index
not_misused true true right = refl
not_misused true false right = cc
not_misused false true right = cc
not_misused false false right = refl

-- the variable that a name without fault means
record NameMeans (outer : seen.Scope) (name : Identifier) (has_index : Bool) : Type 0 where
  pub variable : Visible
  pub is : variable_named outer name.name ≡ Some variable
  pub used : variable.is_array ≡ has_index

name_means : (misuse : FaultKind) (outer : seen.Scope) (name : Identifier) (has_index : Bool) (found : Option Visible)
    → variable_named outer name.name ≡ found → name_faults misuse outer name has_index ≡ [] → NameMeans outer name has_index
name_means misuse outer name has_index None is none = absurd (fault_some Undeclared name.token (rw is at none))
name_means misuse outer name has_index (Some variable) is none = record {
  variable = variable;
  is = is;
  used =
      not_misused variable.is_array has_index
      (where_none (is_misused variable has_index) misuse name.token (rw is at none));
}

node_meant : (outer : seen.Scope) (node : NodeReference) (attribute : AttributeWord) (found : Option Head)
    → seen.meant outer node ≡ found → attribute_faults outer node attribute ≡ []
    → (head : Head) × (seen.meant outer node ≡ Some head)
node_meant outer node attribute None is none = absurd (fault_some NoSuchNode (reference_token node) (rw is at none))
node_meant outer node attribute (Some head) is none = (head, is)

command_meant : (outer : seen.Scope) (node : NodeReference) (head : Head) → seen.meant outer node ≡ Some head
    → attribute_faults outer node attributes.CommandHandle ≡ [] → head.is_command ≡ true
command_meant outer node head is none =
    not-false head.is_command (where_none (not head.is_command) NoSuchNode (reference_token node) (rw is at none))

-- what terms in turn speak of is what each of them does
each_reference : (terms : List Term) → references_of_each (in_turn terms) ≡ flat_map references terms
each_reference [] = refl
each_reference (term ∷ terms) = ap (λ rest. references term ++ rest) (each_reference terms)

module _ (whole : List Site) where
  pub variable_is : (owner name : List ℕ) (as_array : Bool) → HasVariable whole owner name as_array
      → has_site (λ site. true) owner whole ≡ true
  variable_is owner name as_array =
      site_weaker (λ site. declares_in as_array name site.head.variables) (λ site. true) (λ site passes. refl) owner whole

  pub scalar_is : (owner name : List ℕ) → HasVariable whole owner name false → is_there whole (Scalar owner name) ≡ true
  scalar_is owner name has = and_from _ _ (variable_is owner name false has) has

  array_is : (owner name : List ℕ) → HasVariable whole owner name true → is_there whole (Array owner name) ≡ true
  array_is owner name has = and_from _ _ (variable_is owner name true has) has

  in_turn_speak : (terms : List Term) → list_all (speaks (is_there whole)) terms ≡ true
      → list_all (is_there whole) (references_of_each (in_turn terms)) ≡ true
  in_turn_speak terms all = ap (list_all (is_there whole)) (each_reference terms) ∙ each_speaks (is_there whole) terms all

  module _ (above : List (List ℕ)) (outer : seen.Scope) (scope : Scope) (all : IsSeen whole above outer scope) where
    -- ---- expressions

    named_variable : (misuse : FaultKind) (name : Identifier) (has_index : Bool)
        → name_faults misuse outer name has_index ≡ []
        → HasVariable whole (owner_of scope name.name) name.name has_index
        × (list_any (is_same (owner_of scope name.name)) above ≡ true)
    named_variable misuse name has_index none =
        let means = name_means misuse outer name has_index (variable_named outer name.name) refl none in
        let own = owner_there whole above name.name means.variable outer scope all means.is in
        (subst (λ as_array. HasVariable whole (owner_of scope name.name) name.name as_array) means.used own.0, own.1)

    attribute_there : (node : NodeReference) (attribute : AttributeWord) → attribute_faults outer node attribute ≡ []
        → speaks (is_there whole) (attribute_term attribute (path_meant scope node)) ≡ true
    attribute_there node attribute none =
        let meaning = node_meant outer node attribute (seen.meant outer node) refl none in
        of_word attribute meaning.0 meaning.1 none (meant_there whole outer scope all.nodes node meaning.0 meaning.1)
      where
        of_word : (attribute : AttributeWord) (head : Head) → seen.meant outer node ≡ Some head
            → attribute_faults outer node attribute ≡ [] → HasHead whole (path_meant scope node) head
            → speaks (is_there whole) (attribute_term attribute (path_meant scope node)) ≡ true
        of_word attributes.State head is none has = and_from _ _ (and_from _ _ has.node refl) refl
        of_word attributes.Outcome head is none has = and_from _ _ (and_from _ _ has.node refl) refl
        of_word attributes.Failure head is none has = and_from _ _ (and_from _ _ has.node refl) refl
        of_word attributes.CommandHandle head is none has =
            and_from _ _ (and_from _ _ (has.command (command_meant outer node head is none)) refl) refl

    mutual
      pub term_there : (term : expr.Term) → expr_faults outer term ≡ [] → speaks (is_there whole) (resolved scope term) ≡ true
      term_there (expr.Literal value token) none = refl
      term_there (expr.Enumerated value token) none = refl
      term_there (expr.Variable name) none =
          and_from _ _ (scalar_is (owner_of scope name.name) name.name (named_variable TypeDiffers name false none).0) refl
      term_there (expr.Element array index) none =
          let parts = neither (name_faults TypeDiffers outer array true ++ expr_faults outer index)
          (type_fault (Integer ∷ []) outer index) none in
          let own = neither (name_faults TypeDiffers outer array true) (expr_faults outer index) parts.0 in
          and_from _ _ (array_is (owner_of scope array.name) array.name (named_variable TypeDiffers array true own.0).0)
          (term_there index own.1)
      term_there (expr.Attribute node attribute) none = attribute_there node attribute none
      term_there (expr.Look word token name args tolerance) none =
          let parts = neither (look_faults (declared outer.lookups name.name) name (count_terms args) tolerance)
          (argument_faults outer (parameters_of (declared outer.lookups name.name)) args) none in
          in_turn_speak (resolved_each scope args)
          (terms_there (parameters_of (declared outer.lookups name.name)) args parts.1)
      term_there (expr.UnaryCall function token argument) none =
          term_there argument
          (neither (expr_faults outer argument) (type_fault (unary_function_signature function).takes outer argument) none).0
      term_there (expr.BinaryCall function token first second) none =
          let takes = (binary_function_signature function).takes in
          let one = expr_faults outer first in let two = type_fault takes outer first in
          let third = neither (one ++ two ++ expr_faults outer second) (type_fault takes outer second) none in
          let parts = neither (one ++ two) (expr_faults outer second) third.0 in
          both_speak (is_there whole) (binary_function_op function) (resolved scope first) (resolved scope second)
          (term_there first (neither one two parts.0).0) (term_there second parts.1)
      term_there (expr.Unary operator token operand) none =
          term_there operand (neither (expr_faults outer operand) (type_fault (unary_signature operator).takes outer operand) none).0
      term_there (expr.Binary operator left right) none =
          let takes = (binary_signature operator).takes in
          let one = expr_faults outer left in let two = type_fault takes outer left in
          let fourth = neither (one ++ two ++ expr_faults outer right ++ type_fault takes outer right)
          (alike_fault (binary_signature operator) outer left right) none in
          let third = neither (one ++ two ++ expr_faults outer right) (type_fault takes outer right) fourth.0 in
          let parts = neither (one ++ two) (expr_faults outer right) third.0 in
          both_speak (is_there whole) (binary_op operator) (resolved scope left) (resolved scope right)
          (term_there left (neither one two parts.0).0) (term_there right parts.1)

      pub terms_there : (parameters : List ValueType) (terms : expr.Terms) → argument_faults outer parameters terms ≡ []
          → list_all (speaks (is_there whole)) (resolved_each scope terms) ≡ true
      terms_there parameters expr.NoTerms none = refl
      terms_there [] (expr.More first rest) none =
          let parts = neither (expr_faults outer first ++ type_fault told_types outer first) (argument_faults outer [] rest) none in
          and_from _ _ (term_there first (neither (expr_faults outer first) (type_fault told_types outer first) parts.0).0)
          (terms_there [] rest parts.1)
      terms_there (parameter ∷ parameters) (expr.More first rest) none =
          let parts = neither (expr_faults outer first ++ type_fault (allowed_as parameter) outer first)
          (argument_faults outer parameters rest) none in
          and_from _ _
          (term_there first (neither (expr_faults outer first) (type_fault (allowed_as parameter) outer first) parts.0).0)
          (terms_there parameters rest parts.1)

    pub judged_there : (allowed : List ValueType) (term : expr.Term) → faults_as allowed outer term ≡ []
        → speaks (is_there whole) (resolved scope term) ≡ true
    judged_there allowed term none = term_there term (neither (expr_faults outer term) (type_fault allowed outer term) none).0

    -- ---- items

    given_there : (condition : Condition) (items : List ItemData) → flat_map (item_faults outer) items ≡ []
        → MaySpeak (is_there whole) (given_for scope condition items)
    given_there condition [] none = tt
    given_there condition (Conditions given token test ∷ items) none =
        let parts = neither (faults_as (Boolean ∷ []) outer test) (flat_map (item_faults outer) items) none in
        cond_both (sameb condition_type given condition) (Some (resolved scope test)) (given_for scope condition items)
        (MaySpeak (is_there whole)) (λ same. judged_there (Boolean ∷ []) test parts.0)
        (λ other. given_there condition items parts.1)
    given_there condition (Variables of_type variables ∷ items) none =
        given_there condition items (neither (item_faults outer (Variables of_type variables)) _ none).1
    given_there condition (Priority token priority ∷ items) none =
        given_there condition items (neither (item_faults outer (Priority token priority)) _ none).1

    pub items_there : (items : List ItemData) → flat_map (item_faults outer) items ≡ []
        → GivenSpeaks (is_there whole) (given_by scope items)
    items_there items none = record {
      start = given_there which.Start items none;
      end = given_there which.End items none;
      exit = given_there which.Exit items none;
      skip = given_there which.Skip items none;
      repeat = given_there which.Repeat items none;
      pre = given_there which.Pre items none;
      post = given_there which.Post items none;
      invariant = given_there which.Invariant items none;
    }

    -- ---- simple actions

    -- what a body speaks of is there, and the owners of its targets stand above
    pub record BodyThere (body : BodyData) : Type 0 where
      pub said : BodySpeaks (is_there whole) body
      pub owns : list_all (λ target. list_any (is_same target.owner) above) (targets_of body) ≡ true

    record TargetThere (target : plan.TargetData) : Type 0 where
      pub said : list_all (is_there whole) (references_of_target target) ≡ true
      pub owns : list_any (is_same target.owner) above ≡ true

    target_there : (name : Identifier) (index : Option expr.Term)
        → target_faults outer (record { name = name; index = index }) ≡ []
        → TargetThere (target_of scope (record { name = name; index = index }))
    target_there name None none =
        let own = named_variable NotAssignable name false (neither (name_faults NotAssignable outer name false) [] none).0 in
        record { said = and_from _ _ (scalar_is (owner_of scope name.name) name.name own.0) refl; owns = own.1 }
    target_there name (Some index) none =
        let parts = neither (name_faults NotAssignable outer name true) (faults_as (Integer ∷ []) outer index) none in
        let own = named_variable NotAssignable name true parts.0 in
        record {
          said =
              and_from _ _ (array_is (owner_of scope name.name) name.name own.0) (judged_there (Integer ∷ []) index parts.1);
          owns = own.1;
        }

    one_target : (target : plan.TargetData) → TargetThere target
        → list_all (is_there whole) (flat_map references_of_target (target ∷ [])) ≡ true
    one_target target own = list_all-append (is_there whole) (references_of_target target) [] ∙ and_from _ _ own.said refl

    pairs_there : (pairs : List PairData) → flat_map (λ pair. faults_as told_types outer pair.value) pairs ≡ []
        → list_all (speaks (is_there whole)) (map (λ pair. pair.value) (map (pair_of scope) pairs)) ≡ true
    pairs_there pairs none =
        list_all-map (speaks (is_there whole)) (λ (pair : plan.PairData). pair.value) (map (pair_of scope) pairs)
        ∙ all_pass (λ (pair : PairData). faults_as told_types outer pair.value) (pair_of scope)
        (λ (pair : plan.PairData). speaks (is_there whole) pair.value) (λ pair. judged_there told_types pair.value) pairs none

    call_there : (call : CallData) → call_faults outer call ≡ []
        → list_all (speaks (is_there whole)) (resolved_each scope call.args) ≡ true
    call_there call none =
        let command = declared outer.commands call.name.name in
        terms_there (parameters_of command) call.args
        (neither (count_faults command call.name (count_terms call.args))
        (argument_faults outer (parameters_of command) call.args) none).1

    pub assign_there : (target : TargetData) (value : expr.Term) → assign_faults outer target value ≡ []
        → BodyThere (body_of scope (Assign target value))
    assign_there target value none =
        let parts = neither (target_faults outer target) (faults_as (target_types outer target) outer value) none in
        let own = target_there target.name target.index parts.0 in
        record {
          said = record {
            terms = and_from _ _ (judged_there (target_types outer target) value parts.1) refl;
            targets = one_target (target_of scope target) own;
          };
          owns = and_from _ _ own.owns refl;
        }

    pub call_into_there : (target : TargetData) (call : CallData) → call_into_faults outer target call ≡ []
        → BodyThere (body_of scope (CallInto target call))
    call_into_there target call none =
        let parts = neither (target_faults outer target ++ result_fault outer target call) (call_faults outer call) none in
        let own = target_there target.name target.index
        (neither (target_faults outer target) (result_fault outer target call) parts.0).0 in
        record {
          said = record { terms = call_there call parts.1; targets = one_target (target_of scope target) own };
          owns = and_from _ _ own.owns refl;
        }

    pub call_alone_there : (call : CallData) → call_faults outer call ≡ [] → BodyThere (body_of scope (Call call))
    call_alone_there call none =
        record { said = record { terms = call_there call none; targets = refl }; owns = refl }

    pub update_there : (token : ℕ) (pairs : List PairData) → update_faults outer token pairs ≡ []
        → BodyThere (body_of scope (Update token pairs))
    update_there token pairs none = record {
      said = record {
        terms = pairs_there pairs (neither (over_eight (length pairs) token) _ none).1;
        targets = refl;
      };
      owns = refl;
    }
