-- The faults of blocks, with their items and actions.
use Rattle.std.specs.Prelude.{ℕ, Bool, true, false, not, ◌||◌, nat_lt, List, [], ◌∷◌, ◌++◌, map, length, Option, Some, None, if◌then◌else◌}
use Rattle.std.specs.List.{list_any, flat_map}
use Rattle.std.specs.Option.{is_some, option_map_or, option_to_list}
use Rattle.std.specs.Str.{bytes_eq}
use denote.Enum.Bare.{sameb}
use Rattle.px_syntax.specs.contracts.word.Condition.{the_type as condition_type}
use Rattle.px_syntax.specs.declared.expr.Identifier.{Identifier}
use Rattle.px_syntax.specs.declared.expr.Literal.{Literal as LiteralValue}
use Rattle.px_syntax.specs.declared.fault.FaultKind.{FaultKind}
use Rattle.px_syntax.specs.declared.fault.FaultKind.TheVariants.{Redeclared, TypeDiffers, NotAssignable, DoubleCondition, TooLarge}
use Rattle.px_syntax.specs.declared.value_type.ValueType.{ValueType}
use Rattle.px_syntax.specs.declared.value_type.ValueType.TheVariants.{Boolean, Integer}
use Rattle.px_syntax.specs.declared.word.Condition.{Condition}
use Rattle.px_syntax.specs.Block.{InitialData, Value, Listed, VariableData, ItemData, Variables, Conditions, Priority, TargetData, CallData, PairData, BlockTree, Braces, Actions, NoActions, More, ActionTree, Labelled, BranchTree, Branch, GuardedTree, Guarded, ElseIfs, NoElseIfs, ElseIf, ElseTree, NoElse, Else, BodyTree, Inner, Assign, CallInto, Call, Update, If, While, For}
use Rattle.px_syntax.specs.Expr.{Term}
use Rattle.px_syntax.specs.ExprFaults.{name_faults, type_named, over_eight, count_faults, count_terms, argument_faults, parameters_of, faults_as}
use Rattle.px_syntax.specs.Fault.{Fault, fault_at, fault_where}
use Rattle.px_syntax.specs.Scope.{Scope, Visible, Global, Head, inside, declared, head_of, own_action, block_node, branch_child}
use Rattle.px_syntax.specs.ValueType.{named_type, literal_type, fits, told_types, allowed_as}

-- ---- what stands twice

-- the fault of each part that is the same as one before it
abbrev pub repeated : {X : Type 0} → (X → X → Bool) → FaultKind → List X → List (X × ℕ) → List Fault
repeated same kind before [] = []
repeated same kind before ((part, token) ∷ parts) =
    fault_where (list_any (same part) before) kind token ++ repeated same kind (part ∷ before) parts

-- names and their tokens
abbrev pub spots : List Identifier → List (List ℕ × ℕ)
spots = map (λ identifier. (identifier.name, identifier.token))

-- of identifiers, each that has a name of one before it
abbrev pub redeclared : List Identifier → List Fault
redeclared identifiers = repeated bytes_eq Redeclared [] (spots identifiers)

-- ---- variables

-- a literal of another type than is declared
abbrev pub literal_fault : ValueType → LiteralValue → ℕ → List Fault
literal_fault of_type value token = fault_where (not (fits (of_type ∷ []) (literal_type value))) TypeDiffers token

-- a scalar has a value of its type, and an array a list of values of its elements' type
abbrev pub initial_faults : ValueType → Bool → InitialData → List Fault
initial_faults of_type false (Value value token) = literal_fault of_type value token
initial_faults of_type true (Value value token) = fault_at TypeDiffers token
initial_faults of_type false (Listed values token) = fault_at TypeDiffers token
initial_faults of_type true (Listed values token) =
    flat_map (λ listed. literal_fault of_type listed.value listed.token) values

-- how many values an initial value lists
abbrev pub listed_count : Option InitialData → ℕ
listed_count (Some (Listed values token)) = length values
listed_count initial = 0

-- an array has 1 to 256 elements, and no more initial values than elements
abbrev pub is_too_large : VariableData → Bool
is_too_large variable =
    option_map_or (λ size. nat_lt size 1 || nat_lt 256 size || nat_lt size (listed_count variable.initial)) variable.size
    false

abbrev pub variable_faults : ValueType → VariableData → List Fault
variable_faults of_type variable =
    fault_where (is_too_large variable) TooLarge variable.name.token
    ++ option_map_or (initial_faults of_type (is_some variable.size)) variable.initial []

-- ---- items

-- the identifiers that an item declares, and what is visible by it
abbrev pub identifiers_in : ItemData → List Identifier
identifiers_in (Variables of_type variables) = map (λ variable. variable.name) variables
identifiers_in item = []

abbrev pub visible_as : ValueType → VariableData → Visible
visible_as of_type variable =
    record { name = variable.name.name; of_type = of_type; is_array = is_some variable.size }

abbrev pub visible_in : ItemData → List Visible
visible_in (Variables of_type variables) = map (visible_as (named_type of_type)) variables
visible_in item = []

-- what a block has at most once: each condition, and the priority
pub data Once : Type 0 where
  TheCondition : (condition : Condition) → Once
  ThePriority : Once

abbrev pub is_same_once : Once → Once → Bool
is_same_once (TheCondition condition) (TheCondition other) = sameb condition_type condition other
is_same_once ThePriority ThePriority = true
is_same_once part other = false

-- that part of an item, and its token
abbrev pub once_in : ItemData → List (Once × ℕ)
once_in (Conditions condition token test) = (TheCondition condition, token) ∷ []
once_in (Priority token priority) = (ThePriority, token) ∷ []
once_in item = []

abbrev pub item_faults : Scope → ItemData → List Fault
item_faults scope (Variables of_type variables) = flat_map (variable_faults (named_type of_type)) variables
item_faults scope (Conditions condition token test) = faults_as (Boolean ∷ []) scope test
item_faults scope (Priority token priority) = []

-- the faults of a block's items, whose scope is that inside the block
abbrev pub items_faults : Scope → List ItemData → List Fault
items_faults scope items =
    redeclared (flat_map identifiers_in items)
    ++ repeated is_same_once DoubleCondition [] (flat_map once_in items)
    ++ flat_map (item_faults scope) items

-- ---- simple actions

abbrev pub target_faults : Scope → TargetData → List Fault
target_faults scope target =
    name_faults NotAssignable scope target.name (is_some target.index)
    ++ option_map_or (faults_as (Integer ∷ []) scope) target.index []

-- the types of what may be written to a target
abbrev pub target_types : Scope → TargetData → List ValueType
target_types scope target = allowed_as (type_named NotAssignable scope target.name (is_some target.index))

abbrev pub assign_faults : Scope → TargetData → Term → List Fault
assign_faults scope target value = target_faults scope target ++ faults_as (target_types scope target) scope value

abbrev pub call_faults : Scope → CallData → List Fault
call_faults scope call =
    count_faults (declared scope.commands call.name.name) call.name (count_terms call.args)
    ++ argument_faults scope (parameters_of (declared scope.commands call.name.name)) call.args

-- a result is taken from a command that is declared without one, or with one of another type
abbrev pub is_without : List ValueType → Global → Bool
is_without allowed command = not (option_map_or (fits allowed) command.answer false)

abbrev pub result_fault : Scope → TargetData → CallData → List Fault
result_fault scope target call =
    fault_where
    (option_map_or (is_without (target_types scope target)) (declared scope.commands call.name.name) false) TypeDiffers
    call.name.token

abbrev pub call_into_faults : Scope → TargetData → CallData → List Fault
call_into_faults scope target call =
    target_faults scope target ++ result_fault scope target call ++ call_faults scope call

abbrev pub update_faults : Scope → ℕ → List PairData → List Fault
update_faults scope token pairs =
    over_eight (length pairs) token ++ flat_map (λ pair. faults_as told_types scope pair.value) pairs

-- ---- branches and labels

abbrev pub guarded_child : GuardedTree → List Head
guarded_child (Guarded test branch) = branch_child branch

abbrev pub else_child : ElseTree → List Head
else_child NoElse = []
else_child (Else branch) = branch_child branch

-- An `elseif` is an `if` of its own without a label, which stands in the place of the branch after `else`. So an `if` has
-- its own branch, and the next `if` or the branch after `else`, which is what the chain ends with.
abbrev pub if_children : GuardedTree → ElseIfs → List Head → List Head
if_children guarded NoElseIfs last = guarded_child guarded ++ last
if_children guarded (ElseIf next others) last = guarded_child guarded

abbrev pub branch_label : BranchTree → List Identifier
branch_label (Branch label block) = option_to_list label

abbrev pub guarded_label : GuardedTree → List Identifier
guarded_label (Guarded test branch) = branch_label branch

abbrev pub else_label : ElseTree → List Identifier
else_label NoElse = []
else_label (Else branch) = branch_label branch

abbrev pub action_labels : Actions → List Identifier
action_labels NoActions = []
action_labels (More (Labelled label body) rest) = option_to_list label ++ action_labels rest

-- only the last `if` of a chain has two branches that may have one label
abbrev pub if_label_faults : GuardedTree → ElseIfs → ElseTree → List Fault
if_label_faults guarded NoElseIfs otherwise = redeclared (guarded_label guarded ++ else_label otherwise)
if_label_faults guarded (ElseIf next others) otherwise = if_label_faults next others otherwise

-- ---- scopes

-- inside a block
abbrev pub inside_block : Scope → Option Identifier → BlockTree → Scope
inside_block scope label (Braces form items actions) =
    inside scope (block_node label (Braces form items actions)) (flat_map visible_in items)

-- inside an `if`, `while` or `for` with these children
abbrev pub inside_list : Scope → Option Identifier → List Head → List Visible → Scope
inside_list scope label children variables =
    inside scope (record { head = head_of label false; children = children }) variables

-- inside a simple action: the scope of its block where both are one node
abbrev pub inside_action : Scope → Bool → Option Identifier → Bool → Scope
inside_action scope is_one_node label is_command =
    if is_one_node then scope else inside scope (record { head = head_of label is_command; children = [] }) []

-- inside the first `if` of a chain
abbrev pub inside_if : Scope → Option Identifier → GuardedTree → ElseIfs → List Head → Scope
inside_if scope label guarded others last = inside_list scope label (if_children guarded others last) []

-- inside the last `if` of a chain, to which an `else` belongs, from inside the first
abbrev pub inside_last : Scope → ElseIfs → List Head → Scope
inside_last scope NoElseIfs last = scope
inside_last scope (ElseIf next others) last = inside_last (inside_if scope None next others last) others last

-- inside a `for`, whose variable is an Integer
abbrev pub inside_for : Scope → Option Identifier → Identifier → BranchTree → Scope
inside_for scope label variable branch =
    inside_list scope label (branch_child branch)
    (record { name = variable.name; of_type = Integer; is_array = false } ∷ [])

-- ---- blocks

abbrev mutual
  -- a block with the label of its node, from the scope round it
  pub block_faults : Scope → Option Identifier → BlockTree → List Fault
  block_faults scope label (Braces form items actions) =
      items_faults (inside_block scope label (Braces form items actions)) items
      ++ redeclared (action_labels actions)
      ++ actions_faults (inside_block scope label (Braces form items actions))
      (is_some (own_action (Braces form items actions))) actions

  -- the actions of a block, which is one node with its only action or isn't
  pub actions_faults : Scope → Bool → Actions → List Fault
  actions_faults scope is_one_node NoActions = []
  actions_faults scope is_one_node (More first rest) =
      action_faults scope is_one_node first ++ actions_faults scope is_one_node rest

  pub action_faults : Scope → Bool → ActionTree → List Fault
  action_faults scope is_one_node (Labelled label body) = body_faults scope is_one_node label body

  pub body_faults : Scope → Bool → Option Identifier → BodyTree → List Fault
  body_faults scope is_one_node label (Inner block) = block_faults scope label block
  body_faults scope is_one_node label (Assign target value) =
      assign_faults (inside_action scope is_one_node label false) target value
  body_faults scope is_one_node label (CallInto target call) =
      call_into_faults (inside_action scope is_one_node label true) target call
  body_faults scope is_one_node label (Call call) = call_faults (inside_action scope is_one_node label true) call
  body_faults scope is_one_node label (Update token pairs) =
      update_faults (inside_action scope is_one_node label false) token pairs
  body_faults scope is_one_node label (If guarded others otherwise) =
      if_label_faults guarded others otherwise
      ++ guarded_faults (inside_if scope label guarded others (else_child otherwise)) guarded
      ++ else_if_faults (inside_if scope label guarded others (else_child otherwise)) others (else_child otherwise)
      ++ else_faults
      (inside_last (inside_if scope label guarded others (else_child otherwise)) others (else_child otherwise))
      otherwise
  body_faults scope is_one_node label (While guarded) =
      guarded_faults (inside_list scope label (guarded_child guarded) []) guarded
  body_faults scope is_one_node label (For variable first test step branch) =
      faults_as (Boolean ∷ []) (inside_for scope label variable branch) test
      ++ faults_as (Integer ∷ []) (inside_for scope label variable branch) step
      ++ branch_faults (inside_for scope label variable branch) branch

  -- a test and its branch, inside their `if` or `while`
  pub guarded_faults : Scope → GuardedTree → List Fault
  guarded_faults scope (Guarded test branch) =
      faults_as (Boolean ∷ []) scope test ++ branch_faults scope branch

  -- the `elseif`s of a chain, from inside the `if` before them
  pub else_if_faults : Scope → ElseIfs → List Head → List Fault
  else_if_faults scope NoElseIfs last = []
  else_if_faults scope (ElseIf next others) last =
      guarded_faults (inside_if scope None next others last) next
      ++ else_if_faults (inside_if scope None next others last) others last

  -- what stands after `else`, inside its `if`
  pub else_faults : Scope → ElseTree → List Fault
  else_faults scope NoElse = []
  else_faults scope (Else branch) = branch_faults scope branch

  pub branch_faults : Scope → BranchTree → List Fault
  branch_faults scope (Branch label block) = block_faults scope label block
