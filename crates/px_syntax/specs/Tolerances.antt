-- The tolerances of a plan, in the order of its text, and how many distinct ones it may have.
use Rattle.std.specs.Prelude.{ℕ, ◌+◌, nat_eq, nat_lt, List, [], ◌∷◌, ◌++◌, length, if◌then◌else◌}
use Rattle.std.specs.List.{list_any, flat_map}
use Rattle.std.specs.Option.{option_map_or, option_to_list}
use Rattle.px_syntax.specs.declared.expr.Tolerance.{Tolerance}
use Rattle.px_syntax.specs.declared.fault.FaultKind.TheVariants.{TooLarge}
use Rattle.px_syntax.specs.Block as blocks
use Rattle.px_syntax.specs.Block.{ItemData, Conditions, TargetData, CallData, PairData, BlockTree, Braces, Actions, NoActions, ActionTree, Labelled, BranchTree, Branch, GuardedTree, Guarded, ElseIfs, NoElseIfs, ElseIf, ElseTree, NoElse, Else, BodyTree, Inner, Assign, CallInto, Call, Update, If, While, For}
use Rattle.px_syntax.specs.Expr.{Term, Terms, Element, Look, UnaryCall, BinaryCall, Unary, Binary, NoTerms, More}
use Rattle.px_syntax.specs.Fault.{Fault, fault_at}

-- ---- expressions

abbrev mutual
  pub term_tolerances : Term → List Tolerance
  term_tolerances (Element array index) = term_tolerances index
  term_tolerances (Look word token name args tolerance) = terms_tolerances args ++ option_to_list tolerance
  term_tolerances (UnaryCall function token argument) = term_tolerances argument
  term_tolerances (BinaryCall function token first second) = term_tolerances first ++ term_tolerances second
  term_tolerances (Unary operator token operand) = term_tolerances operand
  term_tolerances (Binary operator left right) = term_tolerances left ++ term_tolerances right
  term_tolerances term = []

  pub terms_tolerances : Terms → List Tolerance
  terms_tolerances NoTerms = []
  terms_tolerances (More first rest) = term_tolerances first ++ terms_tolerances rest

-- ---- items and simple actions

abbrev pub item_tolerances : ItemData → List Tolerance
item_tolerances (Conditions condition token test) = term_tolerances test
item_tolerances item = []

abbrev pub target_tolerances : TargetData → List Tolerance
target_tolerances target = option_map_or term_tolerances target.index []

abbrev pub call_tolerances : CallData → List Tolerance
call_tolerances call = terms_tolerances call.args

abbrev pub pair_tolerances : PairData → List Tolerance
pair_tolerances pair = term_tolerances pair.value

-- ---- blocks

abbrev mutual
  pub block_tolerances : BlockTree → List Tolerance
  block_tolerances (Braces form items actions) = flat_map item_tolerances items ++ actions_tolerances actions

  pub actions_tolerances : Actions → List Tolerance
  actions_tolerances NoActions = []
  actions_tolerances (blocks.More first rest) = action_tolerances first ++ actions_tolerances rest

  pub action_tolerances : ActionTree → List Tolerance
  action_tolerances (Labelled label body) = body_tolerances body

  pub body_tolerances : BodyTree → List Tolerance
  body_tolerances (Inner block) = block_tolerances block
  body_tolerances (Assign target value) = target_tolerances target ++ term_tolerances value
  body_tolerances (CallInto target call) = target_tolerances target ++ call_tolerances call
  body_tolerances (Call call) = call_tolerances call
  body_tolerances (Update token pairs) = flat_map pair_tolerances pairs
  body_tolerances (If guarded others otherwise) =
      guarded_tolerances guarded ++ else_if_tolerances others ++ else_tolerances otherwise
  body_tolerances (While guarded) = guarded_tolerances guarded
  body_tolerances (For variable first test step branch) =
      term_tolerances test ++ term_tolerances step ++ branch_tolerances branch

  pub guarded_tolerances : GuardedTree → List Tolerance
  guarded_tolerances (Guarded test branch) = term_tolerances test ++ branch_tolerances branch

  pub else_if_tolerances : ElseIfs → List Tolerance
  else_if_tolerances NoElseIfs = []
  else_if_tolerances (ElseIf next others) = guarded_tolerances next ++ else_if_tolerances others

  pub else_tolerances : ElseTree → List Tolerance
  else_tolerances NoElse = []
  else_tolerances (Else branch) = branch_tolerances branch

  pub branch_tolerances : BranchTree → List Tolerance
  branch_tolerances (Branch label block) = block_tolerances block

-- ---- how many there may be

-- the tolerance with which the distinct ones, these before, pass 16
abbrev pub passing_tolerance : List ℕ → List Tolerance → List Fault
passing_tolerance before [] = []
passing_tolerance before (tolerance ∷ tolerances) =
    if list_any (nat_eq tolerance.distance) before then passing_tolerance before tolerances
    else if nat_lt 16 (length before + 1) then fault_at TooLarge tolerance.token
    else passing_tolerance (before ++ tolerance.distance ∷ []) tolerances
