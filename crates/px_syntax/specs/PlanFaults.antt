-- The faults of a plan.
use Rattle.std.specs.Prelude.{ℕ, ◌+◌, nat_lt, List, [], ◌∷◌, ◌++◌, map, length, if◌then◌else◌}
use Rattle.std.specs.List.{flat_map}
use Rattle.std.specs.Option.{unwrap_or}
use Rattle.px_syntax.specs.declared.fault.FaultKind.TheVariants.{TooLarge}
use Rattle.px_syntax.specs.Block.{VariableData, ItemData, Variables, BlockTree, Braces, Actions, NoActions, More, ActionTree, Labelled, BranchTree, Branch, GuardedTree, Guarded, ElseIfs, NoElseIfs, ElseIf, ElseTree, NoElse, Else, BodyTree, Inner, If, While, For}
use Rattle.px_syntax.specs.BlockFaults.{redeclared, block_faults}
use Rattle.px_syntax.specs.ExprFaults.{over_eight}
use Rattle.px_syntax.specs.Fault.{Fault, fault_at, in_order}
use Rattle.px_syntax.specs.Plan.{PlanTree}
use Rattle.px_syntax.specs.Scope.{Scope, Global, commands_in, lookups_in}
use Rattle.px_syntax.specs.Tolerances.{block_tolerances, passing_tolerance}

-- ---- declarations

-- commands, or lookups: a second one of a name, and more than 8 parameters
abbrev pub global_faults : List Global → List Fault
global_faults globals =
    redeclared (map (λ global. global.name) globals)
    ++ flat_map (λ global. over_eight (length global.parameters) global.name.token) globals

-- ---- cells

-- a declared variable: its token, and how many cells it has
pub record Cells : Type 0 where
  pub token : ℕ
  pub count : ℕ

abbrev pub variable_cells : VariableData → Cells
variable_cells variable = record { token = variable.name.token; count = unwrap_or variable.size 1 }

abbrev pub item_cells : ItemData → List Cells
item_cells (Variables of_type variables) = map variable_cells variables
item_cells item = []

-- the declared variables of a block, in the order of the text; that of a `for` is one of them
abbrev mutual
  pub block_cells : BlockTree → List Cells
  block_cells (Braces form items actions) = flat_map item_cells items ++ actions_cells actions

  pub actions_cells : Actions → List Cells
  actions_cells NoActions = []
  actions_cells (More first rest) = action_cells first ++ actions_cells rest

  pub action_cells : ActionTree → List Cells
  action_cells (Labelled label body) = body_cells body

  pub body_cells : BodyTree → List Cells
  body_cells (Inner block) = block_cells block
  body_cells (If guarded others otherwise) =
      guarded_cells guarded ++ else_if_cells others ++ else_cells otherwise
  body_cells (While guarded) = guarded_cells guarded
  body_cells (For variable first test step branch) =
      record { token = variable.token; count = 1 } ∷ branch_cells branch
  body_cells body = []

  pub guarded_cells : GuardedTree → List Cells
  guarded_cells (Guarded test branch) = branch_cells branch

  pub else_if_cells : ElseIfs → List Cells
  else_if_cells NoElseIfs = []
  else_if_cells (ElseIf next others) = guarded_cells next ++ else_if_cells others

  pub else_cells : ElseTree → List Cells
  else_cells NoElse = []
  else_cells (Else branch) = branch_cells branch

  pub branch_cells : BranchTree → List Cells
  branch_cells (Branch label block) = block_cells block

-- the declaration with which the cells, so many of them before, pass 65,536
abbrev pub passing_fault : ℕ → List Cells → List Fault
passing_fault before [] = []
passing_fault before (variable ∷ variables) =
    if nat_lt 65536 (before + variable.count) then fault_at TooLarge variable.token
    else passing_fault (before + variable.count) variables

-- ---- the whole

-- outside all nodes only the plan's declarations are visible
abbrev pub outermost : PlanTree → Scope
outermost plan = record {
  commands = flat_map commands_in plan.declarations;
  lookups = flat_map lookups_in plan.declarations;
  variables = [];
  nodes = [];
}

-- the faults of a plan, one part after another
abbrev pub all_faults : PlanTree → List Fault
all_faults plan =
    global_faults (flat_map commands_in plan.declarations)
    ++ global_faults (flat_map lookups_in plan.declarations)
    ++ block_faults (outermost plan) plan.label plan.root
    ++ passing_fault 0 (block_cells plan.root)
    ++ passing_tolerance [] (block_tolerances plan.root)

-- ALL FAULTS OF A PLAN, by their tokens and then by their kinds.
abbrev pub faults : PlanTree → List Fault
faults plan = in_order (all_faults plan)
