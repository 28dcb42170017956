-- How many nodes a tree of the text has when it is expanded, and how long the paths of these nodes are, without the
-- core plan.
use Rattle.std.specs.Prelude.{ℕ, suc, ◌+◌, max, List, length}
use Rattle.px_syntax.specs.Block.{BlockTree, Braces, Actions, NoActions, More, ActionTree, Labelled, BranchTree, Branch, GuardedTree, Guarded, ElseIfs, NoElseIfs, ElseIf, ElseTree, NoElse, Else, BodyTree, Inner, If, While, For}
use Rattle.px_syntax.specs.Plan.{PlanTree}
use Rattle.px_expand.specs.Core.{name_of}
use Rattle.px_expand.specs.Kinds.{Shape, Children, shape_of}
use Rattle.px_forms.specs.Names.{root_name, then_name, body_name, else_name, set_name, step_name, loop_name}
use Rattle.px_expand.specs.Names.{named}

-- ---- nodes

-- a node, and those below it where it is a List
abbrev pub shaped_nodes : Shape → ℕ → ℕ
shaped_nodes Children below = 1 + below
shaped_nodes shape below = 1

abbrev mutual
  pub block_nodes : BlockTree → ℕ
  block_nodes (Braces form items actions) = shaped_nodes (shape_of (Braces form items actions)) (actions_nodes actions)

  pub actions_nodes : Actions → ℕ
  actions_nodes NoActions = 0
  actions_nodes (More first rest) = action_nodes first + actions_nodes rest

  pub action_nodes : ActionTree → ℕ
  action_nodes (Labelled label body) = body_nodes body

  pub body_nodes : BodyTree → ℕ
  body_nodes (Inner block) = block_nodes block
  body_nodes (If guarded others otherwise) = guarded_nodes guarded + else_if_nodes others + else_nodes otherwise
  body_nodes (While guarded) = guarded_nodes guarded
  body_nodes (For variable first test step branch) = 4 + branch_nodes branch
  body_nodes body = 1

  -- the List of a test, `#set` and the branch
  pub guarded_nodes : GuardedTree → ℕ
  guarded_nodes (Guarded test branch) = 2 + branch_nodes branch

  pub else_if_nodes : ElseIfs → ℕ
  else_if_nodes NoElseIfs = 0
  else_if_nodes (ElseIf guarded others) = guarded_nodes guarded + else_if_nodes others

  pub else_nodes : ElseTree → ℕ
  else_nodes NoElse = 0
  else_nodes (Else branch) = branch_nodes branch

  pub branch_nodes : BranchTree → ℕ
  branch_nodes (Branch label block) = block_nodes block

-- ---- paths

-- how many bytes the longest path of a child of this name, or of what is below it, has behind that of its parent
abbrev pub through : List ℕ → ℕ → ℕ
through name reach = 1 + length name + reach

abbrev pub shaped_reach : Shape → ℕ → ℕ
shaped_reach Children below = below
shaped_reach shape below = 0

-- how many bytes the longest path below a node has behind that of the node
abbrev mutual
  pub block_reach : BlockTree → ℕ
  block_reach (Braces form items actions) = shaped_reach (shape_of (Braces form items actions)) (actions_reach 1 actions)

  pub actions_reach : ℕ → Actions → ℕ
  actions_reach place NoActions = 0
  actions_reach place (More first rest) =
      max (through (name_of place first) (action_reach first)) (actions_reach (suc place) rest)

  pub action_reach : ActionTree → ℕ
  action_reach (Labelled label body) = body_reach body

  pub body_reach : BodyTree → ℕ
  body_reach (Inner block) = block_reach block
  body_reach (If guarded others otherwise) =
      max (guarded_reach then_name guarded) (else_if_reach (else_reach otherwise) others)
  body_reach (While guarded) = guarded_reach body_name guarded
  body_reach (For variable first test step branch) =
      through loop_name (max (through step_name 0) (max (through set_name 0) (branch_reach body_name branch)))
  body_reach body = 0

  -- `#set` and the branch, whose name without a label is given
  pub guarded_reach : List ℕ → GuardedTree → ℕ
  guarded_reach unlabelled (Guarded test branch) = max (through set_name 0) (branch_reach unlabelled branch)

  -- the `elseif`s, each inside the one before, and what the last of them ends with
  pub else_if_reach : ℕ → ElseIfs → ℕ
  else_if_reach last NoElseIfs = last
  else_if_reach last (ElseIf guarded others) =
      through else_name (max (guarded_reach then_name guarded) (else_if_reach last others))

  pub else_reach : ElseTree → ℕ
  else_reach NoElse = 0
  else_reach (Else branch) = branch_reach else_name branch

  pub branch_reach : List ℕ → BranchTree → ℕ
  branch_reach unlabelled (Branch label block) = through (named label unlabelled) (block_reach block)

-- the length of the longest path
abbrev pub longest : PlanTree → ℕ
longest plan = length (named plan.label root_name) + block_reach plan.root
