-- The labels of a tree.
use Rattle.std.specs.Prelude.{Bool, List, [], ◌++◌}
use Rattle.std.specs.List.{list_all}
use Rattle.std.specs.Option.{option_to_list}
use Rattle.px_value.specs.Name.{is_identifier}
use Rattle.px_syntax.specs.declared.expr.Identifier.{Identifier}
use Rattle.px_syntax.specs.Block.{BlockTree, Braces, Actions, NoActions, More, ActionTree, Labelled, BranchTree, Branch, GuardedTree, Guarded, ElseIfs, NoElseIfs, ElseIf, ElseTree, NoElse, Else, BodyTree, Inner, If, While, For}
use Rattle.px_syntax.specs.Plan.{PlanTree}

abbrev mutual
  pub block_labels : BlockTree → List Identifier
  block_labels (Braces form items actions) = actions_labels actions

  pub actions_labels : Actions → List Identifier
  actions_labels NoActions = []
  actions_labels (More first rest) = action_labels first ++ actions_labels rest

  pub action_labels : ActionTree → List Identifier
  action_labels (Labelled label body) = option_to_list label ++ body_labels body

  pub body_labels : BodyTree → List Identifier
  body_labels (Inner block) = block_labels block
  body_labels (If guarded others otherwise) =
      guarded_labels guarded ++ else_if_labels others ++ else_labels otherwise
  body_labels (While guarded) = guarded_labels guarded
  body_labels (For variable first test step branch) = branch_labels branch
  body_labels body = []

  pub guarded_labels : GuardedTree → List Identifier
  guarded_labels (Guarded test branch) = branch_labels branch

  pub else_if_labels : ElseIfs → List Identifier
  else_if_labels NoElseIfs = []
  else_if_labels (ElseIf guarded others) = guarded_labels guarded ++ else_if_labels others

  pub else_labels : ElseTree → List Identifier
  else_labels NoElse = []
  else_labels (Else branch) = branch_labels branch

  pub branch_labels : BranchTree → List Identifier
  branch_labels (Branch label block) = option_to_list label ++ block_labels block

abbrev pub labels_of : PlanTree → List Identifier
labels_of plan = option_to_list plan.label ++ block_labels plan.root

-- each of these is an identifier
abbrev pub are_identifiers : List Identifier → Bool
are_identifiers = list_all (λ label. is_identifier label.name)

-- each label is an identifier, and so none is a generated name
abbrev pub has_identifiers : PlanTree → Bool
has_identifiers plan = are_identifiers (labels_of plan)
