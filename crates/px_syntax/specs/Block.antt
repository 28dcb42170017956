-- Blocks with lists in place of vectors.
use Rattle.std.specs.Prelude.{ℕ, ℤ, List, [], ◌∷◌, Option, Some, None, map}
use Rattle.std.specs.Option.{option_map}
use Rattle.px_syntax.specs.declared.block.Action.{Action, Action-F, fold-Action}
use Rattle.px_syntax.specs.declared.block.Block.{Block, Block-F, fold-Block}
use Rattle.px_syntax.specs.declared.block.Body.{Body}
use Rattle.px_syntax.specs.declared.block.Body.TheFolds.{fold-Body}
use Rattle.px_syntax.specs.declared.block.Body.TheOpen.{Body-F}
use Rattle.px_syntax.specs.declared.block.Branch.{Branch as BranchType, Branch-F, fold-Branch}
use Rattle.px_syntax.specs.declared.block.Call.{Call as CallParts}
use Rattle.px_syntax.specs.declared.block.Guarded.{Guarded as GuardedType, Guarded-F, fold-Guarded}
use Rattle.px_syntax.specs.declared.block.Initial.{Initial}
use Rattle.px_syntax.specs.declared.block.Initial.TheVariants as initials
use Rattle.px_syntax.specs.declared.block.Item.{Item}
use Rattle.px_syntax.specs.declared.block.Item.TheVariants as items
use Rattle.px_syntax.specs.declared.block.ListedLiteral.{ListedLiteral}
use Rattle.px_syntax.specs.declared.block.Pair.{Pair}
use Rattle.px_syntax.specs.declared.block.Target.{Target}
use Rattle.px_syntax.specs.declared.block.Variable.{Variable}
use Rattle.px_syntax.specs.declared.expr.Identifier.{Identifier}
use Rattle.px_syntax.specs.declared.expr.Literal.{Literal}
use Rattle.px_syntax.specs.declared.word.BlockForm.{BlockForm}
use Rattle.px_syntax.specs.declared.word.Condition.{Condition}
use Rattle.px_syntax.specs.declared.word.TypeName.{TypeName}
use Rattle.px_syntax.specs.Expr.{Term, Terms, in_turn, term_of}

-- ---- items

-- what a variable holds at first
pub data InitialData : Type 0 where
  Value : (value : Literal) (token : ℕ) → InitialData
  Listed : (values : List ListedLiteral) (token : ℕ) → InitialData

abbrev pub initial_data : Initial → InitialData
initial_data (initials.Value value token) = Value value token
initial_data (initials.List values token) = Listed values.items token

pub record VariableData : Type 0 where
  pub name : Identifier
  pub size : Option ℕ
  pub initial : Option InitialData

abbrev pub variable_data : Variable → VariableData
variable_data variable =
    record {
      name = variable.name;
      size = variable.size;
      initial = option_map initial_data variable.initial;
    }

pub data ItemData : Type 0 where
  Variables : (of_type : TypeName) (variables : List VariableData) → ItemData
  Conditions : (condition : Condition) (token : ℕ) (test : Term) → ItemData
  Priority : (token priority : ℕ) → ItemData

abbrev pub item_data : Item → ItemData
item_data (items.Variables of_type variables) = Variables of_type (map variable_data variables.items)
item_data (items.Condition condition token test) = Conditions condition token (term_of test)
item_data (items.Priority token priority) = Priority token priority

-- ---- what actions consist of

pub record TargetData : Type 0 where
  pub name : Identifier
  pub index : Option Term

abbrev pub target_data : Target → TargetData
target_data target = record { name = target.name; index = option_map term_of target.index }

pub record CallData : Type 0 where
  pub name : Identifier
  pub args : Terms

abbrev pub call_data : CallParts → CallData
call_data call = record { name = call.name; args = in_turn (map term_of call.args.items) }

pub record PairData : Type 0 where
  pub name : Identifier
  pub value : Term

abbrev pub pair_data : Pair → PairData
pair_data pair = record { name = pair.name; value = term_of pair.value }

-- ---- blocks

-- a block, its actions in turn, an action, and the branches of an action
mutual
  pub data BlockTree : Type 0 where
    Braces : (form : BlockForm) (items : List ItemData) (actions : Actions) → BlockTree

  pub data Actions : Type 0 where
    NoActions : Actions
    More : (first : ActionTree) (rest : Actions) → Actions

  pub data ActionTree : Type 0 where
    Labelled : (label : Option Identifier) (body : BodyTree) → ActionTree

  pub data BranchTree : Type 0 where
    Branch : (label : Option Identifier) (block : BlockTree) → BranchTree

  pub data GuardedTree : Type 0 where
    Guarded : (test : Term) (branch : BranchTree) → GuardedTree

  pub data ElseIfs : Type 0 where
    NoElseIfs : ElseIfs
    ElseIf : (first : GuardedTree) (rest : ElseIfs) → ElseIfs

  pub data ElseTree : Type 0 where
    NoElse : ElseTree
    Else : (branch : BranchTree) → ElseTree

  pub data BodyTree : Type 0 where
    Inner : (block : BlockTree) → BodyTree
    Assign : (target : TargetData) (value : Term) → BodyTree
    CallInto : (target : TargetData) (call : CallData) → BodyTree
    Call : (call : CallData) → BodyTree
    Update : (token : ℕ) (pairs : List PairData) → BodyTree
    If : (first : GuardedTree) (others : ElseIfs) (otherwise : ElseTree) → BodyTree
    While : (guarded : GuardedTree) → BodyTree
    For :
        (variable : Identifier) (first : ℤ) (test step : Term) (branch : BranchTree) → BodyTree

abbrev pub actions_in_turn : List ActionTree → Actions
actions_in_turn [] = NoActions
actions_in_turn (action ∷ actions) = More action (actions_in_turn actions)

abbrev pub else_ifs_in_turn : List GuardedTree → ElseIfs
else_ifs_in_turn [] = NoElseIfs
else_ifs_in_turn (guarded ∷ others) = ElseIf guarded (else_ifs_in_turn others)

abbrev pub else_of : Option BranchTree → ElseTree
else_of None = NoElse
else_of (Some branch) = Else branch

-- each with the trees in it already such trees
abbrev pub body_step : Body-F BodyTree ActionTree BlockTree BranchTree GuardedTree → BodyTree
body_step (Body-F.Block block) = Inner block
body_step (Body-F.Assign target value) = Assign (target_data target) (term_of value)
body_step (Body-F.CallInto target call) = CallInto (target_data target) (call_data call)
body_step (Body-F.Call call) = Call (call_data call)
body_step (Body-F.Update token pairs) = Update token (map pair_data pairs.items)
body_step (Body-F.If first others otherwise) =
    If first (else_ifs_in_turn others.items) (else_of otherwise)
body_step (Body-F.While guarded) = While guarded
body_step (Body-F.For variable first test step branch) =
    For variable first (term_of test) (term_of step) branch

abbrev pub action_step : Action-F BodyTree ActionTree BlockTree BranchTree GuardedTree → ActionTree
action_step action = Labelled action.label action.body

abbrev pub block_step : Block-F BodyTree ActionTree BlockTree BranchTree GuardedTree → BlockTree
block_step block =
    Braces block.form (map item_data block.items.items) (actions_in_turn block.actions.items)

abbrev pub branch_step : Branch-F BodyTree ActionTree BlockTree BranchTree GuardedTree → BranchTree
branch_step branch = Branch branch.label branch.block

abbrev pub guarded_step : Guarded-F BodyTree ActionTree BlockTree BranchTree GuardedTree → GuardedTree
guarded_step guarded = Guarded (term_of guarded.test) guarded.branch

abbrev pub block_of : Block → BlockTree
block_of =
    fold-Block
    BodyTree ActionTree BlockTree BranchTree GuardedTree
    body_step action_step block_step branch_step guarded_step

abbrev pub body_of : Body → BodyTree
body_of =
    fold-Body
    BodyTree ActionTree BlockTree BranchTree GuardedTree
    body_step action_step block_step branch_step guarded_step

abbrev pub action_of : Action → ActionTree
action_of =
    fold-Action
    BodyTree ActionTree BlockTree BranchTree GuardedTree
    body_step action_step block_step branch_step guarded_step

abbrev pub branch_of : BranchType → BranchTree
branch_of =
    fold-Branch
    BodyTree ActionTree BlockTree BranchTree GuardedTree
    body_step action_step block_step branch_step guarded_step

abbrev pub guarded_of : GuardedType → GuardedTree
guarded_of =
    fold-Guarded
    BodyTree ActionTree BlockTree BranchTree GuardedTree
    body_step action_step block_step branch_step guarded_step
