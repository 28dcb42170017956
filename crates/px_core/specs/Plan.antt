-- A plan as a tree with lists in place of vectors, and as the list of its nodes in preorder, each with its path.
use Rattle.std.specs.Prelude.{ℕ, ◌+◌, Bool, false, List, [], ◌∷◌, ◌++◌, get_or, map, Option}
use Rattle.std.specs.List.{find}
use Rattle.std.specs.Option.{option_map, unwrap_or}
use Rattle.std.specs.Str.{bytes_eq}
use Rattle.px_value.specs.Path.{below}
use Rattle.px_value.specs.declared.value.Value.{Value}
use Rattle.px_value.specs.declared.value.Value.TheVariants as values
use Rattle.px_core.specs.Expr.{Term, Literal, term_of}
use Rattle.px_core.specs.declared.body.Body.{Body}
use Rattle.px_core.specs.declared.body.Body.TheVariants as bodies
use Rattle.px_core.specs.declared.body.Pair.{Pair}
use Rattle.px_core.specs.declared.body.Target.{Target}
use Rattle.px_core.specs.declared.conditions.Conditions.{Conditions}
use Rattle.px_core.specs.declared.conditions.ConditionKind.{ConditionKind}
use Rattle.px_core.specs.declared.conditions.ConditionKind.TheVariants as which
use Rattle.px_core.specs.declared.node.CoreNode.{CoreNode}
use Rattle.px_core.specs.declared.node.CoreNode.TheOpen.{CoreNode-F}
use Rattle.px_core.specs.declared.node.CoreNode.TheFolds.{fold-CoreNode}
use Rattle.px_core.specs.declared.node.CoreNode.TheViews.{out-CoreNode}
use Rattle.px_core.specs.declared.node.Kind.{Kind}
use Rattle.px_core.specs.declared.node.Kind.TheVariants as kinds
use Rattle.px_core.specs.declared.plan.Plan.{Plan}
use Rattle.px_core.specs.declared.variable.Variable.{Variable}
use Rattle.px_core.specs.declared.variable.VarKind.{VarKind}

-- the eight conditions
pub record ConditionTerms : Type 0 where
  pub start : Term
  pub end : Term
  pub exit : Term
  pub skip : Term
  pub repeat : Term
  pub pre : Term
  pub post : Term
  pub invariant : Term

abbrev pub condition_terms : Conditions → ConditionTerms
condition_terms conditions =
    record {
      start = term_of conditions.start;
      end = term_of conditions.end;
      exit = term_of conditions.exit;
      skip = term_of conditions.skip;
      repeat = term_of conditions.repeat;
      pre = term_of conditions.pre;
      post = term_of conditions.post;
      invariant = term_of conditions.invariant;
    }

-- one of them
abbrev pub condition_of : ConditionTerms → ConditionKind → Term
condition_of conditions which.Start = conditions.start
condition_of conditions which.End = conditions.end
condition_of conditions which.Exit = conditions.exit
condition_of conditions which.Skip = conditions.skip
condition_of conditions which.Repeat = conditions.repeat
condition_of conditions which.Pre = conditions.pre
condition_of conditions which.Post = conditions.post
condition_of conditions which.Invariant = conditions.invariant

-- the term and the conditions of a node that a plan does not have
abbrev pub no_term : Term
no_term = Literal values.Unknown

abbrev pub no_conditions : ConditionTerms
no_conditions =
    record {
      start = no_term;
      end = no_term;
      exit = no_term;
      skip = no_term;
      repeat = no_term;
      pre = no_term;
      post = no_term;
      invariant = no_term;
    }

-- a variable that a node declares
pub record VariableData : Type 0 where
  pub name : List ℕ
  pub kind : VarKind
  pub size : Option ℕ
  pub init : List Value

abbrev pub variable_data : Variable → VariableData
variable_data variable =
    record { name = variable.name; kind = variable.kind; size = variable.size; init = variable.init.items }

-- what is written
pub record TargetData : Type 0 where
  pub owner : List ℕ
  pub name : List ℕ
  pub index : Option Term

abbrev pub target_data : Target → TargetData
target_data target = record { owner = target.owner; name = target.name; index = option_map term_of target.index }

-- one value of an update
pub record PairData : Type 0 where
  pub name : List ℕ
  pub value : Term

abbrev pub pair_data : Pair → PairData
pair_data pair = record { name = pair.name; value = term_of pair.value }

-- what a node does
pub data BodyData : Type 0 where
  Nothing : BodyData
  Assign : (target : TargetData) (value : Term) → BodyData
  Command : (name : List ℕ) (args : List Term) (result : Option TargetData) → BodyData
  Update : (pairs : List PairData) → BodyData

abbrev pub body_data : Body → BodyData
body_data bodies.Nothing = Nothing
body_data (bodies.Assign target value) = Assign (target_data target) (term_of value)
body_data (bodies.Command name args result) =
    Command name (map term_of args.items) (option_map target_data result)
body_data (bodies.Update pairs) = Update (map pair_data pairs.items)

-- all that a node has beside its children
pub record Head : Type 0 where
  pub name : List ℕ
  pub kind : Kind
  pub conditions : ConditionTerms
  pub priority : ℕ
  pub variables : List VariableData
  pub body : BodyData

-- Nodes side by side: none, or a node with its children and the nodes after it.
pub data Tree : Type 0 where
  NoNode : Tree
  Branch : (head : Head) (children rest : Tree) → Tree

-- a node with lists in place of vectors, before the nodes that follow it
abbrev pub in_order : List (Tree → Tree) → Tree
in_order [] = NoNode
in_order (node ∷ nodes) = node (in_order nodes)

abbrev pub head_of : {A : Type 0} → CoreNode-F A → Head
head_of node =
    record {
      name = node.name;
      kind = node.kind;
      conditions = condition_terms node.conditions;
      priority = node.priority;
      variables = map variable_data node.variables.items;
      body = body_data node.body;
    }

abbrev pub branch : CoreNode-F (Tree → Tree) → Tree → Tree
branch node rest = Branch (head_of node) (in_order node.children.items) rest

abbrev pub tree_of_node : CoreNode → Tree
tree_of_node node = fold-CoreNode (Tree → Tree) branch node NoNode

-- nodes side by side
abbrev pub trees_of : List CoreNode → Tree
trees_of nodes = in_order (map (fold-CoreNode (Tree → Tree) branch) nodes)

-- the tree below a node
abbrev pub below_it : CoreNode → Tree
below_it node = trees_of (out-CoreNode node).children.items

abbrev pub tree_of : Plan → Tree
tree_of plan = tree_of_node plan.root

-- how many nodes there are
abbrev pub count_of : Tree → ℕ
count_of NoNode = 0
count_of (Branch head children rest) = 1 + count_of children + count_of rest

-- A node in its place: its path, the paths of its proper ancestors from its parent up, and the node.
pub record Site : Type 0 where
  pub path : List ℕ
  pub above : List (List ℕ)
  pub head : Head

-- the path of a node under these ancestors
abbrev pub path_under : List (List ℕ) → List ℕ → List ℕ
path_under [] name = name
path_under (parent ∷ above) name = below parent name

abbrev pub site_under : List (List ℕ) → Head → Site
site_under above head = record { path = path_under above head.name; above = above; head = head }

-- the nodes of a tree in preorder
abbrev pub sites_under : List (List ℕ) → Tree → List Site
sites_under above NoNode = []
sites_under above (Branch head children rest) =
    site_under above head ∷ (sites_under (path_under above head.name ∷ above) children ++ sites_under above rest)

abbrev pub sites : Tree → List Site
sites tree = sites_under [] tree

-- two texts are the same
abbrev pub is_same : List ℕ → List ℕ → Bool
is_same = bytes_eq

-- the site of a path that a plan does not have
abbrev pub no_site : Site
no_site =
    record {
      path = [];
      above = [];
      head = record {
        name = [];
        kind = kinds.Empty;
        conditions = no_conditions;
        priority = 0;
        variables = [];
        body = Nothing;
      };
    }

-- the first node of a plan
abbrev pub root_of : List Site → Site
root_of plan = get_or plan 0 no_site

-- the node at a path
abbrev pub site_at : List Site → List ℕ → Site
site_at plan path = unwrap_or (find (λ site. is_same site.path path) plan) no_site

-- whether a node is a child of the one at this path
abbrev pub is_child_of : List ℕ → Site → Bool
is_child_of path site = under site.above
  where
    under : List (List ℕ) → Bool
    under [] = false
    under (parent ∷ above) = is_same parent path
