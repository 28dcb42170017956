-- What makes a plan fit to run.
use Rattle.std.specs.Prelude.{◌≡◌, ℕ, ◌<◌, ◌≤◌, Bool, true, false, not, ◌&&◌, nat_le, List, [], ◌∷◌, ◌++◌, length, get_or, map, sum, Option, Some, None, is_some, unwrap_or, option_to_list, IsTrue}
use Rattle.std.specs.List.{list_all, list_any, flat_map}
use Rattle.std.specs.Option.{unwrap_or}
use Rattle.px_value.specs.Name.{is_name}
use Rattle.px_core.specs.declared.node.Kind.{Kind}
use Rattle.px_core.specs.declared.node.Kind.TheVariants as kinds
use Rattle.px_core.specs.Expr.{Term, Terms, Literal, Var, Cell, StateOf, OutcomeOf, FailureOf, HandleOf, Acknowledged, Look, Unary, Binary, NoTerms, More}
use Rattle.px_core.specs.Plan.{ConditionTerms, VariableData, TargetData, BodyData, Nothing, Assign, Command, Update, Tree, NoNode, Branch, Site, no_site, count_of, is_same, sites}

-- ---- the tree

abbrev pub has_none : Tree → Bool
has_none NoNode = true
has_none (Branch head children rest) = false

-- there is one root
abbrev pub has_one_root : Tree → Bool
has_one_root NoNode = false
has_one_root (Branch head children rest) = has_none rest

-- a path has at most 5,000 bytes
abbrev pub has_short_path : Site → Bool
has_short_path site = nat_le (length site.path) 5000

-- the cells of a variable: one, or those of an array
abbrev pub cells_of : VariableData → ℕ
cells_of variable = unwrap_or variable.size 1

abbrev pub cells_of_site : Site → ℕ
cells_of_site site = sum (map cells_of site.head.variables)

abbrev pub cells_of_all : Tree → ℕ
cells_of_all tree = sum (map cells_of_site (sites tree))

abbrev pub may_have : Kind → Tree → Bool
may_have kinds.List children = true
may_have kinds.Empty children = has_none children
may_have kinds.Assignment children = has_none children
may_have kinds.Command children = has_none children
may_have kinds.Update children = has_none children

-- only Lists have children
abbrev pub only_lists_have_children : Tree → Bool
only_lists_have_children NoNode = true
only_lists_have_children (Branch head children rest) =
    may_have head.kind children && only_lists_have_children children && only_lists_have_children rest

-- the names of nodes side by side
abbrev pub names_of : Tree → List (List ℕ)
names_of NoNode = []
names_of (Branch head children rest) = head.name ∷ names_of rest

-- siblings differ in name, here and below
abbrev pub siblings_differ : Tree → Bool
siblings_differ NoNode = true
siblings_differ (Branch head children rest) =
    not (list_any (is_same head.name) (names_of rest)) && siblings_differ children && siblings_differ rest

-- a node's name is a name
abbrev pub has_name : Site → Bool
has_name site = is_name site.head.name

-- different nodes have different paths
abbrev pub AreDistinct : List Site → Type 0
AreDistinct plan =
    (i j : ℕ) → i < length plan → j < length plan → (get_or plan i no_site).path ≡ (get_or plan j no_site).path → i ≡ j

-- ---- a node's own parts

-- texts differ from one another
abbrev pub all_differ : List (List ℕ) → Bool
all_differ [] = true
all_differ (name ∷ names) = not (list_any (is_same name) names) && all_differ names

-- the variables of a node differ in name
abbrev pub variables_differ : Site → Bool
variables_differ site = all_differ (map (λ variable. variable.name) site.head.variables)

-- a node has the body of its kind
abbrev pub is_body_of : Kind → BodyData → Bool
is_body_of kinds.List Nothing = true
is_body_of kinds.Empty Nothing = true
is_body_of kinds.Assignment (Assign target value) = true
is_body_of kinds.Command (Command name args result) = true
is_body_of kinds.Update (Update pairs) = true
is_body_of kind body = false

abbrev pub has_its_body : Site → Bool
has_its_body site = is_body_of site.head.kind site.head.body

-- an array has 1 to 256 elements, and a variable at most as many initial values as cells
abbrev pub has_right_size : Option ℕ → Bool
has_right_size None = true
has_right_size (Some size) = nat_le 1 size && nat_le size 256

abbrev pub has_right_cells : VariableData → Bool
has_right_cells variable = has_right_size variable.size && nat_le (length variable.init) (cells_of variable)

abbrev pub has_right_variables : Site → Bool
has_right_variables site = list_all has_right_cells site.head.variables

-- ---- what a node's expressions speak of

-- a node of any kind, a Command, an Update; a scalar or an array and the node that declares it
pub data Reference : Type 0 where
  Node : (path : List ℕ) → Reference
  CommandNode : (path : List ℕ) → Reference
  UpdateNode : (path : List ℕ) → Reference
  Scalar : (owner name : List ℕ) → Reference
  Array : (owner name : List ℕ) → Reference

-- what an expression speaks of, from left to right
abbrev mutual
  pub references : Term → List Reference
  references (Literal value) = []
  references (Var owner name) = Scalar owner name ∷ []
  references (Cell owner name index) = Array owner name ∷ references index
  references (StateOf path) = Node path ∷ []
  references (OutcomeOf path) = Node path ∷ []
  references (FailureOf path) = Node path ∷ []
  references (HandleOf path) = CommandNode path ∷ []
  references (Acknowledged path) = UpdateNode path ∷ []
  references (Look word name args tolerance) = references_of_each args
  references (Unary op arg) = references arg
  references (Binary op left right) = references left ++ references right

  pub references_of_each : Terms → List Reference
  references_of_each NoTerms = []
  references_of_each (More first rest) = references first ++ references_of_each rest

-- a target is a scalar, or an element of an array
abbrev pub references_of_target : TargetData → List Reference
references_of_target target = with_index target.index
  where
    with_index : Option Term → List Reference
    with_index None = Scalar target.owner target.name ∷ []
    with_index (Some index) = Array target.owner target.name ∷ references index

abbrev pub targets_of : BodyData → List TargetData
targets_of Nothing = []
targets_of (Assign target value) = target ∷ []
targets_of (Command name args result) = option_to_list result
targets_of (Update pairs) = []

abbrev pub terms_of : BodyData → List Term
terms_of Nothing = []
terms_of (Assign target value) = value ∷ []
terms_of (Command name args result) = args
terms_of (Update pairs) = map (λ pair. pair.value) pairs

abbrev pub terms_of_conditions : ConditionTerms → List Term
terms_of_conditions c =
    c.start ∷ c.end ∷ c.exit ∷ c.skip ∷ c.repeat ∷ c.pre ∷ c.post ∷ c.invariant ∷ []

-- what a node speaks of, in its conditions and then in its body
abbrev pub references_of_site : Site → List Reference
references_of_site site =
    flat_map references (terms_of_conditions site.head.conditions)
    ++ (flat_map references (terms_of site.head.body) ++ flat_map references_of_target (targets_of site.head.body))

-- ---- whether a plan has it

-- some node at this path is as asked
abbrev pub has_site : (Site → Bool) → List ℕ → List Site → Bool
has_site holds path plan = list_any (λ site. is_same site.path path && holds site) plan

abbrev pub is_command : Kind → Bool
is_command kinds.Command = true
is_command kind = false

abbrev pub is_update : Kind → Bool
is_update kinds.Update = true
is_update kind = false

-- a variable of this name is declared: an array, which has a size, or a scalar
abbrev pub declares_in : Bool → List ℕ → List VariableData → Bool
declares_in true name variables = list_any (λ variable. is_same variable.name name && is_some variable.size) variables
declares_in false name variables = list_any (λ variable. is_same variable.name name && not (is_some variable.size)) variables

-- a node declares a scalar of this name; an array
abbrev pub declares_scalar : List ℕ → Site → Bool
declares_scalar name site = declares_in false name site.head.variables

abbrev pub declares_array : List ℕ → Site → Bool
declares_array name site = declares_in true name site.head.variables

-- each path is that of a node, of the kind that is asked
abbrev pub path_is_there : List Site → Reference → Bool
path_is_there plan (Node path) = has_site (λ site. true) path plan
path_is_there plan (CommandNode path) = has_site (λ site. is_command site.head.kind) path plan
path_is_there plan (UpdateNode path) = has_site (λ site. is_update site.head.kind) path plan
path_is_there plan (Scalar owner name) = has_site (λ site. true) owner plan
path_is_there plan (Array owner name) = has_site (λ site. true) owner plan

-- each variable is declared by its owner, and has an index exactly where it is an array
abbrev pub variable_is_there : List Site → Reference → Bool
variable_is_there plan (Scalar owner name) = has_site (declares_scalar name) owner plan
variable_is_there plan (Array owner name) = has_site (declares_array name) owner plan
variable_is_there plan mention = true

-- what is spoken of is there
abbrev pub is_there : List Site → Reference → Bool
is_there plan mention = path_is_there plan mention && variable_is_there plan mention

abbrev pub paths_are_there : List Site → Site → Bool
paths_are_there plan site = list_all (path_is_there plan) (references_of_site site)

abbrev pub variables_are_there : List Site → Site → Bool
variables_are_there plan site = list_all (variable_is_there plan) (references_of_site site)

-- the owner of a target is the node that has the target or one of its ancestors
abbrev pub owns_its_targets : Site → Bool
owns_its_targets site =
    list_all (λ target. list_any (is_same target.owner) (site.path ∷ site.above)) (targets_of site.head.body)

pub record IsFit (tree : Tree) : Type 0 where
  pub root : IsTrue (has_one_root tree)
  pub count : count_of tree ≤ 4096
  pub paths : IsTrue (list_all has_short_path (sites tree))
  pub cells : cells_of_all tree ≤ 131072
  pub lists : IsTrue (only_lists_have_children tree)
  pub siblings : IsTrue (siblings_differ tree)
  pub variables : IsTrue (list_all variables_differ (sites tree))
  pub bodies : IsTrue (list_all has_its_body (sites tree))
  pub arrays : IsTrue (list_all has_right_variables (sites tree))
  pub spoken : IsTrue (list_all (paths_are_there (sites tree)) (sites tree))
  pub declared : IsTrue (list_all (variables_are_there (sites tree)) (sites tree))
  pub targets : IsTrue (list_all owns_its_targets (sites tree))
