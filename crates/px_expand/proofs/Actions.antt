-- The actions of a block, one after another: how far their paths reach, what is seen of them, and their nodes.
use Rattle.std.proofs.Common.{◌≡◌, ℕ, zero, suc, ◌+◌, ◌<◌, ◌≤◌, max, List, [], ◌∷◌, ◌++◌, length, map, drop, get_or, Option, Some, None}
use Rattle.std.proofs.Common.{refl, ap, sym, ◌∙◌, arith, add-one, append_assoc}
use Rattle.std.proofs.Math.ListN.{drop_of_length-le}
use Rattle.indexmap.specs.IndexMap.{insert_all, insert_entry}
use Rattle.px_value.specs.Path.{below}
use Rattle.px_value.proofs.General.{cut_at}
use Rattle.px_syntax.specs.declared.block.Action.{Action, out-Action}
use Rattle.px_syntax.specs.declared.word.BlockForm.{BlockForm}
use Rattle.px_syntax.specs.Block.{Actions, More, action_of, body_of}
use Rattle.px_syntax.proofs.Trees.{action_is, in_turn}
use Rattle.px_core.specs.declared.node.CoreNode.{CoreNode}
use Rattle.px_core.specs.declared.node.CoreNode.TheFolds.{fold-CoreNode}
use Rattle.px_core.specs.Plan.{Tree, NoNode, branch, is_same, tree_of_node, trees_of}
use Rattle.px_forms.specs.Adding.{Added}
use Rattle.px_expand.specs.Core.{actions_core, actions_seen, action_core, body_core, name_of, follows}
use Rattle.px_forms.specs.Nodes.{Place, alone, before, child}
use Rattle.px_expand.specs.Children.{names_of, paths_of, seen}
use Rattle.px_scope.specs.Scope.{Scope, Table, table}
use Rattle.px_expand.specs.Size.{through, action_nodes, action_reach, actions_nodes, actions_reach, body_nodes, body_reach}
use Rattle.px_forms.proofs.Trees.{known_before}

-- the actions that are left at a place that one stands at
pub left_at : (actions : List Action) (place : ℕ) (action : Action)
    → place < length actions → action ≡ get_or actions place action
    → in_turn (drop place actions) ≡ More (action_of action) (in_turn (drop (place + 1) actions))
left_at actions place action within is =
    ap in_turn (cut_at actions place action within is)

-- a function of a place and of what is left there
at_next : {Y : Type 0} (F : ℕ → Actions → Y) (actions : List Action) (place : ℕ) (action : Action)
    → place < length actions → action ≡ get_or actions place action
    → F (place + 1) (in_turn (drop place actions))
    ≡ F (place + 1) (More (action_of action) (in_turn (drop (place + 1) actions)))
at_next F actions place action within is = ap (F (place + 1)) (left_at actions place action within is)

-- ---- paths

-- how far an action reaches, and those behind it
pub reach_at : (actions : List Action) (place : ℕ) (action : Action) (number : ℕ)
    → place < length actions → action ≡ get_or actions place action
    → actions_reach number (in_turn (drop place actions))
    ≡ max (through (name_of number (action_of action)) (body_reach (body_of (out-Action action).body)))
    (actions_reach (suc number) (in_turn (drop (place + 1) actions)))
reach_at actions place action number within is =
    ap (actions_reach number) (left_at actions place action within is)
    ∙ ap (λ tree. max (through (name_of number (action_of action)) (action_reach tree)) (actions_reach (suc number) (in_turn (drop (place + 1) actions))))
    (action_is action)

-- the paths of an action and of those behind it are short
pub record Room (path : List ℕ) (actions : List Action) (place : ℕ) (action : Action) : Type 0 where
  pub name : length path + length (name_of (place + 1) (action_of action)) < 5000
  pub body : length path + through (name_of (place + 1) (action_of action)) (body_reach (body_of (out-Action action).body)) ≤ 5000
  pub rest : length path + actions_reach (place + 1 + 1) (in_turn (drop (place + 1) actions)) ≤ 5000

pub room : (path : List ℕ) (actions : List Action) (place : ℕ) (action : Action)
    → place < length actions → action ≡ get_or actions place action
    → length path + actions_reach (place + 1) (in_turn (drop place actions)) ≤ 5000
    → Room path actions place action
room path actions place action within is short =
    let name : List ℕ = name_of (place + 1) (action_of action) in
    let body : ℕ = body_reach (body_of (out-Action action).body) in
    let rest : Actions = in_turn (drop (place + 1) actions) in
    let reach : actions_reach (place + 1) (in_turn (drop place actions))
    ≡ max (1 + length name + body) (actions_reach (place + 1 + 1) rest) =
    reach_at actions place action (place + 1) within is
    ∙ ap (λ n. max (1 + length name + body) (actions_reach n rest)) (sym (add-one (place + 1))) in
    record {
      name = omega (arith, reach, short);
      body = omega (arith, reach, short);
      rest = omega (arith, reach, short);
    }

-- ---- nodes

fewer_behind : (place : ℕ) (actions : List Action) → actions_nodes (in_turn (drop place actions)) ≤ actions_nodes (in_turn actions)
fewer_behind zero [] = omega arith
fewer_behind zero (first ∷ rest) = omega arith
fewer_behind (suc place) [] = omega arith
fewer_behind (suc place) (first ∷ rest) = omega (arith, fewer_behind place rest)

-- an action has its nodes, and those behind it have theirs
pub action_counted : (actions : List Action) (place : ℕ) (action : Action)
    → place < length actions → action ≡ get_or actions place action
    → actions_nodes (in_turn (drop place actions))
    ≡ body_nodes (body_of (out-Action action).body) + actions_nodes (in_turn (drop (place + 1) actions))
action_counted actions place action within is =
    ap actions_nodes (left_at actions place action within is)
    ∙ ap (λ tree. action_nodes tree + actions_nodes (in_turn (drop (place + 1) actions))) (action_is action)

-- an action has no more nodes than all
pub fewer_left : (actions : List Action) (place : ℕ) (action : Action)
    → place < length actions → action ≡ get_or actions place action
    → body_nodes (body_of (out-Action action).body) ≤ actions_nodes (in_turn actions)
fewer_left actions place action within is =
    omega (arith, action_counted actions place action within is, fewer_behind place actions)

-- ---- what is seen of them

-- what is listed of them
listed_more : (of_each : List ℕ × List ℕ → List ℕ) (known more : List (List ℕ)) (first : List ℕ × List ℕ) (rest : Table)
    → more ≡ known ++ (of_each first ∷ []) → more ++ map of_each rest ≡ known ++ map of_each (first ∷ rest)
listed_more of_each known more first rest is =
    ap (λ known. known ++ map of_each rest) is ∙ append_assoc known (of_each first ∷ []) (map of_each rest)

pub record SeenLeft (path : List ℕ) (actions : List Action) (place : ℕ) (entries : Table) (named listed : List (List ℕ)) : Type 0 where
  pub room : length path + actions_reach (place + 1) (in_turn (drop place actions)) ≤ 5000
  pub by_name : insert_all is_same entries (actions_seen path (place + 1) (in_turn (drop place actions)))
      ≡ table (actions_seen path 1 (in_turn actions))
  pub names : named ++ names_of (actions_seen path (place + 1) (in_turn (drop place actions)))
      ≡ names_of (actions_seen path 1 (in_turn actions))
  pub paths : listed ++ paths_of (actions_seen path (place + 1) (in_turn (drop place actions)))
      ≡ paths_of (actions_seen path 1 (in_turn actions))

pub seen_more : (path : List ℕ) (actions : List Action) (place : ℕ) (action : Action) (entries more : Table)
    (names known paths longer : List (List ℕ)) (name : List ℕ)
    → place < length actions → action ≡ get_or actions place action
    → name ≡ name_of (place + 1) (action_of action)
    → more ≡ insert_entry is_same entries name (below path name)
    → known ≡ names ++ (name ∷ [])
    → longer ≡ paths ++ (below path name ∷ [])
    → SeenLeft path actions place entries names paths
    → SeenLeft path actions (place + 1) more known longer
seen_more path actions place action entries more names known paths longer name within is named more_is known_is longer_is left =
    let own : List ℕ = name_of (place + 1) (action_of action) in
    let rest : Actions = in_turn (drop (place + 1) actions) in
    let seen : actions_seen path (place + 1) (in_turn (drop place actions))
    ≡ (own, below path own) ∷ actions_seen path (place + 1 + 1) rest =
    at_next (actions_seen path) actions place action within is
    ∙ ap (λ n. (own, below path own) ∷ actions_seen path n rest) (sym (add-one (place + 1))) in
    record {
      room = (room path actions place action within is left.room).rest;
      by_name =
          ap (λ known. insert_all is_same known (actions_seen path (place + 1 + 1) rest))
          (more_is ∙ ap (λ n. insert_entry is_same entries n (below path n)) named)
          ∙ ap (insert_all is_same entries) (sym seen)
          ∙ left.by_name;
      names =
          listed_more (λ child. child.0) names known (own, below path own) (actions_seen path (place + 1 + 1) rest)
          (known_is ∙ ap (λ n. names ++ (n ∷ [])) named)
          ∙ ap (λ table. names ++ names_of table) (sym seen)
          ∙ left.names;
      paths =
          listed_more (λ child. child.1) paths longer (own, below path own) (actions_seen path (place + 1 + 1) rest)
          (longer_is ∙ ap (λ n. paths ++ (below path n ∷ [])) named)
          ∙ ap (λ table. paths ++ paths_of table) (sym seen)
          ∙ left.paths;
    }

-- as many as they are
pub length_seen : (of_each : List ℕ × List ℕ → List ℕ) (path : List ℕ) (place : ℕ) (actions : List Action)
    → length (map of_each (actions_seen path place (in_turn actions))) ≡ length actions
length_seen of_each path place [] = refl
length_seen of_each path place (first ∷ rest) = ap suc (length_seen of_each path (suc place) rest)

-- and each in its place
pub seen_at : (of_each : List ℕ × List ℕ → List ℕ) (path : List ℕ) (from : ℕ) (actions : List Action) (place : ℕ) (action : Action)
    (listed : List (List ℕ)) (item : List ℕ)
    → place < length actions → action ≡ get_or actions place action
    → listed ≡ map of_each (actions_seen path from (in_turn actions)) → item ≡ get_or listed place item
    → item ≡ of_each (seen path (name_of (place + from) (action_of action)))
seen_at of_each path from [] place action listed item within is listed_is item_is = absurd (omega (arith, within))
seen_at of_each path from (first ∷ rest) zero action listed item within is listed_is item_is =
    item_is ∙ ap (λ listed. get_or listed 0 item) listed_is
    ∙ ap (λ action. of_each (seen path (name_of from (action_of action)))) (sym is)
    ∙ ap (λ n. of_each (seen path (name_of n (action_of action)))) (omega arith)
seen_at of_each path from (first ∷ rest) (suc place) action listed item within is listed_is item_is =
    seen_at of_each path (suc from) rest place action (map of_each (actions_seen path (suc from) (in_turn rest))) item
    (omega (arith, within)) is refl (item_is ∙ ap (λ listed. get_or listed (suc place) item) listed_is)
    ∙ ap (λ n. of_each (seen path (name_of n (action_of action)))) (omega arith)

abbrev pub standing : List ℕ → List ℕ → Added → Place
standing path name added = record { path = path; name = name; added = added }

-- where an action stands
pub stands_at : (path : List ℕ) (actions : List Action) (place : ℕ) (action : Action) (names paths : List (List ℕ))
    (name own : List ℕ) (at : Place) (added : Added)
    → place < length actions → action ≡ get_or actions place action
    → names ≡ names_of (actions_seen path 1 (in_turn actions)) → paths ≡ paths_of (actions_seen path 1 (in_turn actions))
    → name ≡ get_or names place name → own ≡ get_or paths place own
    → at ≡ standing own name added
    → at ≡ child path (name_of (place + 1) (action_of action)) added
stands_at path actions place action names paths name own at added within is names_is paths_is name_is own_is at_is =
    let named : name ≡ name_of (place + 1) (action_of action) =
    seen_at (λ child. child.0) path 1 actions place action names name within is names_is name_is in
    let stands : own ≡ below path (name_of (place + 1) (action_of action)) =
    seen_at (λ child. child.1) path 1 actions place action paths own within is paths_is own_is in
    at_is
    ∙ ap (λ own. standing own name added) stands
    ∙ ap (λ name. standing (below path (name_of (place + 1) (action_of action))) name added) named

-- and the branch of a test, the first of its children
pub stands_first : (path name : List ℕ) (rest : Table) (names paths : List (List ℕ)) (own at : List ℕ) (stood added : Added)
    → names ≡ names_of (seen path name ∷ rest) → paths ≡ paths_of (seen path name ∷ rest)
    → own ≡ get_or names 0 own → at ≡ get_or paths 0 at → stood ≡ added
    → standing at own stood ≡ child path name added
stands_first path name rest names paths own at stood added names_is paths_is own_is at_is stood_is =
    ap (λ at. standing at own stood) (at_is ∙ ap (λ paths. get_or paths 0 at) paths_is)
    ∙ ap (λ own. standing (below path name) own stood) (own_is ∙ ap (λ names. get_or names 0 own) names_is)
    ∙ ap (standing (below path name) name) stood_is

-- ---- their nodes

-- nodes before others
abbrev pub onto : List CoreNode → Tree → Tree
onto [] rest = rest
onto (node ∷ nodes) rest = fold-CoreNode (Tree → Tree) branch node (onto nodes rest)

pub onto_none : (nodes : List CoreNode) → onto nodes NoNode ≡ trees_of nodes
onto_none [] = refl
onto_none (node ∷ nodes) = ap (fold-CoreNode (Tree → Tree) branch node) (onto_none nodes)

pub onto_more : (nodes : List CoreNode) (node : CoreNode) (rest : Tree)
    → onto (nodes ++ (node ∷ [])) rest ≡ onto nodes (fold-CoreNode (Tree → Tree) branch node rest)
onto_more [] node rest = refl
onto_more (first ∷ nodes) node rest = ap (fold-CoreNode (Tree → Tree) branch first) (onto_more nodes node rest)

pub record NodesLeft (scope : Scope) (path : List ℕ) (form : BlockForm) (actions : List Action) (place : ℕ)
    (behind : Option (List ℕ)) (made : List CoreNode) : Type 0 where
  pub room : length path + actions_reach (place + 1) (in_turn (drop place actions)) ≤ 5000
  pub nodes : onto made (actions_core scope path form behind (place + 1) (in_turn (drop place actions)))
      ≡ actions_core scope path form None 1 (in_turn actions)

pub nodes_none : (scope : Scope) (path : List ℕ) (form : BlockForm) (actions : List Action) (nodes : List CoreNode)
    → nodes ≡ []
    → length path + actions_reach 1 (in_turn actions) ≤ 5000
    → NodesLeft scope path form actions 0 None nodes
nodes_none scope path form actions nodes none room = record {
  room = room;
  nodes = ap (λ nodes. onto nodes (actions_core scope path form None 1 (in_turn actions))) none;
}

pub nodes_more : (scope : Scope) (path : List ℕ) (form : BlockForm) (actions : List Action) (place : ℕ) (action : Action)
    (behind next : Option (List ℕ)) (nodes more : List CoreNode) (node : CoreNode) (at : Place)
    → place < length actions → action ≡ get_or actions place action
    → at ≡ child path (name_of (place + 1) (action_of action)) (follows form behind)
    → tree_of_node node ≡ alone (body_core scope at (body_of (out-Action action).body))
    → next ≡ Some at.path
    → more ≡ nodes ++ (node ∷ [])
    → NodesLeft scope path form actions place behind nodes
    → NodesLeft scope path form actions (place + 1) next more
nodes_more scope path form actions place action behind next nodes more node at within is at_is node_is next_is more_is left =
    let own : List ℕ = name_of (place + 1) (action_of action) in
    let here : Place = child path own (follows form behind) in
    let rest : Actions = in_turn (drop (place + 1) actions) in
    let others : Tree = actions_core scope path form (Some (below path own)) (place + 1 + 1) rest in
    let known : tree_of_node node ≡ alone (action_core scope here (action_of action)) =
    node_is ∙ ap (λ at. alone (body_core scope at (body_of (out-Action action).body))) at_is
    ∙ ap (λ tree. alone (action_core scope here tree)) (sym (action_is action)) in
    let split : actions_core scope path form behind (place + 1) (in_turn (drop place actions))
    ≡ before (action_core scope here (action_of action)) others =
    at_next (actions_core scope path form behind) actions place action within is
    ∙ ap (λ n. before (action_core scope here (action_of action)) (actions_core scope path form (Some (below path own)) n rest))
    (sym (add-one (place + 1))) in
    record {
      room = (room path actions place action within is left.room).rest;
      nodes =
          ap (λ known. onto more (actions_core scope path form known (place + 1 + 1) rest))
          (next_is ∙ ap (λ (at : Place). Some at.path) at_is)
          ∙ ap (λ nodes. onto nodes others) more_is
          ∙ onto_more nodes node others
          ∙ ap (onto nodes) (known_before node (action_core scope here (action_of action)) others known)
          ∙ ap (onto nodes) (sym split)
          ∙ left.nodes;
    }

-- no action is left
pub nodes_done : (scope : Scope) (path : List ℕ) (form : BlockForm) (actions : List Action) (place : ℕ)
    (behind : Option (List ℕ)) (nodes : List CoreNode)
    → length actions ≤ place
    → NodesLeft scope path form actions place behind nodes
    → trees_of nodes ≡ actions_core scope path form None 1 (in_turn actions)
nodes_done scope path form actions place behind nodes past left =
    sym (onto_none nodes)
    ∙ ap (λ left. onto nodes (actions_core scope path form behind (place + 1) (in_turn left))) (sym (drop_of_length-le actions past))
    ∙ left.nodes
