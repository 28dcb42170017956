-- Chains of `if`s: what is left of one while it is opened, and what it is once it is closed.
use Rattle.std.proofs.Common.{◌≡◌, ℕ, suc, ◌+◌, ◌<◌, ◌≤◌, max, List, [], ◌∷◌, ◌++◌, length, map, drop, get_or, Option, Some, option_map}
use Rattle.std.proofs.Common.{refl, ap, sym, ◌∙◌, arith, add-one, length-append}
use Rattle.std.proofs.Math.ListN.{drop_of_length-le}
use Rattle.std.proofs.lemmas.List.{drop-drop}
use Rattle.px_value.proofs.General.{cut_at}
use Rattle.px_syntax.specs.declared.block.Branch.{Branch, out-Branch}
use Rattle.px_syntax.specs.declared.block.Guarded.{Guarded, out-Guarded}
use Rattle.px_syntax.specs.Block.{GuardedTree, ElseIfs, ElseIf, ElseTree, block_of, branch_of, else_ifs_in_turn, else_of, guarded_of}
use Rattle.px_syntax.specs.Block as text
use Rattle.px_syntax.proofs.Trees.{branch_is}
use Rattle.px_core.specs.declared.node.CoreNode.{CoreNode}
use Rattle.px_core.specs.declared.node.CoreNode.TheFolds.{fold-CoreNode}
use Rattle.px_core.specs.Expr.{Term}
use Rattle.px_core.specs.Plan.{Tree, NoNode, branch as part, tree_of_node}
use Rattle.px_expand.specs.declared.opened.OpenIf.{OpenIf}
use Rattle.px_expand.specs.Chain.{stands, open_scope, closed, all_closed, test_in, branch_in}
use Rattle.px_expand.specs.Core.{Otherwise, block_core, branch_core, branch_name, chain_core, else_core, if_core, if_scope, if_seen}
use Rattle.px_forms.specs.Forms.{conditional, where_found, where_not_found}
use Rattle.px_forms.specs.Names.{else_name, then_name}
use Rattle.px_expand.specs.Names.{named}
use Rattle.px_forms.specs.Nodes.{Place, alone, before, child}
use Rattle.px_expand.specs.Children.{paths_of}
use Rattle.px_scope.specs.Resolving.{resolved}
use Rattle.px_scope.specs.Scope.{Scope}
use Rattle.px_expand.specs.Size.{block_reach, branch_reach, else_if_nodes, else_if_reach, else_nodes, else_reach, guarded_nodes, guarded_reach}
use Rattle.px_expand.proofs.Loops.{branch_made, guarded_branch}
use Rattle.px_forms.proofs.Trees.{known_before}

abbrev pub ifs : List Guarded → ElseIfs
ifs guarded = else_ifs_in_turn (map guarded_of guarded)

-- the last `if` is closed first
pub closed_more : (outer : List OpenIf) (opened : OpenIf) (behind : Tree)
    → all_closed (outer ++ (opened ∷ [])) behind ≡ all_closed outer (closed opened behind)
closed_more [] opened behind = refl
closed_more (first ∷ outer) opened behind = ap (closed first) (closed_more outer opened behind)

-- an `if` with what stands behind its branch made beforehand
pub made_before : (scope : Scope) (place : Place) (otherwise : Otherwise) (guarded : GuardedTree)
    → if_core scope place (stands otherwise.name (otherwise.nodes (open_scope scope place guarded otherwise.name) place.path)) guarded
    ≡ if_core scope place otherwise guarded
made_before scope place otherwise (text.Guarded test branch) = refl

-- an `if` stands in the scope round it
pub left_scope : (scope inner : Scope) (place : Place) (guarded : GuardedTree) (behind : Option (List ℕ)) (depth : ℕ)
    → inner ≡ open_scope scope place guarded behind
    → drop (suc depth) inner ≡ drop depth scope
left_scope scope inner place (text.Guarded test branch) behind depth is = ap (drop (suc depth)) is

pub record ChainLeft (last : ElseTree) (others : List Guarded) (whole : Tree) (round : Scope) (nodes : ℕ)
    (number : ℕ) (inner : Scope) (place : Place) (guarded : Guarded) (outer : List OpenIf) : Type 0 where
  pub fewer : guarded_nodes (guarded_of guarded) + else_if_nodes (ifs (drop number others)) ≤ nodes
  pub room : length place.path
      + max (guarded_reach then_name (guarded_of guarded)) (else_if_reach (else_reach last) (ifs (drop number others))) ≤ 5000
  pub scope : drop (length outer) inner ≡ round
  pub node : all_closed outer
      (alone (if_core inner place (chain_core (else_core last) (ifs (drop number others))) (guarded_of guarded)))
      ≡ whole

module _ (last : ElseTree) (others : List Guarded) (whole : Tree) (round : Scope) (nodes number : ℕ) (other : Guarded)
    (within : number < length others) (is : other ≡ get_or others number other)
    (scope : Scope) (place : Place) (guarded : Guarded) (outer : List OpenIf)
    (left : ChainLeft last others whole round nodes number scope place guarded outer) where
  cut : ifs (drop number others) ≡ ElseIf (guarded_of other) (ifs (drop (number + 1) others))
  cut = ap ifs (cut_at others number other within is)

  -- the `if` and the next one have room
  pub room_before : length place.path + 6 ≤ 5000
  room_before =
      omega (arith, left.room, ap (else_if_reach (else_reach last)) cut)

  pub chain_more : (inner : Scope) (name : List ℕ) (opened : OpenIf) (next : Place) (more : List OpenIf)
      → name ≡ else_name
      → inner ≡ open_scope scope place (guarded_of guarded) (Some name)
      → ((after : Tree) → closed opened after ≡ alone (if_core scope place (stands (Some name) after) (guarded_of guarded)))
      → next ≡ child place.path else_name (where_not_found place.path)
      → more ≡ outer ++ (opened ∷ [])
      → ChainLeft last others whole round nodes (number + 1) inner next other more
  chain_more inner name opened next more named inner_is closes next_is more_is =
      let rest : ElseIfs = ifs (drop (number + 1) others) in
      let behind : Otherwise = chain_core (else_core last) rest in
      let all : Otherwise = chain_core (else_core last) (ElseIf (guarded_of other) rest) in
      let here : Scope = open_scope scope place (guarded_of guarded) (Some else_name) in
      let there : Place = child place.path else_name (where_not_found place.path) in
      let scope_is : inner ≡ here = inner_is ∙ ap (λ name. open_scope scope place (guarded_of guarded) (Some name)) named in
      let far : length next.path ≡ length place.path + 6 =
      ap (λ (at : Place). length at.path) next_is ∙ length-append place.path (46 ∷ else_name) in
      let longer : length more ≡ suc (length outer) =
      ap length more_is ∙ length-append outer (opened ∷ []) ∙ add-one (length outer) in
      record {
        fewer = omega (arith, left.fewer, ap else_if_nodes cut);
        room = omega (arith, left.room, far, ap (else_if_reach (else_reach last)) cut);
        scope =
            ap (λ n. drop n inner) longer
            ∙ left_scope scope inner place (guarded_of guarded) (Some name) (length outer) inner_is
            ∙ left.scope;
        node =
            ap (λ outer. all_closed outer (alone (if_core inner next behind (guarded_of other)))) more_is
            ∙ closed_more outer opened (alone (if_core inner next behind (guarded_of other)))
            ∙ ap (all_closed outer) (closes (alone (if_core inner next behind (guarded_of other))))
            ∙ ap (λ name. all_closed outer (alone (if_core scope place
            (stands (Some name) (alone (if_core inner next behind (guarded_of other)))) (guarded_of guarded)))) named
            ∙ ap (λ inner. all_closed outer (alone (if_core scope place
            (stands (Some else_name) (alone (if_core inner next behind (guarded_of other)))) (guarded_of guarded)))) scope_is
            ∙ ap (λ next. all_closed outer (alone (if_core scope place
            (stands (Some else_name) (alone (if_core here next behind (guarded_of other)))) (guarded_of guarded)))) next_is
            ∙ ap (λ node. all_closed outer (alone node)) (made_before scope place all (guarded_of guarded))
            ∙ ap (λ left. all_closed outer (alone (if_core scope place (chain_core (else_core last) left) (guarded_of guarded)))) (sym cut)
            ∙ left.node;
      }

-- no `elseif` is left
pub chain_opened : (last : ElseTree) (others : List Guarded) (whole : Tree) (round : Scope) (nodes number : ℕ)
    (scope : Scope) (place : Place) (guarded : Guarded) (outer : List OpenIf)
    → length others ≤ number
    → ChainLeft last others whole round nodes number scope place guarded outer
    → (length place.path + max (guarded_reach then_name (guarded_of guarded)) (else_reach last) ≤ 5000)
    × (all_closed outer (alone (if_core scope place (else_core last) (guarded_of guarded))) ≡ whole)
chain_opened last others whole round nodes number scope place guarded outer past left =
    let none : ifs (drop number others) ≡ text.NoElseIfs = ap ifs (drop_of_length-le others past) in (
      omega (arith, left.room, ap (else_if_reach (else_reach last)) none),
      ap (λ left. all_closed outer (alone (if_core scope place (chain_core (else_core last) left) (guarded_of guarded)))) (sym none)
          ∙ left.node,
    )

-- the innermost `if` is left, and closed
pub left_again : (outer rest : List OpenIf) (opened : OpenIf) (scope : Scope)
    → outer ≡ rest ++ (opened ∷ [])
    → drop (length rest) (drop 1 scope) ≡ drop (length outer) scope
left_again outer rest opened scope is =
    let count : 1 + length rest ≡ length outer = omega (arith, ap length is, length-append rest (opened ∷ [])) in
    drop-drop (length rest) 1 scope ∙ ap (λ n. drop n scope) count

pub closed_again : (outer rest : List OpenIf) (opened : OpenIf) (behind after : Tree)
    → outer ≡ rest ++ (opened ∷ [])
    → after ≡ closed opened behind
    → all_closed rest after ≡ all_closed outer behind
closed_again outer rest opened behind after is made =
    ap (all_closed rest) made
    ∙ sym (closed_more rest opened behind)
    ∙ ap (λ outer. all_closed outer behind) (sym is)

-- ---- an `if` that is opened

-- each test has room for `#set`
pub room_for_set : (unlabelled : List ℕ) (guarded : GuardedTree) → 5 ≤ guarded_reach unlabelled guarded
room_for_set unlabelled (text.Guarded test branch) = omega arith

pub guarded_made : (guarded : Guarded) (scope : Scope) (at place : Place) (node : CoreNode)
    → tree_of_node node ≡ alone (block_core scope at (block_of (out-Branch (out-Guarded guarded).branch).block))
    → at ≡ place
    → tree_of_node node ≡ alone (branch_core scope place (branch_in (guarded_of guarded)))
guarded_made guarded scope at place node node_is at_is =
    branch_made scope at place (out-Guarded guarded).branch (tree_of_node node) node_is at_is
    ∙ ap (λ branch. alone (branch_core scope place branch)) (guarded_branch guarded)

pub is_opened : (scope inner : Scope) (place : Place) (guarded : GuardedTree) (behind : Option (List ℕ))
    (test : Term) (paths : List (List ℕ)) (node : CoreNode)
    → inner ≡ open_scope scope place guarded behind
    → test ≡ resolved (open_scope scope place guarded behind) (test_in guarded)
    → paths ≡ paths_of (if_seen place.path (branch_in guarded) (stands behind NoNode))
    → tree_of_node node
    ≡ alone (branch_core inner (child place.path (branch_name then_name (branch_in guarded)) (where_found place.path)) (branch_in guarded))
    → (after : Tree) → alone (conditional place test paths (fold-CoreNode (Tree → Tree) part node after))
    ≡ alone (if_core scope place (stands behind after) guarded)
is_opened scope inner place (text.Guarded own branch) behind test paths node inner_is test_is paths_is node_is after =
    let here : Scope = if_scope scope place branch (stands behind NoNode) in
    let seen : List (List ℕ) = paths_of (if_seen place.path branch (stands behind NoNode)) in
    let at : Place = child place.path (branch_name then_name branch) (where_found place.path) in
    ap (λ test. alone (conditional place test paths (fold-CoreNode (Tree → Tree) part node after))) test_is
    ∙ ap (λ paths. alone (conditional place (resolved here own) paths (fold-CoreNode (Tree → Tree) part node after))) paths_is
    ∙ ap (λ nodes. alone (conditional place (resolved here own) seen nodes)) (known_before node (branch_core inner at branch) after node_is)
    ∙ ap (λ inner. alone (conditional place (resolved here own) seen (before (branch_core inner at branch) after))) inner_is

-- ---- what stands after `else`

pub record ElseRoom (path : List ℕ) (guarded : GuardedTree) (branch : Branch) : Type 0 where
  pub before : length path + guarded_reach then_name guarded ≤ 5000
  pub name : length path + length (named (out-Branch branch).label else_name) < 5000
  pub own : length path + length (branch_name else_name (branch_of branch)) < 5000
  pub reach : length path + branch_reach else_name (branch_of branch) ≤ 5000

pub else_room : (path : List ℕ) (guarded : GuardedTree) (otherwise : Option Branch) (branch : Branch)
    → otherwise ≡ Some branch
    → length path + max (guarded_reach then_name guarded) (else_reach (else_of (option_map branch_of otherwise))) ≤ 5000
    → ElseRoom path guarded branch
else_room path guarded otherwise branch is room =
    let reach : else_reach (else_of (option_map branch_of otherwise)) ≡ branch_reach else_name (branch_of branch) =
    ap (λ otherwise. else_reach (else_of (option_map branch_of otherwise))) is in
    let known : branch_reach else_name (branch_of branch)
    ≡ 1 + length (named (out-Branch branch).label else_name) + block_reach (block_of (out-Branch branch).block) =
    ap (branch_reach else_name) (branch_is branch) in
    let name : length (branch_name else_name (branch_of branch)) ≡ length (named (out-Branch branch).label else_name) =
    ap (λ tree. length (branch_name else_name tree)) (branch_is branch) in
    record {
      before = omega arith;
      name = omega arith;
      own = omega arith;
      reach = omega arith;
    }

abbrev pub count_else : Option Branch → ℕ
count_else otherwise = else_nodes (else_of (option_map branch_of otherwise))
