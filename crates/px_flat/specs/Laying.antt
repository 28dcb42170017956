-- A plan's nodes laid out in preorder, row by row.
use Rattle.std.specs.Prelude.{◌≡◌, ℕ, ◌+◌, List, [], ◌∷◌, ◌++◌, map, Option, Some, None, IsTrue}
use Rattle.std.specs.Borrow.{Bor}
use Rattle.px_value.specs.Name.{is_name}
use Rattle.px_value.specs.Path.{below}
use Rattle.px_core.specs.declared.node.CoreNode.{CoreNode}
use Rattle.px_core.specs.declared.node.CoreNode.TheOpen.{CoreNode-F}
use Rattle.px_core.specs.declared.node.CoreNode.TheViews.{out-CoreNode}
use Rattle.px_core.specs.Plan.{Tree, Head, NoNode, Branch, head_of, count_of}
use Rattle.px_flat.specs.declared.row.Row.{Row}
use Rattle.px_flat.specs.Row.{head_data}
use Rattle.px_flat.specs.Rows.{path_at}

-- the heads of the nodes of a tree in preorder
abbrev pub heads_in : Tree → List Head
heads_in NoNode = []
heads_in (Branch head children rest) = head ∷ (heads_in children ++ heads_in rest)

-- the heads of nodes that a plan lends
abbrev pub heads_of : List (Bor CoreNode) → List Head
heads_of nodes = map (λ node. head_of (out-CoreNode node.now)) nodes

-- the row of a node, by its path and the number of its parent
pub record IsRowAt (node : CoreNode-F CoreNode) (path : List ℕ) (parent : Option ℕ) (row : Row) : Type 0 where
  pub path_is : row.path ≡ path
  pub parent_is : row.parent ≡ parent
  pub head_is : head_data row.head ≡ head_of node
  pub named : IsTrue (is_name node.name)

-- the root of a plan
abbrev pub IsRootRow : CoreNode → Row → Type 0
IsRootRow node row = IsRowAt (out-CoreNode node) (out-CoreNode node).name None row

-- a node under the one with this number
abbrev pub IsRowUnder : List Row → ℕ → CoreNode → Row → Type 0
IsRowUnder rows parent node row =
    IsRowAt (out-CoreNode node) (below (path_at rows parent) (out-CoreNode node).name) (Some parent) row

-- the number after the last descendant of each node of a tree, whose first node has this number
abbrev pub ends_from : ℕ → Tree → List ℕ
ends_from number NoNode = []
ends_from number (Branch head children rest) =
    (number + 1 + count_of children)
    ∷ (ends_from (number + 1) children ++ ends_from (number + 1 + count_of children) rest)
