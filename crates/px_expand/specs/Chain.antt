-- A chain of `if`s, each inside the one before, as it is opened from the first to the last and closed from the last to
-- the first.
use Rattle.std.specs.Prelude.{ℕ, List, [], ◌∷◌, Option}
use Rattle.px_syntax.specs.Block.{BranchTree, GuardedTree, Guarded}
use Rattle.px_syntax.specs.Expr.{Term}
use Rattle.px_core.specs.declared.node.CoreNode.TheFolds.{fold-CoreNode}
use Rattle.px_core.specs.Plan.{Tree, NoNode, branch}
use Rattle.px_expand.specs.declared.opened.OpenIf.{OpenIf}
use Rattle.px_expand.specs.Core.{Otherwise, if_scope}
use Rattle.px_forms.specs.Forms.{conditional}
use Rattle.px_forms.specs.Nodes.{Place, alone}
use Rattle.px_forms.specs.Placed.{place_terms}
use Rattle.px_scope.specs.Scope.{Scope}
use Rattle.px_core.specs.Expr.{term_in}

-- a test, and the branch that it guards
abbrev pub test_in : GuardedTree → Term
test_in (Guarded test _) = test

abbrev pub branch_in : GuardedTree → BranchTree
branch_in (Guarded _ branch) = branch

-- these nodes behind the branch of an `if`, with this name
abbrev pub stands : Option (List ℕ) → Tree → Otherwise
stands name nodes = record { name = name; nodes = λ scope path. nodes }

-- the scope inside an `if` with something of this name behind its branch
abbrev pub open_scope : Scope → Place → GuardedTree → Option (List ℕ) → Scope
open_scope scope place (Guarded test branch) behind = if_scope scope place branch (stands behind NoNode)

-- an open `if` with these nodes behind its branch
abbrev pub closed : OpenIf → Tree → Tree
closed opened behind =
    alone
    (conditional (place_terms opened.place) (term_in opened.test) opened.paths.items
    (fold-CoreNode (Tree → Tree) branch opened.branch.value behind))

-- each inside the one before, and these nodes in the last
abbrev pub all_closed : List OpenIf → Tree → Tree
all_closed [] behind = behind
all_closed (opened ∷ inner) behind = closed opened (all_closed inner behind)
