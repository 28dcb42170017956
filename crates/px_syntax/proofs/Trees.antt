-- The trees of blocks, actions, branches and bodies from those of their parts.
use Rattle.std.proofs.Common.{◌≡◌, ℤ, List, Option, Some, None, Global, map, option_map, ap, sym, ◌∙◌}
use Rattle.std.specs.declared.vec.Vec.{Vec}
use Rattle.px_syntax.specs.declared.block.Action.{Action, out-Action, fold_out-Action}
use Rattle.px_syntax.specs.declared.block.Block.{Block, out-Block, fold_out-Block}
use Rattle.px_syntax.specs.declared.block.Body.TheFolds.{fold-roll-Body}
use Rattle.px_syntax.specs.declared.block.Body.TheOpen.{Body-F}
use Rattle.px_syntax.specs.declared.block.Body.TheVariants as bodies
use Rattle.px_syntax.specs.declared.block.Branch.{Branch, out-Branch, fold_out-Branch}
use Rattle.px_syntax.specs.declared.block.Guarded.{Guarded, out-Guarded, fold_out-Guarded}
use Rattle.px_syntax.specs.declared.expr.Identifier.{Identifier}
use Rattle.px_syntax.specs.declared.expr.SurfaceExpr.{SurfaceExpr}
use Rattle.px_syntax.specs.Block as trees
use Rattle.px_syntax.specs.Block.{BlockTree, ActionTree, BranchTree, GuardedTree, BodyTree, Actions, item_data, actions_in_turn, else_ifs_in_turn, else_of, block_of, body_of, action_of, branch_of, guarded_of, body_step, action_step, block_step, branch_step, guarded_step}
use Rattle.px_syntax.specs.Expr.{term_of}

-- actions one after another
abbrev pub in_turn : List Action → Actions
in_turn actions = actions_in_turn (map action_of actions)

pub block_is : (block : Block) → block_of block
    ≡ trees.Braces (out-Block block).form (map item_data (out-Block block).items.items)
    (actions_in_turn (map action_of (out-Block block).actions.items))
block_is = fold_out-Block BodyTree ActionTree BlockTree BranchTree GuardedTree body_step action_step block_step branch_step guarded_step

pub action_is : (action : Action) → action_of action ≡ trees.Labelled (out-Action action).label (body_of (out-Action action).body)
action_is = fold_out-Action BodyTree ActionTree BlockTree BranchTree GuardedTree body_step action_step block_step branch_step guarded_step

pub branch_is : (branch : Branch) → branch_of branch ≡ trees.Branch (out-Branch branch).label (block_of (out-Branch branch).block)
branch_is = fold_out-Branch BodyTree ActionTree BlockTree BranchTree GuardedTree body_step action_step block_step branch_step guarded_step

pub guarded_is : (guarded : Guarded) → guarded_of guarded
    ≡ trees.Guarded (term_of (out-Guarded guarded).test) (branch_of (out-Guarded guarded).branch)
guarded_is = fold_out-Guarded BodyTree ActionTree BlockTree BranchTree GuardedTree body_step action_step block_step branch_step guarded_step

pub inner : (block : Block)
    → body_of (bodies.Block block) ≡ trees.Inner (block_of block)
inner block =
    ap body_of (sym (bodies.rolls-Block block))
    ∙ fold-roll-Body BodyTree ActionTree BlockTree BranchTree GuardedTree body_step action_step block_step branch_step guarded_step
    (Body-F.Block block)

pub if_chain : (first : Guarded) (others : Vec Guarded Global) (otherwise : Option Branch)
    → body_of (bodies.If first others otherwise)
    ≡ trees.If (guarded_of first) (else_ifs_in_turn (map guarded_of others.items)) (else_of (option_map branch_of otherwise))
if_chain first others None =
    ap body_of (sym (bodies.rolls-If first others None))
    ∙ fold-roll-Body BodyTree ActionTree BlockTree BranchTree GuardedTree body_step action_step block_step branch_step guarded_step
    (Body-F.If first others None)
if_chain first others (Some branch) =
    ap body_of (sym (bodies.rolls-If first others (Some branch)))
    ∙ fold-roll-Body BodyTree ActionTree BlockTree BranchTree GuardedTree body_step action_step block_step branch_step guarded_step
    (Body-F.If first others (Some branch))

pub while_loop : (guarded : Guarded)
    → body_of (bodies.While guarded) ≡ trees.While (guarded_of guarded)
while_loop guarded =
    ap body_of (sym (bodies.rolls-While guarded))
    ∙ fold-roll-Body BodyTree ActionTree BlockTree BranchTree GuardedTree body_step action_step block_step branch_step guarded_step
    (Body-F.While guarded)

pub for_loop : (variable : Identifier) (first : ℤ) (test step : SurfaceExpr) (branch : Branch)
    → body_of (bodies.For variable first test step branch) ≡ trees.For variable first (term_of test) (term_of step) (branch_of branch)
for_loop variable first test step branch =
    ap body_of (sym (bodies.rolls-For variable first test step branch))
    ∙ fold-roll-Body BodyTree ActionTree BlockTree BranchTree GuardedTree body_step action_step block_step branch_step guarded_step
    (Body-F.For variable first test step branch)
