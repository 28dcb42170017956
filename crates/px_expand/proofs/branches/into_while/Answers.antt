use Rattle.std.proofs.Common.{◌∙◌, [], length, ap, arith}
use Rattle.px_syntax.specs.declared.block.Guarded.{out-Guarded}
use Rattle.px_syntax.specs.Block.{branch_of}
use Rattle.px_expand.specs.Core.{branch_name}
use Rattle.px_forms.specs.Forms.{where_found}
use Rattle.px_forms.specs.Names.{body_name}
use Rattle.px_forms.specs.Nodes.{child}
use Rattle.px_forms.specs.Shown.{added_terms}
use Rattle.px_expand.proofs.Actions.{stands_first}
use Rattle.px_expand.proofs.Loops.{guarded_branch}
use Rattle.px_expand.proofs.branches.into_while.Goals as goal

pub branch_place-requires-clause-names : goal.branch_place-requires-clause-names
branch_place-requires-clause-names c = omega (arith, ap length c.in_ok-listed.ensures.names)

pub branch_place-requires-clause-paths : goal.branch_place-requires-clause-paths
branch_place-requires-clause-paths c = omega (arith, ap length c.in_ok-listed.ensures.paths)

pub returns-clause-branch : goal.returns-clause-branch
returns-clause-branch c =
    let path = c.args.place.now.path in
    let guarded = c.args.guarded.now in
    let made = c.in_ok-branch.branch in
    stands_first path (branch_name body_name (branch_of (out-Guarded guarded).branch)) [] _ _ made.name made.path
    (added_terms made.added.value) (where_found path) c.in_ok-listed.ensures.names c.in_ok-listed.ensures.paths
    c.in_ok-branch.ensures.name c.in_ok-branch.ensures.path c.in_ok-branch.ensures.added
    ∙ ap (λ branch. child path (branch_name body_name branch) (where_found path)) (guarded_branch guarded)
