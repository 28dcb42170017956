use Rattle.std.proofs.Common.{◌∙◌, [], length, ap, arith}
use Rattle.px_syntax.specs.Block.{branch_of}
use Rattle.px_expand.specs.Core.{branch_name}
use Rattle.px_forms.specs.Forms.{where_found}
use Rattle.px_forms.specs.Names.{body_name}
use Rattle.px_forms.specs.Nodes.{Place, child}
use Rattle.px_forms.specs.Shown.{added_terms}
use Rattle.px_expand.proofs.Actions.{stands_first}
use Rattle.px_expand.proofs.branches.into_for.Goals as goal

pub branch_place-requires-clause-names : goal.branch_place-requires-clause-names
branch_place-requires-clause-names c = omega (arith, ap length c.in_ok-listed.ensures.names)

pub branch_place-requires-clause-paths : goal.branch_place-requires-clause-paths
branch_place-requires-clause-paths c = omega (arith, ap length c.in_ok-listed.ensures.paths)

pub returns-clause-branch : goal.returns-clause-branch
returns-clause-branch c =
    let branch = c.args.branch.now in
    let inner = c.in_ok-inner.inner in
    let made = c.in_ok-branch.branch in
    stands_first inner.path (branch_name body_name (branch_of branch)) [] _ _ made.name made.path
    (added_terms made.added.value) (where_found inner.path) c.in_ok-listed.ensures.names c.in_ok-listed.ensures.paths
    c.in_ok-branch.ensures.name c.in_ok-branch.ensures.path c.in_ok-branch.ensures.added
    ∙ ap (λ path. child path (branch_name body_name (branch_of branch)) (where_found path)) (ap (λ (at : Place). at.path) c.in_ok-inner.ensures)
