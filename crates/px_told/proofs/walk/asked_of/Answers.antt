use Rattle.std.proofs.Common.{arith}
use Rattle.px_told.proofs.Places.{parent_before}
use Rattle.px_told.proofs.walk.asked_of.Goals as goal

pub bounds-own-parent : goal.bounds-own-parent
bounds-own-parent c =
    let before = parent_before c.args.tree.now c.requires.tree c.args.node c.in-Some.parent c.requires.node c.in-Some.is in
    omega (arith, before, c.requires.node, c.requires.own)

pub bounds-told-parent : goal.bounds-told-parent
bounds-told-parent c =
    let before = parent_before c.args.tree.now c.requires.tree c.args.node c.in-Some.parent c.requires.node c.in-Some.is in
    omega (arith, before, c.requires.node, c.requires.told)
