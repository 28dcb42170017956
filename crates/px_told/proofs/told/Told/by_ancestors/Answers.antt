use Rattle.std.proofs.Common.{subst}
use Rattle.px_told.specs.Told.{ToldData, HaveAncestors, AreToldByAncestors}
use Rattle.px_told.proofs.Ancestors.{have_ancestors, told_by_ancestors}
use Rattle.px_told.proofs.told.Told.by_ancestors.Goals as goal

pub returns-clause-ancestors : goal.returns-clause-ancestors
returns-clause-ancestors c = subst (λ (nodes : ToldData). HaveAncestors nodes.tree) c.self.view_is
    (have_ancestors c.self.inside.tree.items c.self.invariant.shape)

pub returns-clause-told : goal.returns-clause-told
returns-clause-told c =
    let t = c.self.inside in
    subst (λ (nodes : ToldData). AreToldByAncestors nodes) c.self.view_is
    (told_by_ancestors t.tree.items c.self.invariant.shape t.own.items t.told.items c.self.invariant.right)
