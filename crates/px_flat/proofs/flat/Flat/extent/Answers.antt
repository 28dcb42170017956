use Rattle.std.proofs.Common.{ap, sym, ◌∙◌, subst}
use Rattle.px_flat.specs.Extents.{AreBelow}
use Rattle.px_flat.specs.Flat.{plan_of}
use Rattle.px_flat.proofs.Tables.{flat_sound}
use Rattle.px_flat.proofs.flat.Flat.extent.Goals as goal

pub returns-clause-below : goal.returns-clause-below
returns-clause-below c =
    let flat = c.args.self.now in
    subst (AreBelow (plan_of flat) c.args.node)
    (sym (ap (λ extent. extent.end)
    (c.index.ensures ∙ flat.names.extended.each c.args.node c.index.result.now c.requires)))
    ((flat_sound flat).below c.args.node c.requires)
