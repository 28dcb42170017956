use Rattle.std.proofs.Common.{sym, subst}
use Rattle.px_exec.specs.Opening.{IsUnposted}
use Rattle.px_exec.proofs.Renamed.{keeps_renamed, renames}
use Rattle.px_exec.proofs.exec.Exec.rename.Goals as goal

pub invariant_of-self : goal.invariant_of-self
invariant_of-self g c =
    keeps_renamed g.S.Stepper g.D.Disk _ (subst IsUnposted (sym c.self.view_is) c.requires) c.rename.new.self c.of.result.value c.of.ensures c.rename.ensures.kept
    c.self.invariant

pub returns : goal.returns
returns g c =
    let unposted = subst IsUnposted (sym c.self.view_is) c.requires in
    rw (← c.self.view_is)
    (renames g.S.Stepper g.D.Disk _ unposted c.rename.new.self c.of.result.value c.of.ensures c.rename.ensures.kept
    c.args.names c.rename.ensures.named c.rename.ensures.version c.rename.ensures.disk c.rename.ensures.kept_names)
