use Rattle.std.proofs.Common.{◌≡◌, ◌++◌, ◌∙◌, List, length, drop, take, ap, sym, subst, arith, IfSome}
use Rattle.std.proofs.Math.Seq.{take-append_seam}
use Rattle.px_flat.specs.Flat.{plan_of}
use Rattle.px_cached.specs.declared.part.Part.{Part}
use Rattle.px_cached.specs.Cached.{present_in}
use Rattle.px_cached.specs.Carrying.{IsOfPart, IsOnlyChanged, LooksUp}
use Rattle.px_cached.proofs.Refreshing.{within_plan}
use Rattle.px_cached.proofs.looking.Kept.look.Goals as goal

pub returns-clause-changed : goal.returns-clause-changed
returns-clause-changed c =
    let above = c.args.self.now.network.above.items in
    let old = c.args.self.now.truths.items in
    let given : IsOnlyChanged above old c.carry.new.truths c.carry.result.changed =
    subst (λ above. IsOnlyChanged above old c.carry.new.truths c.carry.result.changed) c.deref-2.ensures.value
    (subst (λ old. IsOnlyChanged c.deref-2.result.now old c.carry.new.truths c.carry.result.changed) c.deref_mut.ensures.value
    c.carry.ensures.changed) in
    let long : c.args.self.now.truths.len ≡ length c.carry.new.truths =
    omega (arith, c.carry.auto.truths, c.deref_mut.ensures.len, ap length c.deref_mut.ensures.value) in
    let is : take c.args.self.now.truths.len (c.carry.new.truths ++ drop (length c.carry.new.truths) old) ≡ c.carry.new.truths =
    ap (λ count. take count (c.carry.new.truths ++ drop (length c.carry.new.truths) old)) long
    ∙ take-append_seam c.carry.new.truths (drop (length c.carry.new.truths) old) in
    subst (λ new. IsOnlyChanged above old new c.carry.result.changed) (sym is) given

pub returns-clause-node : goal.returns-clause-node
returns-clause-node c =
    let above = c.args.self.now.network.above.items in
    within_plan (plan_of c.args.flat.now) (present_in c.args.cells.now c.args.reports.now) c.args.self.now c.requires.sound
    c.carry.result.changed
    (subst (λ above. IfSome c.carry.result.changed (IsOfPart above (length c.args.self.now.network.parts.items)))
    c.deref-2.ensures.value
    (subst (λ (parts : List Part). IfSome c.carry.result.changed (IsOfPart c.deref-2.result.now (length parts)))
    c.deref.ensures.value c.carry.ensures.node))

pub returns-clause-looks : goal.returns-clause-looks
returns-clause-looks c =
    subst (λ above. LooksUp above c.args.part c.carry.result.looks) c.deref-2.ensures.value c.carry.ensures.looks
