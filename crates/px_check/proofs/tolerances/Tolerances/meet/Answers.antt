use Rattle.std.proofs.Common.{◌≡◌, nat_eq, inl, inr, sym, ap, subst, ◌∙◌}
use Rattle.std.specs.List.{list_any}
use Rattle.px_check.specs.Tolerances.{Met, meet_one}
use Rattle.px_check.proofs.Meeting.{adds, passes, stays}
use Rattle.px_check.proofs.tolerances.Tolerances.meet.Goals as goal
use Rattle.px_check.proofs.tolerances.Tolerances.meet.Goals.{then-is_some-via-then-is_some, then-is_some-via-else-is_some+then-contains}

pub returns-then-is_some : goal.returns-then-is_some
returns-then-is_some c =
    let before = c.self.inside.distinct.items in
    let passed = c.self.inside.passed in
    subst (λ (met : Met). met ≡ meet_one met c.args.tolerance) c.self.view_is (elim c.then-is_some.branch [
      | then-is_some-via-then-is_some w ↦
          stays before c.args.tolerance passed (inl (sym c.is_some.ensures ∙ w.if-is_some.true))
      | then-is_some-via-else-is_some+then-contains w ↦
          stays before c.args.tolerance passed (inr (
          ap (list_any (λ other. nat_eq other c.args.tolerance.distance)) (sym w.deref.ensures.0)
          ∙ sym w.contains.ensures.value ∙ w.if-contains.true))
    ])

pub returns-then-is_full : goal.returns-then-is_full
returns-then-is_full c =
    let is_new = ap (list_any (λ other. nat_eq other c.args.tolerance.distance)) (sym c.deref.ensures.0)
    ∙ sym c.contains.ensures.value ∙ c.if-contains.false in
    passes c.self.inside.distinct.items c.args.tolerance is_new c.self.inside.passed (sym c.is_some.ensures ∙ c.if-is_some.false)
    (sym c.is_full.ensures.value ∙ c.if-is_full.true)
    ∙ ap (λ (met : Met). meet_one met c.args.tolerance) c.self.view_is

pub returns-else-is_full : goal.returns-else-is_full
returns-else-is_full c =
    let is_new = ap (list_any (λ other. nat_eq other c.args.tolerance.distance)) (sym c.deref.ensures.0)
    ∙ sym c.contains.ensures.value ∙ c.if-contains.false in
    adds c.self.inside.distinct.items c.args.tolerance is_new c.self.inside.passed (sym c.is_some.ensures ∙ c.if-is_some.false)
    (sym c.is_full.ensures.value ∙ c.if-is_full.false) c.is_full.ensures.fits c.push.new.self.items c.push.ensures.items
    ∙ ap (λ (met : Met). meet_one met c.args.tolerance) c.self.view_is
