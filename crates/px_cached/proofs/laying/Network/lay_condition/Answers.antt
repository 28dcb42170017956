use Rattle.std.proofs.Common.{◌≡◌, ◌+◌, ◌/◌, ◌∷◌, ◌++◌, [], Global, IfSome, sym, ◌∙◌, subst}
use Rattle.std.specs.declared.vec.Vec.{Vec}
use Rattle.px_value.specs.declared.value.Value.TheVariants.{Boolean}
use Rattle.px_flat.specs.Flat.{plan_of}
use Rattle.px_flat.specs.Numbered.{Literal}
use Rattle.px_flat.specs.NumberedData.{expr_data}
use Rattle.px_cached.specs.declared.part.Root.{Root}
use Rattle.px_cached.specs.declared.part.Root.TheVariants as root
use Rattle.px_cached.specs.Laying.{HasLaid, IsLaid}
use Rattle.px_cached.proofs.Conditions.{constant_laid, part_laid}
use Rattle.px_cached.proofs.laying.Network.lay_condition.Goals as goal
use Rattle.px_cached.proofs.laying.Network.lay_condition.Goals.{in-Some, in-None+in_ok-lay-in-None}

pub returns : goal.returns
returns c =
    let plan = plan_of c.args.flat.now in
    let before = c.args.self.now in
    let next = c.args.number + 1 in
    let expr = expr_data c.condition-expr.result.now in
    subst (λ roots. HasLaid plan c.match-constant_of.self.parts.items c.match-constant_of.self.above.items roots next)
    (sym c.in_ok-push.ensures.items)
    (elim c.match-constant_of.branch [
      | in-Some w ↦
          let constant = subst (λ found. IfSome found (λ truth. expr ≡ Literal (Boolean truth))) w.in-Some.is c.constant_of.ensures in
          rw (w.self-is, w.root-is) (constant_laid plan c.args.number c.requires.number before.parts.items before.above.items
          before.roots.items c.requires.laid w.in-Some.truth (sym c.condition-expr.ensures.is ∙ constant))
      | in-None+in_ok-lay-in-None w ↦
          let after = w.lay.new.self in
          let part = w.in_ok-lay-in-None.field-0 in
          let laid = subst (λ expr. IsLaid plan (c.args.number / 8) expr before.parts.items after.parts.items before.above.items
          after.above.items part) c.condition-expr.ensures.is w.in_ok-lay-in-None.ensures.laid in
          rw (w.self-is, w.root-is) (subst (λ (roots : Vec Root Global). HasLaid plan after.parts.items after.above.items
          (roots.items ++ root.Part part ∷ []) next) (sym w.in_ok-lay-in-None.ensures.roots)
          (part_laid plan c.args.number c.requires.number before.parts.items before.above.items before.roots.items
          c.requires.laid after.parts.items after.above.items part laid))
    ])
