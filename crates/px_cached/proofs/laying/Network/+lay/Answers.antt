use Rattle.std.proofs.Common.{◌≡◌, rules, arith, ap, ◌∙◌}
use Rattle.px_flat.specs.Flat.{plan_of}
use Rattle.px_flat.specs.Numbered as numbers
use Rattle.px_flat.specs.NumberedData.{expr_data}
use Rattle.px_flat.proofs.NumberedTerms as terms
use Rattle.px_cached.proofs.Layers.{joined_ok, spells_inside, whole_ok}
use Rattle.px_cached.proofs.laying.Network.+lay.Goals as goal

pub join-requires-clause-left : goal.join-requires-clause-left
join-requires-clause-left t c = omega (
  arith,
  spells_inside c.lay.new.self.parts.items c.in_ok-left.left (expr_data c.deref.result.now) c.in_ok-left.ensures.laid.spells,
  c.in_ok-right.ensures.laid.longer,
)

pub join-requires-clause-right : goal.join-requires-clause-right
join-requires-clause-right t c =
    spells_inside c.lay-in-Some.new.self.parts.items c.in_ok-right.right (expr_data c.deref-in-Some.result.now)
    c.in_ok-right.ensures.laid.spells

pub returns-in-Some-clause-laid : goal.returns-in-Some-clause-laid
returns-in-Some-clause-laid t c =
    let one : c.in-Binary.left.value ≡ c.deref.result.now = search rules in
    let other : c.in-Binary.right.value ≡ c.deref-in-Some.result.now = search rules in
    joined_ok (plan_of c.args.flat.now) c.args.node c.in-Some.joint (expr_data c.args.expr.now)
    (expr_data c.deref.result.now) (expr_data c.deref-in-Some.result.now)
    (ap expr_data c.in-Binary.is ∙ terms.binary c.in-Binary.op c.in-Binary.left c.in-Binary.right
    ∙ (λ i. numbers.Binary c.in-Binary.op (expr_data (one i)) (expr_data (other i)))
    ∙ c.in-Some.ensures (expr_data c.deref.result.now) (expr_data c.deref-in-Some.result.now))
    c.args.self.now.parts.items c.lay.new.self.parts.items c.lay-in-Some.new.self.parts.items c.join.new.self.parts.items
    c.args.self.now.above.items c.lay.new.self.above.items c.lay-in-Some.new.self.above.items c.join.new.self.above.items
    c.in_ok-left.left c.in_ok-right.right c.in_ok-left.ensures.laid c.in_ok-right.ensures.laid c.join.result
    c.join.ensures.at c.join.ensures.parts c.join.ensures.above c.join.ensures.few

pub join-requires-in-Some-joint_of_both-clause-left : goal.join-requires-in-Some-joint_of_both-clause-left
join-requires-in-Some-joint_of_both-clause-left t c = omega (
  arith,
  spells_inside c.lay-in-Some-joint_of_both.new.self.parts.items c.in_ok-left-2.left (expr_data c.deref-in-Some-joint_of_both.result.now)
      c.in_ok-left-2.ensures.laid.spells,
  c.in_ok-right-2.ensures.laid.longer,
)

pub join-requires-in-Some-joint_of_both-clause-right : goal.join-requires-in-Some-joint_of_both-clause-right
join-requires-in-Some-joint_of_both-clause-right t c =
    spells_inside c.lay-in-Some-joint_of_both-2.new.self.parts.items c.in_ok-right-2.right (expr_data c.deref-in-Some-joint_of_both-2.result.now)
    c.in_ok-right-2.ensures.laid.spells

pub returns-in-Some-joint_of_both-clause-laid : goal.returns-in-Some-joint_of_both-clause-laid
returns-in-Some-joint_of_both-clause-laid t c =
    let outer = c.in-Unary in
    let joining = c.in-Binary-deref in
    let inner : outer.arg.value ≡ c.deref-in-Unary.result.now = search rules in
    let one : joining.left.value ≡ c.deref-in-Some-joint_of_both.result.now = search rules in
    let other : joining.right.value ≡ c.deref-in-Some-joint_of_both-2.result.now = search rules in
    joined_ok (plan_of c.args.flat.now) c.args.node c.in-Some-joint_of_both.joint (expr_data c.args.expr.now)
    (expr_data c.deref-in-Some-joint_of_both.result.now) (expr_data c.deref-in-Some-joint_of_both-2.result.now)
    (ap expr_data outer.is ∙ terms.unary outer.op outer.arg
    ∙ ap (numbers.Unary outer.op) (ap expr_data (inner ∙ joining.is) ∙ terms.binary joining.inner joining.left joining.right
    ∙ (λ i. numbers.Binary joining.inner (expr_data (one i)) (expr_data (other i))))
    ∙ c.in-Some-joint_of_both.ensures (expr_data c.deref-in-Some-joint_of_both.result.now) (expr_data c.deref-in-Some-joint_of_both-2.result.now))
    c.args.self.now.parts.items c.lay-in-Some-joint_of_both.new.self.parts.items c.lay-in-Some-joint_of_both-2.new.self.parts.items
    c.join-in-Some-joint_of_both.new.self.parts.items c.args.self.now.above.items c.lay-in-Some-joint_of_both.new.self.above.items
    c.lay-in-Some-joint_of_both-2.new.self.above.items c.join-in-Some-joint_of_both.new.self.above.items
    c.in_ok-left-2.left c.in_ok-right-2.right c.in_ok-left-2.ensures.laid c.in_ok-right-2.ensures.laid
    c.join-in-Some-joint_of_both.result c.join-in-Some-joint_of_both.ensures.at c.join-in-Some-joint_of_both.ensures.parts c.join-in-Some-joint_of_both.ensures.above c.join-in-Some-joint_of_both.ensures.few

pub returns-clause-laid : goal.returns-clause-laid
returns-clause-laid t c =
    whole_ok (plan_of c.args.flat.now) c.args.node (expr_data c.args.expr.now) c.in_ok-whole.whole c.in_ok-whole.ensures
    c.requires.within c.args.self.now.parts.items c.push.new.self.parts.items c.args.self.now.above.items
    c.push.new.self.above.items c.requires.network c.push.result c.push.ensures.at c.push.ensures.parts c.push.ensures.above
    c.push.ensures.few
