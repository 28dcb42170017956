use Rattle.std.proofs.Common.{◌<◌, length, drop, subst, sym, ap, ◌∙◌, arith}
use Rattle.std.proofs.lemmas.Bool.{not-false}
use Rattle.std.proofs.lemmas.List.{get_or_read, length-set, take_at}
use Rattle.px_told.specs.Asking.{nothing, either, is_same}
use Rattle.px_told.specs.Hearing.{HasHeard}
use Rattle.px_told.specs.Told.{ToldData}
use Rattle.px_told.proofs.Hearing.{nobody_heard}
use Rattle.px_told.proofs.Same.{same_asks}
use Rattle.px_told.proofs.Setting.{others_told, all_told}
use Rattle.px_told.proofs.told.Told.set.Goals as goal

pub hand_on-requires-clause-others : goal.hand_on-requires-clause-others
hand_on-requires-clause-others c =
    let t = c.self.inside in
    rw (c.deref.ensures.value, c.deref-then-ne.ensures.value, c.deref_mut.ensures.value)
    (others_told t.tree.items t.own.items t.told.items c.args.node c.args.asks c.self.invariant.right)

pub returns-then-ne-clause-told : goal.returns-then-ne-clause-told
returns-then-ne-clause-told c =
    let t = c.self.inside in
    let long = c.hand_on.auto.told ∙ ap length c.deref_mut.ensures.value ∙ sym t.told.ok.0 in
    rw (
      take_at c.hand_on.new.told (drop (length c.hand_on.new.told) t.told.items) t.told.len long,
      ← c.deref-then-ne.ensures.value,
      ← c.deref.ensures.value,
    ) c.hand_on.ensures.told

pub invariant_of-self : goal.invariant_of-self
invariant_of-self c =
    let t = c.self.inside in
    let long = c.hand_on.auto.told ∙ ap length c.deref_mut.ensures.value ∙ sym t.told.ok.0 in
    record {
      shape = c.self.invariant.shape;
      own_sized = length-set t.own.items c.args.node c.args.asks ∙ c.self.invariant.own_sized;
      told_sized = rw (take_at c.hand_on.new.told (drop (length c.hand_on.new.told) t.told.items) t.told.len long)
          (long ∙ t.told.ok.0 ∙ c.self.invariant.told_sized);
      right = returns-then-ne-clause-told c;
    }

pub returns-else-ne-clause-told : goal.returns-else-ne-clause-told
returns-else-ne-clause-told c =
    let t = c.self.inside in
    let here = subst (λ (nodes : ToldData). c.args.node < length nodes.tree) (sym c.self.view_is) c.requires.node in
    let own_there : c.args.node < length t.own.items = omega (arith, here, c.self.invariant.own_sized) in
    let told_there : c.args.node < length t.told.items = omega (arith, here, c.self.invariant.told_sized) in
    let own = get_or_read t.own.items c.args.node c.index.result.now own_there c.index.ensures nothing in
    let told = get_or_read t.told.items c.args.node c.index-2.result.now told_there c.index-2.ensures nothing in
    let told_again = get_or_read t.told.items c.args.node c.index-3.result.now told_there c.index-3.ensures nothing in
    all_told t.tree.items t.own.items t.told.items c.args.node c.args.asks c.self.invariant.right
    own_there
    (ap (either c.args.asks) (sym told_again) ∙ sym c.or.ensures
    ∙ same_asks c.or.result c.or-before.result (not-false (is_same c.or.result c.or-before.result) (sym c.if-ne.ensures))
    ∙ c.or-before.ensures ∙ (λ i. either (own i) (told i)))

pub invariant_of-self-else-ne : goal.invariant_of-self-else-ne
invariant_of-self-else-ne c = record {
  shape = c.self.invariant.shape;
  own_sized = length-set c.self.inside.own.items c.args.node c.args.asks ∙ c.self.invariant.own_sized;
  told_sized = c.self.invariant.told_sized;
  right = returns-else-ne-clause-told c;
}

pub returns-else-ne-clause-heard : goal.returns-else-ne-clause-heard
returns-else-ne-clause-heard c =
    subst (λ before. HasHeard before c.self.inside.told.items c.args.heard.now c.args.heard.now c.args.list)
    (ap (λ (nodes : ToldData). nodes.told) c.self.view_is)
    (nobody_heard c.self.inside.told.items c.args.heard.now c.args.list)
