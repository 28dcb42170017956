use Rattle.std.proofs.Common.{◌≡◌, ◌≢◌, ℕ, ◌<◌, [], ◌∷◌, length, AllPairs, Option, Some, IfSome, refl, ap, sym, ◌∙◌, subst, arith}
use Rattle.px_value.proofs.General.{is_some_at, none_from}
use Rattle.px_links.specs.Links.{LinksData, holder_of, rest_of}
use Rattle.px_links.proofs.Once.{once-nth}
use Rattle.px_links.proofs.Walking.{not_again}
use Rattle.px_parts.specs.Parts.{plan_in}
use Rattle.px_machine.specs.Queue.{IsWoken}
use Rattle.px_machine.proofs.Looks.{HaveLookedBut, looked_at_all, looked_at_none, looked_at_one, now_with_mark, others_once, right_with_mark, simulation}
use Rattle.px_machine.proofs.looking.look.Goals as goal

pub woken-init : goal.woken-init
woken-init c =
    let kept = c.args.kept.now in
    let first = c.first-at.ensures in
    record {
      looked =
          subst (λ going. HaveLookedBut c.args.parts.now kept going (rest_of kept.queue c.first-at.result)) (sym c.clear.ensures.items)
          (subst (HaveLookedBut c.args.parts.now kept []) (sym first.walk) (looked_at_none c.args.parts.now kept c.requires.right c.requires.now.nobody));
      right = c.requires.right;
      now = c.requires.now;
      conditions = refl;
      once = subst (AllPairs (λ a b. a ≢ b)) (sym first.walk) (once-nth kept.queue.lists 1 c.each_once.ensures.once);
      within = first.within;
      woken = first.holder;
    }

pub returns-in_err-look_at-clause-right : goal.returns-in_err-look_at-clause-right
returns-in_err-look_at-clause-right c =
    let kept = c.woken.kept in
    let node = c.in-Some.node in
    right_with_mark c.args.parts.now kept c.look_at.new.kept node c.woken.invariant.right
    (subst (λ (at : Option ℕ). IfSome at (λ node. IsWoken kept.queue node)) c.in-Some.is c.woken.invariant.woken) c.in_err-look_at.ensures.same

pub woken-preserved : goal.woken-preserved
woken-preserved c =
    let parts = c.args.parts.now in
    let old = c.woken.kept in
    let new = c.look_at.new.kept in
    let node = c.in-Some.node in
    let is = c.in-Some.is in
    let so_far = c.woken.invariant in
    let looked = c.in_ok-look_at.ensures in
    let next = c.next-at.ensures in
    let ahead = rest_of new.queue c.next-at.result in
    let queue : new.queue ≡ old.queue = (λ i. (looked.same.1 i).queue) in
    let woken : IsWoken old.queue node = subst (λ (at : Option ℕ). IfSome at (λ node. IsWoken old.queue node)) is so_far.woken in
    let here : node < length (plan_in parts) = omega (arith, subst (λ (at : Option ℕ). IfSome at (λ node. node < old.queue.cells)) is so_far.within, so_far.right.of_plan.cells) in
    let still : IsWoken new.queue node = subst (λ (queue : LinksData). IsWoken queue node) (sym queue) woken in
    let rest : rest_of old.queue c.woken.at ≡ node ∷ ahead =
    ap (rest_of old.queue) is ∙ ap (λ (queue : LinksData). rest_of queue (Some node)) (sym queue)
    ∙ next.walk (is_some_at (holder_of new.queue node) 1 still) in
    let once : AllPairs (λ a b. a ≢ b) (node ∷ ahead) = subst (AllPairs (λ a b. a ≢ b)) rest so_far.once in
    record {
      looked =
          looked_at_one parts old new node c.woken.going.items c.look_at.new.going.items ahead here
          (subst (HaveLookedBut parts old c.woken.going.items) rest so_far.looked) looked.same looked.looked (not_again node ahead once);
      right = right_with_mark parts old new node so_far.right woken looked.same;
      now = now_with_mark parts old new node so_far.now looked.same;
      conditions = (λ i. (looked.same.1 i).conditions) ∙ so_far.conditions;
      once = others_once node ahead once;
      within = next.within;
      woken = subst (λ held. IfSome c.next-at.result (λ other. holder_of new.queue other ≡ held)) still next.holder;
    }

pub returns-clause-simulation : goal.returns-clause-simulation
returns-clause-simulation c =
    let parts = c.args.parts.now in
    let so_far = c.woken.invariant in
    simulation parts c.woken.kept c.woken.going.items c.requires.stand so_far.right so_far.now
    (looked_at_all parts c.woken.kept c.woken.going.items
    (subst (λ (at : Option ℕ). HaveLookedBut parts c.woken.kept c.woken.going.items (rest_of c.woken.kept.queue at)) (none_from c.woken.at c.in_default.not-Some) so_far.looked))
