use Rattle.std.proofs.Common.{◌≡◌, ◌<◌, ◌++◌, ◌∷◌, [], length, ap, ◌∙◌, subst, arith, rules}
use Rattle.std.specs.BTreeMap.{get}
use Rattle.std.specs.Ordering.{is_eq, nat_cmp}
use Rattle.px_flat.specs.Row.{site_in}
use Rattle.px_told.specs.Asking.{either}
use Rattle.px_micro.specs.Above.{asked_of, asked_below, asks_at, IsChain}
use Rattle.px_parts.specs.Parts.{plan_in, world_in}
use Rattle.px_micro.proofs.Chains.{chain_less, chain_within, asked_by_parent, still_right, same_key}
use Rattle.px_micro.proofs.asked.asked_of.Goals as goal

pub asks-requires-clause-node : goal.asks-requires-clause-node
asks-requires-clause-node c =
    let parts = c.args.parts.now in
    let way = c.descent.invariant.0 in
    let popped : c.descent.chain.items ≡ c.pop.new.self.items ++ c.in-Some.ancestor ∷ [] = search rules in
    let longer = chain_less (plan_in parts) c.args.node c.pop.new.self.items c.in-Some.ancestor way.last
    (subst (λ chain. IsChain (plan_in parts) c.args.node chain way.last) popped way.leads) in
    let inside : way.last < length (plan_in parts) =
    chain_within parts.flat c.args.node c.descent.chain.items way.last c.requires.node way.leads in
    omega (arith, inside, longer.last_is)

pub descent-preserved : goal.descent-preserved
descent-preserved c =
    let parts = c.args.parts.now in
    let plan = plan_in parts in
    let now = world_in parts in
    let way = c.descent.invariant.0 in
    let popped : c.descent.chain.items ≡ c.pop.new.self.items ++ c.in-Some.ancestor ∷ [] = search rules in
    let longer = chain_less plan c.args.node c.pop.new.self.items c.in-Some.ancestor way.last
    (subst (λ chain. IsChain plan c.args.node chain way.last) popped way.leads) in
    let asked : c.descent.asked ≡ asked_of plan now c.in-Some.ancestor =
    way.asked_is ∙ ap (asked_of plan now) longer.last_is in
    let own : c.in_ok-asks.field-0 ≡ asks_at plan now (site_in plan c.in-Some.ancestor).path = c.in_ok-asks.ensures in
    let below : c.or-asked.result ≡ asked_below plan now c.in-Some.ancestor =
    c.or-asked.ensures ∙ (λ i. either (own i) (asked i)) in
    let inside : longer.before < length plan =
    chain_within parts.flat c.args.node c.pop.new.self.items longer.before c.requires.node longer.leads in (
      record {
        last = longer.before;
        leads = longer.leads;
        asked_is = below ∙ asked_by_parent parts.flat now longer.before c.in-Some.ancestor inside longer.number;
      },
      still_right plan now (get nat_cmp c.descent.known) (get nat_cmp c.insert.new.self) c.in-Some.ancestor
          c.or-asked.result (λ node. is_eq (nat_cmp c.in-Some.ancestor node)) c.descent.invariant.1 below
          c.in_ok-insert.ensures.updates.0 (same_key c.in-Some.ancestor),
    )
