use Rattle.std.proofs.Common.{◌≡◌, ℕ, ◌+◌, ◌-◌, ◌<◌, ◌≤◌, ◌^◌, rules, arith, length, Option, Some, None, sym, ◌∙◌, subst}
use Rattle.std.proofs.Math.Nat.{min-le_left}
use Rattle.px_flat.specs.Flat.{plan_of}
use Rattle.px_cached.specs.declared.laying.Network.{Network}
use Rattle.px_cached.specs.Cached.{present_in}
use Rattle.px_cached.specs.Carrying.{IsOnlyChanged}
use Rattle.px_cached.specs.Climbs.{climb}
use Rattle.px_cached.specs.Costs.{in_all}
use Rattle.px_cached.proofs.Refreshing.{owed_then, tells_more, tells_same}
use Rattle.px_cached.proofs.looking.Kept.refresh.Goals as goal
use Rattle.px_cached.proofs.looking.Kept.refresh.Goals.{After-saturating_add-looks}

pub push_back_absent-requires-clause-cell : goal.push_back_absent-requires-clause-cell
push_back_absent-requires-clause-cell c =
    let inside : c.in-Some-changed.node < length (plan_of c.args.flat.now) = search rules in
    omega (arith, inside, c.requires.nodes, c.stale.invariant.tells.counts.0)

module _ (c : After-saturating_add-looks) where
  only : (changed : Option ℕ) → c.in_ok-carried.carried.changed ≡ changed
      → IsOnlyChanged c.args.self.now.network.above.items c.stale.self.truths.items c.look.new.self.truths.items changed
  only changed is =
      let old = c.stale.self.truths.items in
      let new = c.look.new.self.truths.items in
      subst (λ (network : Network). IsOnlyChanged network.above.items old new changed) c.stale.invariant.network
      (subst (IsOnlyChanged c.stale.self.network.above.items old new) is c.in_ok-carried.ensures.changed)

  owed : c.saturating_add-looks.result + in_all (climb c.args.self.now.network.above.items) c.look.new.self.stale
      ≤ in_all (climb c.args.self.now.network.above.items) c.args.self.now.stale
  owed =
      let first = c.args.self.now in
      let so_far = c.stale.invariant in
      let more = c.in_ok-carried.carried.looks in
      owed_then (plan_of c.args.flat.now) (present_in c.args.cells.now c.args.reports.now) first c.stale.self
      c.look.new.self.stale c.in-Some.part c.stale.looks more c.saturating_add-looks.result
      (in_all (climb first.network.above.items) first.stale) so_far.sound so_far.network
      (omega (arith, c.in-Some.ensures.within, so_far.sound.cells)) (sym c.first.ensures.answer ∙ c.in-Some.is)
      c.in_ok-carried.ensures.stale c.in_ok-carried.ensures.looks
      (omega (arith, c.saturating_add-looks.ensures, min-le_left (c.stale.looks + more) (2 ^ 32 - 1))) so_far.owed

pub stale-preserved-in-Some-changed : goal.stale-preserved-in-Some-changed
stale-preserved-in-Some-changed c =
    let at = (goal.at.stale-preserved-in-Some-changed c).After-saturating_add-looks in
    record {
      network = c.look.ensures.network ∙ c.stale.invariant.network;
      sound = c.look.ensures.sound;
      tells = tells_more c.args.self.now.network.above.items c.args.self.now.truths.items c.stale.self.truths.items
          c.look.new.self.truths.items c.args.changed.now c.stale.changed c.args.list c.stale.invariant.tells
          c.in-Some-changed.node c.push_back_absent.new.self (only at (Some c.in-Some-changed.node) c.in-Some-changed.is)
          c.push_back_absent.ensures.holders c.push_back_absent.ensures.counts;
      owed = owed at;
    }

pub stale-preserved : goal.stale-preserved
stale-preserved c =
    let at = (goal.at.stale-preserved c).After-saturating_add-looks in
    record {
      network = c.look.ensures.network ∙ c.stale.invariant.network;
      sound = c.look.ensures.sound;
      tells = tells_same c.args.self.now.network.above.items c.args.self.now.truths.items c.stale.self.truths.items
          c.look.new.self.truths.items c.args.changed.now c.stale.changed c.args.list c.stale.invariant.tells
          (only at None c.in_default-changed.is);
      owed = owed at;
    }
