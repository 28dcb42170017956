use Rattle.std.proofs.Common.{◌≡◌, ℕ, ◌<◌, ◌≤◌, true, length, map, get_or, None, inl, inr, ap, sym, ◌∙◌, subst, arith}
use Rattle.std.proofs.lemmas.Result.{IfOk-weaker}
use Rattle.px_flat.specs.declared.flat.Flat.{Flat}
use Rattle.px_flat.specs.Flat.{plan_of}
use Rattle.px_links.specs.Links.{is_absent}
use Rattle.px_cached.specs.declared.laying.Network.{Network}
use Rattle.px_cached.specs.Cached.{CachedData, AreFresh, due, is_touched, kept_truth, plan_in, present_in}
use Rattle.px_cached.specs.Climbs.{climb}
use Rattle.px_cached.specs.Conditions.{number_of}
use Rattle.px_cached.specs.Costs.{cost, in_all}
use Rattle.px_cached.specs.Keeping.{cached_data}
use Rattle.px_cached.specs.Looking.{IsSound}
use Rattle.px_cached.specs.Network.{root_truth}
use Rattle.px_cached.proofs.Seeing.{condition_fresh, condition_told}
use Rattle.px_cached.proofs.cached.Cached.refresh.Goals as goal

pub returns-clause-seen : goal.returns-clause-seen
returns-clause-seen c = record {
  seen = ap (λ (cached : CachedData). cached.seen) c.self.view_is ∙ c.see.ensures.seen.seen;
  untouched = λ source. ap (λ (cached : CachedData). is_touched cached source) c.self.view_is ∙ c.see.ensures.seen.untouched source;
}

pub returns-clause-fresh : goal.returns-clause-fresh
returns-clause-fresh c =
    let t = c.self.inside in
    let present = present_in c.args.cells.now c.args.reports.now in
    let kept = c.refresh.new.self in
    let same : plan_of c.args.flat.now ≡ plan_of t.flat.value =
    c.requires.plan ∙ sym (ap plan_of c.see.ensures.flat) ∙ sym (ap plan_in c.self.view_is) in
    let sound = subst (λ plan. IsSound plan present kept) same c.refresh.ensures.sound in
    IfOk-weaker c.refresh.result (λ _. (part : ℕ) → is_absent kept.stale part ≡ true)
    (λ _. AreFresh (cached_data (record {
      flat = t.flat;
      kept = kept;
      listeners = t.listeners;
      watches = t.watches;
      touched = t.touched;
      firsts = t.firsts;
      seen_cells = t.seen_cells;
      seen_reports = t.seen_reports;
    })) present)
    (λ _ none node kind there. condition_fresh (plan_of t.flat.value) present kept sound node kind there none)
    c.refresh.ensures.none

pub returns-clause-told : goal.returns-clause-told
returns-clause-told c =
    let t = c.self.inside in
    let truths = c.refresh.new.self.truths.items in
    let told = c.refresh.ensures.told in
    let same : c.args.self.now.flat ≡ t.flat.value =
    sym c.see.ensures.flat ∙ sym (ap (λ (cached : CachedData). cached.flat) c.self.view_is) in
    record {
      changed = λ node kind there. elim (condition_told (plan_of t.flat.value)
          (present_in t.seen_cells.value t.seen_reports.value) t.kept c.self.invariant.sound node kind
          (subst (λ (flat : Flat). node < length (plan_of flat)) same there) truths c.args.changed.now c.refresh.new.changed
          c.args.list told) [
            | inl stays ↦ inl
                (ap (λ (network : Network). get_or (map (root_truth truths) network.roots.items) (number_of node kind) None) c.refresh.ensures.network
                ∙ stays ∙ ap (λ (cached : CachedData). kept_truth cached node kind) c.self.view_is
                ∙ ap (λ truths. get_or truths (number_of node kind) None) c.see.ensures.truths)
            | inr noted ↦ inr noted
          ];
      holders = told.holders;
      counts = told.counts;
    }

pub returns-clause-looks : goal.returns-clause-looks
returns-clause-looks c =
    let t = c.self.inside in
    let most = in_all (climb t.kept.network.above.items) t.kept.stale in
    let few : most ≤ due c.args.self.now = omega (arith, c.see.ensures.owed, ap (λ (cached : CachedData). cached.left) c.self.view_is) in
    IfOk-weaker c.refresh.result (λ looks. looks ≤ most) (λ looks. looks ≤ due c.args.self.now)
    (λ looks below. omega (arith, below, few)) c.refresh.ensures.looks

pub returns-clause-owed : goal.returns-clause-owed
returns-clause-owed c =
    let t = c.self.inside in
    let stale = c.refresh.new.self.stale in
    let none : in_all (cost (plan_of t.flat.value)) t.touched ≡ 0 =
    ap (λ (cached : CachedData). in_all (cost (plan_in cached)) cached.touched) c.self.view_is
    ∙ c.see.ensures.paid (cost (plan_in c.see.new.self)) in
    omega (
      arith,
      none,
      c.refresh.ensures.left,
      ap (λ (network : Network). in_all (climb network.above.items) stale) c.refresh.ensures.network,
      c.see.ensures.owed,
      ap (λ (cached : CachedData). cached.left) c.self.view_is,
    )
