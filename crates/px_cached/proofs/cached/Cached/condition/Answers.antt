use Rattle.std.proofs.Common.{◌≡◌, ◌+◌, ◌*◌, ◌<◌, false, length, ap, sym, ◌∙◌, subst, arith}
use Rattle.std.proofs.lemmas.List.{get_or_read}
use Rattle.px_flat.specs.Flat.{plan_of}
use Rattle.px_cached.specs.declared.part.Root.TheVariants as root
use Rattle.px_cached.specs.Cached.{CachedData, kept_truth, plan_in, present_in}
use Rattle.px_cached.specs.Conditions.{number_of}
use Rattle.px_cached.specs.Laying.{root_at}
use Rattle.px_cached.specs.Network.{IsAmong, root_truth}
use Rattle.px_cached.proofs.Seeing.{condition_inside, condition_kept, root_among}
use Rattle.px_cached.proofs.cached.Cached.condition.Goals as goal
use Rattle.px_cached.proofs.cached.Cached.condition.Goals.{After-index-root}

module _ (c : After-index-root) where
  there : c.args.node < length (plan_of c.self.inside.flat.value)
  there = subst (λ (cached : CachedData). c.args.node < length (plan_in cached)) (sym c.self.view_is) c.requires

  number : 8 * c.args.node + c.place_of.result ≡ number_of c.args.node c.args.kind
  number = ap (λ place. 8 * c.args.node + place) c.place_of.ensures.place

  root_is : c.index-root.result.now ≡ root_at c.self.inside.kept.network.roots.items (number_of c.args.node c.args.kind)
  root_is = get_or_read c.self.inside.kept.network.roots.items (8 * c.args.node + c.place_of.result) c.index-root.result.now
      (omega (
        arith,
        number,
        condition_inside (plan_of c.self.inside.flat.value)
            (present_in c.self.inside.seen_cells.value c.self.inside.seen_reports.value) c.self.inside.kept c.self.invariant.sound
            c.args.node c.args.kind there,
      )) c.index-root.ensures (root.Constant false)
      ∙ ap (root_at c.self.inside.kept.network.roots.items) number

pub truth-requires : goal.truth-requires
truth-requires c =
    let at = (goal.at.truth-requires c).After-index-root in
    let t = c.self.inside in
    subst (λ truths. IsAmong (length truths) c.index-root.result.now) (sym c.deref.ensures.value)
    (subst (IsAmong (length t.kept.truths.items)) (sym (root_is at))
    (root_among (plan_of t.flat.value) (present_in t.seen_cells.value t.seen_reports.value) t.kept c.self.invariant.sound
    c.args.node c.args.kind (there at)))

pub returns : goal.returns
returns c =
    let at = (goal.at.returns c).After-index-root in
    let t = c.self.inside in
    c.truth.ensures
    ∙ (λ i. root_truth (c.deref.ensures.value i) (root_is at i))
    ∙ sym (condition_kept (plan_of t.flat.value) (present_in t.seen_cells.value t.seen_reports.value) t.kept
    c.self.invariant.sound c.args.node c.args.kind (there at) t.kept.truths.items)
    ∙ ap (λ (cached : CachedData). kept_truth cached c.args.node c.args.kind) c.self.view_is
