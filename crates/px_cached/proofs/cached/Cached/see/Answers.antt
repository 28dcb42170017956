use Rattle.std.proofs.Common.{◌≡◌, length, ap, sym, ◌∙◌, subst, arith}
use Rattle.std.proofs.lemmas.List.Sums.{sum_by-le-sum_by}
use Rattle.px_cells.specs.Cells.{CellsData}
use Rattle.px_flat.specs.Flat.{plan_of}
use Rattle.px_flat.specs.Layout.{all_cells}
use Rattle.px_links.specs.Lists.{nth}
use Rattle.px_cached.specs.declared.looking.Kept.{Kept}
use Rattle.px_cached.specs.Cached.{CachedData, IsSeenBut, due, plan_in, present_in}
use Rattle.px_cached.specs.Climbs.{climb}
use Rattle.px_cached.specs.Costs.{cost, source_cost}
use Rattle.px_cached.specs.Looking.{IsRight, IsSound}
use Rattle.px_cached.specs.Network.{part_at, truth_at}
use Rattle.px_cached.proofs.Seeing.{right_present}
use Rattle.px_cached.proofs.cached.Cached.see.Goals as goal

pub notice-requires-clause-recalls : goal.notice-requires-clause-recalls
notice-requires-clause-recalls c =
    let t = c.self.inside in
    let same : plan_of c.args.flat.now ≡ plan_of t.flat.value = c.requires.plan ∙ sym (ap plan_in c.self.view_is) in (
      present_in t.seen_cells.value t.seen_reports.value,
      rw (c.deref-2.ensures.value, c.deref.ensures.value, same) c.self.invariant.sound.right,
    )

pub notice-requires-clause-watching : goal.notice-requires-clause-watching
notice-requires-clause-watching c =
    let same : plan_of c.args.flat.now ≡ plan_of c.self.inside.flat.value = c.requires.plan ∙ sym (ap plan_in c.self.view_is) in
    rw (c.deref.ensures.value, c.deref-3.ensures.value, same) c.self.invariant.watching

pub invariant_of-self : goal.invariant_of-self
invariant_of-self c =
    let t = c.self.inside in
    let before = c.self.invariant in
    let plan = plan_of t.flat.value in
    let seen = present_in t.seen_cells.value t.seen_reports.value in
    let present = present_in c.args.cells.now c.args.reports.now in
    let same : plan_of c.args.flat.now ≡ plan =
    c.requires.plan ∙ sym (ap plan_in c.self.view_is) in
    let sized = c.requires.cells ∙ ap all_cells same in
    let known = subst (λ (cached : CachedData). IsSeenBut cached present) (sym c.self.view_is) c.requires.seen in
    let later : Kept = record { network = t.kept.network; truths = t.kept.truths; stale = c.notice.new.stale } in
    let sound : IsSound plan present later = record {
      laid = before.sound.laid;
      sized = before.sound.sized;
      agree = before.sound.agree;
      cells = c.notice.ensures.stale_counts.0 ∙ before.sound.cells;
      lists = c.notice.ensures.stale_counts.1 ∙ before.sound.lists;
      right = right_present plan seen present (before.seen_sized ∙ sym sized) t.kept.network.parts.items
          (λ part. IsRight (plan_of c.args.flat.now) present (truth_at c.deref-2.result.now part) (part_at c.deref.result.now part))
          t.listeners before.listening t.touched c.notice.new.touched t.kept.stale c.notice.new.stale c.notice.ensures known
          before.sound.laid.read t.kept.truths.items
          (λ part stays. rw (c.deref-2.ensures.value, c.deref.ensures.value, same) at stays)
          before.sound.right;
    } in
    record {
      sound = subst (λ present. IsSound plan present later) (sym (λ i. present_in (c.of.ensures i) (c.of-2.ensures i))) sound;
      listening = before.listening;
      watching = before.watching;
      costs = before.costs;
      firsts = before.firsts;
      touched_cells = c.notice.ensures.touched_counts.0 ∙ before.touched_cells;
      touched_lists = c.notice.ensures.touched_counts.1 ∙ before.touched_lists;
      seen_sized = ap (λ (cells : CellsData). length cells.contents.values) c.of.ensures ∙ sized;
    }

pub returns-clause-owed : goal.returns-clause-owed
returns-clause-owed c =
    let t = c.self.inside in
    let climbs = climb t.kept.network.above.items in
    omega (
      arith,
      c.notice.ensures.owed climbs,
      sum_by-le-sum_by (source_cost t.listeners climbs) (cost (plan_of t.flat.value))
          (nth t.touched.lists 0) c.self.invariant.costs,
      ap due c.self.view_is,
    )
