use Rattle.std.proofs.Common.{ℕ, ◌<◌, ◌≤◌, ◌^◌, List, [], length, ap, sym, ◌∙◌, subst}
use Rattle.std.proofs.lemmas.List.{length-replicate}
use Rattle.px_cells.specs.Cells.{CellsData}
use Rattle.px_flat.specs.declared.flat.Flat.{Flat}
use Rattle.px_flat.specs.Flat.{plan_of}
use Rattle.px_flat.specs.Layout.{all_cells}
use Rattle.px_links.specs.Links.{LinksData}
use Rattle.px_cached.specs.declared.part.Part.{Part}
use Rattle.px_cached.specs.Cached.{present_in}
use Rattle.px_cached.specs.Climbs.{climb}
use Rattle.px_cached.specs.Conditions.{all_sources}
use Rattle.px_cached.specs.Costs.{cost, source_cost}
use Rattle.px_cached.specs.Firsts.{firsts_of}
use Rattle.px_cached.specs.Laying.{IsRead}
use Rattle.px_cached.specs.Looking.{IsSound}
use Rattle.px_cached.specs.Network.{part_at}
use Rattle.px_cached.specs.Reading.{AreListening}
use Rattle.px_cached.specs.Watching.{AreWatching}
use Rattle.px_cached.proofs.Costing.{dependents_cost}
use Rattle.px_cached.proofs.cached.Cached.new.Goals as goal

pub listeners-requires-clause-read : goal.listeners-requires-clause-read
listeners-requires-clause-read c =
    let plan = plan_of c.args.flat.now in
    subst (λ (parts : List Part). (part : ℕ) → part < length parts → IsRead plan (part_at parts part)) (sym c.deref.ensures.value)
    (c.in_ok-kept.ensures.sound (present_in c.args.cells.now c.args.reports.now)).laid.read

pub listeners-requires-clause-parts : goal.listeners-requires-clause-parts
listeners-requires-clause-parts c =
    subst (λ (parts : List Part). length parts < 2 ^ 32) (sym c.deref.ensures.value)
    (c.in_ok-kept.ensures.sound (present_in c.args.cells.now c.args.reports.now)).laid.shape.few

pub watches-requires-clause-listening : goal.watches-requires-clause-listening
watches-requires-clause-listening c =
    subst (λ parts. AreListening (plan_of c.args.flat.now) parts c.in_ok-listeners.listeners)
    (c.deref.ensures.value ∙ sym c.deref-2.ensures.value) c.in_ok-listeners.ensures.listening

pub invariant_of-result : goal.invariant_of-result
invariant_of-result c =
    let kept = c.in_ok-kept.kept in
    let seen = present_in c.of-3.result.value c.of-4.result.value in
    let made = c.in_ok-touched.ensures.made in
    let flat_is = sym c.of-2.ensures in
    record {
      sound = subst (λ (flat : Flat). IsSound (plan_of flat) seen kept) flat_is (c.in_ok-kept.ensures.sound seen);
      listening = subst (λ (flat : Flat). AreListening (plan_of flat) kept.network.parts.items c.in_ok-listeners.listeners) flat_is
          (subst (λ parts. AreListening (plan_of c.args.flat.now) parts c.in_ok-listeners.listeners) c.deref.ensures.value
          c.in_ok-listeners.ensures.listening);
      watching = subst (λ (flat : Flat). AreWatching (plan_of flat) kept.network.parts.items c.in_ok-listeners.listeners c.in_ok-watches.watches.items)
          flat_is
          (subst (λ parts. AreWatching (plan_of c.args.flat.now) parts c.in_ok-listeners.listeners c.in_ok-watches.watches.items)
          c.deref-2.ensures.value c.in_ok-watches.ensures);
      costs = subst (λ (flat : Flat). (source : ℕ)
          → source_cost c.in_ok-listeners.listeners (climb kept.network.above.items) source ≤ cost (plan_of flat) source)
          flat_is
          (dependents_cost (plan_of c.args.flat.now) kept.network.parts.items kept.network.above.items kept.network.roots.items
          (c.in_ok-kept.ensures.sound seen).laid c.in_ok-listeners.listeners
          (subst (λ parts. AreListening (plan_of c.args.flat.now) parts c.in_ok-listeners.listeners) c.deref.ensures.value
          c.in_ok-listeners.ensures.listening) c.each_once.ensures);
      touched_cells = ap (λ (links : LinksData). links.cells) made
          ∙ c.in-Some.ensures.1
          ∙ ap (λ (flat : Flat). all_sources (plan_of flat)) flat_is;
      firsts = c.in_ok-firsts.ensures ∙ ap (λ (flat : Flat). firsts_of (plan_of flat)) flat_is;
      touched_lists = ap (λ (links : LinksData). length links.lists) made ∙ length-replicate {A = List ℕ} 1 [];
      seen_sized = ap (λ (cells : CellsData). length cells.contents.values) c.of-3.ensures ∙ c.requires
          ∙ ap (λ (flat : Flat). all_cells (plan_of flat)) flat_is;
    }
