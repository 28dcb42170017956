use Rattle.std.proofs.Common.{◌<◌, [], length, get_or, fold, ap, sym, ◌∙◌, subst, arith}
use Rattle.std.specs.List.{flat_map}
use Rattle.std.proofs.lemmas.List.Folds.{flat_map-map}
use Rattle.px_core.specs.Plan.{Site, Tree, tree_of, count_of}
use Rattle.px_sem.specs.Tolerances.{tolerances_in_head, with_tolerance}
use Rattle.px_flat.specs.Row.{after_last, paths_of}
use Rattle.px_flat.specs.Extents.{AreExtents}
use Rattle.px_flat.specs.Lookups.{lookups_in_head, with_name}
use Rattle.px_flat.specs.Rows.{sites_of}
use Rattle.px_flat.specs.Slots.{AreSlots}
use Rattle.px_flat.proofs.Descendants.{end_is}
use Rattle.px_flat.proofs.Heads.{heads_are}
use Rattle.px_flat.proofs.Sites.{length-sites_of}
use Rattle.px_flat.proofs.Trees.{length-sites_under, length-ends_from}
use Rattle.px_flat.proofs.names.Names.of.Goals as goal

pub extents-requires-clause-long : goal.extents-requires-clause-long
extents-requires-clause-long c =
    let tree : Tree = tree_of c.args.plan.now in
    omega (
      arith,
      ap length c.deref.ensures.value,
      ap length c.deref-2.ensures.value,
      ap length c.in_ok-ends.ensures,
      length-ends_from 0 tree,
      ap length c.in_ok-rows.ensures.sites,
      length-sites_under [] tree,
      length-sites_of c.in_ok-rows.rows.items,
    )

pub extents-requires-clause-ends : goal.extents-requires-clause-ends
extents-requires-clause-ends c = λ i within.
    let tree : Tree = tree_of c.args.plan.now in
    let rows = c.in_ok-rows.rows.items in
    let inside : i < count_of tree =
    omega (
      arith,
      ap length c.deref.ensures.value,
      ap length c.in_ok-rows.ensures.sites,
      length-sites_under [] tree,
      length-sites_of rows,
    ) in
    ap (λ ends. get_or ends i 0) (c.deref-2.ensures.value ∙ c.in_ok-ends.ensures)
    ∙ end_is tree i inside
    ∙ ap (λ plan. after_last plan i) (sym c.in_ok-rows.ensures.sites ∙ ap sites_of (sym c.deref.ensures.value))

pub slots_of-requires-clause-fit : goal.slots_of-requires-clause-fit
slots_of-requires-clause-fit c = record {
  tree = tree_of c.args.plan.now;
  fit = c.requires.fit;
  nodes = ap sites_of c.deref-3.ensures.value ∙ c.in_ok-rows.ensures.sites;
}

pub slots_of-requires-clause-extended : goal.slots_of-requires-clause-extended
slots_of-requires-clause-extended c =
    subst (λ rows. AreExtents (sites_of rows) c.deref-4.result.now) (sym c.deref-3.ensures.value)
    (subst (AreExtents (sites_of c.in_ok-rows.rows.items)) (sym c.deref-4.ensures.value)
    (subst (λ rows. AreExtents (sites_of rows) c.in_ok-extents.extents.items) c.deref.ensures.value
    c.in_ok-extents.ensures))

pub invariant_of-result : goal.invariant_of-result
invariant_of-result c =
    let tree : Tree = tree_of c.args.plan.now in
    let rows = c.in_ok-rows.rows.items in
    record {
      laid = c.in_ok-rows.ensures.laid;
      fit = ∣ record { tree = tree; fit = c.requires.fit; nodes = c.in_ok-rows.ensures.sites } ∣₁;
      extended = subst (λ rows. AreExtents (sites_of rows) c.in_ok-extents.extents.items) c.deref.ensures.value
          c.in_ok-extents.ensures;
      found = c.in_ok-paths.ensures ∙ ap (λ rows. paths_of (sites_of rows)) c.deref-5.ensures.value;
      declared = subst (λ rows. AreSlots (sites_of rows) c.in_ok-slots.slots.items) c.deref-3.ensures.value c.in_ok-slots.ensures;
      looked = c.in_ok-lookups.ensures.names
          ∙ ap (λ heads. fold with_name [] (flat_map lookups_in_head heads))
          (heads_are c.args.nodes.now tree (sites_of rows) c.requires.nodes c.in_ok-rows.ensures.sites)
          ∙ ap (fold with_name []) (flat_map-map lookups_in_head (λ (site : Site). site.head) (sites_of rows));
      few = c.in_ok-lookups.ensures.few;
      allowed = c.in_ok-tolerances.ensures
          ∙ ap (λ heads. fold with_tolerance [] (flat_map tolerances_in_head heads))
          (heads_are c.args.nodes.now tree (sites_of rows) c.requires.nodes c.in_ok-rows.ensures.sites)
          ∙ ap (fold with_tolerance []) (flat_map-map tolerances_in_head (λ (site : Site). site.head) (sites_of rows));
    }
