-- Which list holds which cell after a call.
use Rattle.std.proofs.Common.{◌≡◌, ℕ, ◌<◌, length, Some, None, refl, ap, sym, ◌∙◌, arith, subst}
use Rattle.std.proofs.lemmas.Grind.{common_steps}
use Rattle.std.specs.List.{position}
use Rattle.px_links.specs.declared.links.Links.TheInside.{Inside}
use Rattle.px_links.specs.Links.{LinksData, pushed, popped, unlinked, first_of, holder_of, HoldsOthersAsBefore}
use Rattle.px_links.specs.Lists.{has}
use Rattle.px_links.specs.Keeping.{IsKept, links_data, lists_in}
use Rattle.px_links.proofs.Pushing.{holders-pushed}
use Rattle.px_links.proofs.Reading.{holder_now, first_held}
use Rattle.px_links.proofs.Unlinking.{holders-unlinked}

module _ (links : Inside) (now : LinksData) (view : links_data links ≡ now) (kept : IsKept links) where
  pub held-pushed : (list cell : ℕ) → list < length now.lists → cell < now.cells → holder_of now cell ≡ None
      → HoldsOthersAsBefore now (pushed now list cell) cell (Some list)
  held-pushed list cell = grind (arith, common_steps, holders-pushed, holder_now)

  pub held-unlinked : (list cell : ℕ) → holder_of now cell ≡ Some list
      → HoldsOthersAsBefore now (unlinked now cell) cell None
  held-unlinked list cell =
      subst (λ (now : LinksData). holder_of now cell ≡ Some list → HoldsOthersAsBefore now (unlinked now cell) cell None) view
      (λ held. holders-unlinked links.cells.items links.ends.items (lists_in links.cells.items links.ends.items)
      kept list cell (holder_now links (links_data links) refl kept cell ∙ held))

  pub held-popped : (list first : ℕ) → first_of now list ≡ Some first
      → HoldsOthersAsBefore now (popped now list) first None
  held-popped list first =
      subst (λ (now : LinksData). first_of now list ≡ Some first → HoldsOthersAsBefore now (popped now list) first None) view
      (λ is other.
      let is_held = first_held links (links_data links) refl kept list first is in
      ap (position (λ list. has list other)) (sym is_held.1)
      ∙ holders-unlinked links.cells.items links.ends.items (lists_in links.cells.items links.ends.items)
      kept list first is_held.0 other)
