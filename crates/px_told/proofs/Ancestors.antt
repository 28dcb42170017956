-- What a node is told, by the way up from it.
use Rattle.std.proofs.Common.{◌≡◌, ℕ, zero, suc, ◌<◌, List, [], ◌∷◌, length, Option, Some, None, refl, ap, ◌∙◌, arith}
use Rattle.px_told.specs.declared.asks.Asks.{Asks}
use Rattle.px_told.specs.declared.place.Place.{Place}
use Rattle.px_told.specs.Asking.{either, asks_at}
use Rattle.px_told.specs.Preorder.{parent_of, IsPreorder}
use Rattle.px_told.specs.Told.{asked_under, some_ask, AreAllTold, AreAncestors, HaveAncestors}
use Rattle.px_told.proofs.Places.{parent_before}

module _ (tree : List Place) (pre : IsPreorder tree) where
  -- a way up from the parent is one from the node
  way_up : (node : ℕ) → node < length tree
      → ((parent : ℕ) → parent < node → (ancestors : List ℕ) × AreAncestors tree parent ancestors) → (found : Option ℕ)
      → parent_of tree node ≡ found → (ancestors : List ℕ) × AreAncestors tree node ancestors
  way_up node here above None is = ([], is)
  way_up node here above (Some parent) is =
      let rest = above parent (parent_before tree pre node parent here is) in
      (parent ∷ rest.0, (is, rest.1))

  has_ancestors : (most node : ℕ) → node < most → node < length tree → (ancestors : List ℕ) × AreAncestors tree node ancestors
  has_ancestors zero node few here = absurd (omega arith)
  has_ancestors (suc most) node few here =
      way_up node here (λ parent before. has_ancestors most parent (omega arith) (omega arith)) (parent_of tree node) refl

  pub have_ancestors : HaveAncestors tree
  have_ancestors = λ node here. has_ancestors (suc node) node (omega arith) here

module _ (tree : List Place) (pre : IsPreorder tree) (own told : List Asks) (right : AreAllTold tree own told) where
  pub told_by_ancestors : (node : ℕ) (ancestors : List ℕ) → node < length tree → AreAncestors tree node ancestors
      → asks_at told node ≡ some_ask own ancestors
  told_by_ancestors node [] here top = right node here ∙ ap (asked_under own told) top
  told_by_ancestors node (parent ∷ ancestors) here up =
      right node here ∙ ap (asked_under own told) up.0
      ∙ ap (either (asks_at own parent)) (told_by_ancestors parent ancestors
      (omega (arith, here, parent_before tree pre node parent here up.0)) up.1)
