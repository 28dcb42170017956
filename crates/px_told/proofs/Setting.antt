-- What changes as a node asks something else.
use Rattle.std.proofs.Common.{◌≡◌, ◌≢◌, ℕ, ◌<◌, List, length, set, Some, inl, inr, ap, sym, ◌∙◌, subst}
use Rattle.std.proofs.lemmas.Bool.{cases_eq}
use Rattle.std.proofs.lemmas.List.{get_or-set_same, get_or-set_other}
use Rattle.px_told.specs.declared.asks.Asks.{Asks}
use Rattle.px_told.specs.declared.place.Place.{Place}
use Rattle.px_told.specs.Asking.{nothing, either, asks_at}
use Rattle.px_told.specs.Preorder.{parent_of}
use Rattle.px_told.specs.Told.{AreAllTold, AreOthersTold}
use Rattle.px_told.proofs.Same.{same_under}

module _ (tree : List Place) (own told : List Asks) (node : ℕ) (asks : Asks) (right : AreAllTold tree own told) where
  -- what this parent asks of its children, or is told, stays
  abbrev Stays : ℕ → Type 0
  Stays parent = either (asks_at own parent) (asks_at told parent)
      ≡ either (asks_at (set own node asks) parent) (asks_at told parent)

  other_stays : (parent : ℕ) → parent ≢ node → Stays parent
  other_stays parent apart =
      ap (λ asks. either asks (asks_at told parent)) (sym (get_or-set_other own node parent asks nothing apart))

  -- nothing for those that aren't its children
  pub others_told : AreOthersTold tree (set own node asks) told node
  others_told = λ other here apart. right other here
      ∙ same_under own told (set own node asks) told (parent_of tree other)
      (λ parent is. other_stays parent (λ same. apart (is ∙ ap Some same)))

  -- nothing at all where its children are told the same
  pub all_told : node < length own → either asks (asks_at told node) ≡ either (asks_at own node) (asks_at told node)
      → AreAllTold tree (set own node asks) told
  all_told there same = λ other here. right other here
      ∙ same_under own told (set own node asks) told (parent_of tree other) (λ parent is. elim (cases_eq parent node) [
        | inl here_is ↦ subst Stays (sym here_is)
            (sym same ∙ ap (λ asks. either asks (asks_at told node)) (sym (get_or-set_same own node asks nothing there)))
        | inr apart ↦ other_stays parent apart
      ])
