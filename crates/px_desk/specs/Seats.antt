-- All seats of a turn, dealt out and gathered again.
use Rattle.std.specs.Prelude.{◌≡◌, ◌≤◌, ◌-◌, ℕ, List, ◌∷◌, map}
use Rattle.std.specs.List.{All, range_with_len}
use Rattle.px_turn.specs.Histories.{IsFront}
use Rattle.px_turn.specs.Views.{record_of, split_off}
use Rattle.px_turn.specs.declared.view.View.{View}

module _ {T I : Type 0} where
  -- the first seat once so many were split from it, and these
  abbrev pub split_times : ℕ → View T I → View T I
  split_times count v = record v { splits = count }

  abbrev pub split_from : View T I → ℕ → List (View T I)
  split_from v count = map (λ k. split_off (split_times k v)) (range_with_len 0 count)

  -- so many seats in all
  abbrev pub views_of : View T I → ℕ → List (View T I)
  views_of v count = split_times (count - 1) v ∷ split_from v (count - 1)

  -- The first seat has taken in the others, none of which had taken in one: it has seen a list that begins with what each
  -- had seen, knew of as many entries, and has a record of each.
  pub record HasTaken (front : View T I) (others : List (View T I)) (v : View T I) : Type 0 where
    pub same : v ≡ record front { seen = v.seen; told = v.told; known = v.known; joined = v.joined }
    pub joined : v.joined ≡ map record_of others
    pub seen : All (λ w. IsFront w.seen v.seen) (front ∷ others)
    pub known : All (λ w. w.known ≤ v.known) (front ∷ others)
