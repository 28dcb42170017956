-- The parts of a watch, while it is laid.
use Rattle.std.proofs.Common.{◌≡◌, ℕ, ◌+◌, List, [], ◌∷◌, ◌++◌, map, All, ap, sym, ◌∙◌, subst, append_assoc, sum_by}
use Rattle.std.specs.Prelude.{IsPermutation}
use Rattle.std.proofs.lemmas.List.{map-append}
use Rattle.std.proofs.lemmas.List.Elements.{All-head}
use Rattle.std.proofs.lemmas.List.Sorted.{IsPermutation-append_left, IsPermutation-append_right, IsPermutation-cons, IsPermutation-map, IsPermutation-middle, IsPermutation-sym, IsPermutation-to_front, IsPermutation-trans}
use Rattle.std.proofs.lemmas.List.Folds.{fold-map}
use Rattle.px_value.proofs.General.{All-back}
use Rattle.px_cached.specs.declared.watching.Watcher.{Watcher}
use Rattle.px_cached.specs.Watching.{part_of}

pub sum_by_parts : (cost : ℕ → ℕ) (watchers : List Watcher) → sum_by cost (map part_of watchers) ≡ sum_by (λ watcher. cost watcher.part) watchers
sum_by_parts cost watchers = fold-map (λ (total part : ℕ). total + cost part) part_of 0 watchers

-- what holds of all holds of the one behind some
pub next_in : (P : ℕ → Type 0) (before after all : List ℕ) (part : ℕ) → all ≡ before ++ part ∷ after → All P all → P part
next_in P before after all part is each =
    All-head P part after (All-back P before (part ∷ after) (subst (All P) is each))

module _ (others : List ℕ) (watchers : List Watcher) (dependents : List ℕ)
    (each : IsPermutation (others ++ map part_of watchers) dependents) where
  pub with_watcher : (watcher : Watcher)
      → IsPermutation (others ++ map part_of (watchers ++ watcher ∷ [])) (dependents ++ watcher.part ∷ [])
  with_watcher watcher =
      subst (λ parts. IsPermutation parts (dependents ++ watcher.part ∷ []))
      (append_assoc others (map part_of watchers) (watcher.part ∷ [])
      ∙ ap (λ parts. others ++ parts) (sym (map-append part_of watchers (watcher ∷ []))))
      (IsPermutation-append_left (watcher.part ∷ []) (others ++ map part_of watchers) dependents each)

  pub with_other : (part : ℕ) → IsPermutation ((others ++ part ∷ []) ++ map part_of watchers) (dependents ++ part ∷ [])
  with_other part =
      let parts = map part_of watchers in
      subst (λ parts. IsPermutation parts (dependents ++ part ∷ [])) (sym (append_assoc others (part ∷ []) parts))
      (IsPermutation-trans (others ++ part ∷ parts) (part ∷ (others ++ parts)) (dependents ++ part ∷ [])
      (IsPermutation-middle others part parts)
      (IsPermutation-trans (part ∷ (others ++ parts)) (part ∷ dependents) (dependents ++ part ∷ [])
      (IsPermutation-cons part (others ++ parts) dependents each)
      (IsPermutation-sym (dependents ++ part ∷ []) (part ∷ dependents) (IsPermutation-to_front dependents part))))

  pub in_order : (sorted : List Watcher) → IsPermutation watchers sorted → IsPermutation (others ++ map part_of sorted) dependents
  in_order sorted moved =
      IsPermutation-trans (others ++ map part_of sorted) (others ++ map part_of watchers) dependents
      (IsPermutation-append_right others (map part_of sorted) (map part_of watchers)
      (IsPermutation-map part_of sorted watchers (IsPermutation-sym watchers sorted moved)))
      each
