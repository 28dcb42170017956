-- Listeners without a pair.
use Rattle.std.proofs.Common.{◌≡◌, ℕ, ◌<◌, ◌≢◌, List, [], length, map, replicate, sum_by, get_or, None, All, AllPairs, refl, ap, sym, ◌∙◌, arith, subst}
use Rattle.std.proofs.lemmas.List.{length-replicate}
use Rattle.std.proofs.lemmas.List.Elements.{All-nil, All-replicate}
use Rattle.std.proofs.lemmas.List.Folds.{map_fixed, sum_by-replicate}
use Rattle.std.proofs.Math.Nat.{mul-zero}
use Rattle.px_value.proofs.General.{replicate-same}
use Rattle.px_links.specs.Links.{LinksData, empty, holder_of}
use Rattle.px_listen.specs.Keeping.{ArePairs, listening}
use Rattle.px_listen.specs.Listening.{AreSound, dependents_of, pairs_of, unwatched}
use Rattle.px_listen.specs.Walking.{watchers_in}

abbrev none : ℕ → List (List ℕ)
none sources = replicate sources []

no-lists : (sources : ℕ) → map (watchers_in []) (none sources) ≡ none sources
no-lists sources =
    map_fixed (watchers_in []) (none sources) (All-replicate (λ (list : List ℕ). watchers_in [] list ≡ list) sources [] refl)

no-pairs : (sources : ℕ) → sum_by (λ (list : List ℕ). length list) (none sources) ≡ 0
no-pairs sources = sum_by-replicate (λ (list : List ℕ). length list) sources [] ∙ mul-zero sources

-- what they are to contracts
pub listening-none : (sources watchers room : ℕ)
    → listening watchers (empty room sources) [] ≡ unwatched sources watchers room
listening-none sources watchers room = λ i. record { watchers = watchers; room = room; dependents = no-lists sources i }

sound-none : (sources watchers room : ℕ) → AreSound (unwatched sources watchers room)
sound-none sources watchers room = record {
  within = All-replicate (All (λ watcher. watcher < watchers)) sources [] (All-nil (λ watcher. watcher < watchers));
  once = All-replicate (AllPairs (λ a b. a ≢ b)) sources [] (λ i j d before below. absurd (omega arith));
  few = omega (arith, no-pairs sources);
}

pub kept-none : (sources watchers room : ℕ) → ((cell : ℕ) → holder_of (empty room sources) cell ≡ None)
    → ArePairs watchers (empty room sources) [] (replicate sources 0)
kept-none sources watchers room absent = record {
  sound = subst AreSound (sym (listening-none sources watchers room)) (sound-none sources watchers room);
  pairs = ap pairs_of (listening-none sources watchers room) ∙ no-pairs sources;
  unused = λ cell past. absent cell;
  bounded = length-replicate sources 0 ∙ sym (length-replicate {A = List ℕ} sources []);
  below = λ source. subst (λ listeners. All (λ watcher. watcher < get_or (replicate sources 0) source 0)
      (dependents_of listeners source)) (sym (listening-none sources watchers room))
      (rw (replicate-same {X = List ℕ} sources source []) (All-nil (λ watcher. watcher < get_or (replicate sources 0) source 0)));
}

pub kept-made : (sources watchers room : ℕ) (told : ℕ) (links : LinksData) (watcher_of bounds : List ℕ) → told ≡ watchers
    → links ≡ empty room sources → watcher_of ≡ [] → bounds ≡ replicate sources 0
    → ((cell : ℕ) → holder_of links cell ≡ None) → ArePairs told links watcher_of bounds
kept-made sources watchers room told links watcher_of bounds same made none zeros absent =
    rw (same, made, none, zeros)
    (kept-none sources watchers room (λ cell. ap (λ (links : LinksData). holder_of links cell) (sym made) ∙ absent cell))
