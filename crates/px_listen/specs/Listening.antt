-- What listeners are to contracts: for each source its watchers, in the order in which they were added.
use Rattle.std.specs.Prelude.{ℕ, ◌≢◌, ◌<◌, ◌≤◌, Bool, nat_eq, List, [], ◌∷◌, ◌++◌, length, replicate, set, slice_index_or, sum_by, All, AllPairs}
use Rattle.std.specs.List.{list_any}

-- how many watchers there are, for how many pairs there is room, and the watchers of each source
pub record ListenData : Type 0 where
  pub watchers : ℕ
  pub room : ℕ
  pub dependents : List (List ℕ)

-- how many pairs of a source and a watcher there are
abbrev pub pairs_of : ListenData → ℕ
pairs_of listeners = sum_by length listeners.dependents

-- the watchers of the source
abbrev pub dependents_of : ListenData → ℕ → List ℕ
dependents_of listeners source = slice_index_or listeners.dependents source []

-- whether the watcher is one of the source's
abbrev pub is_dependent : ListenData → ℕ → ℕ → Bool
is_dependent listeners source watcher = list_any (nat_eq watcher) (dependents_of listeners source)

-- each watcher is one of those, none stands twice at a source, and there are no more pairs than there is room for
pub record AreSound (listeners : ListenData) : Type 0 where
  pub within : All (All (λ watcher. watcher < listeners.watchers)) listeners.dependents
  pub once : All (AllPairs (λ watcher other. watcher ≢ other)) listeners.dependents
  pub few : pairs_of listeners ≤ listeners.room

-- no source has a watcher
abbrev pub unwatched : ℕ → ℕ → ℕ → ListenData
unwatched sources watchers room = record { watchers = watchers; room = room; dependents = replicate sources [] }

-- the watcher stands behind the others of the source, and those of other sources stay
abbrev pub with_dependent : ListenData → ℕ → ℕ → ListenData
with_dependent listeners source watcher = record {
  watchers = listeners.watchers;
  room = listeners.room;
  dependents = set listeners.dependents source (dependents_of listeners source ++ watcher ∷ []);
}
