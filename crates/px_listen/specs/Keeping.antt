-- Which linked cells stand for pairs of a source and a watcher.
use Rattle.std.specs.Prelude.{ℕ, ◌≡◌, ◌<◌, ◌≤◌, ◌^◌, List, length, map, slice_index, All}
use Rattle.std.specs.Vec.{vec_capacity}
use Rattle.px_links.specs.Links.{LinksData}
use Rattle.px_listen.specs.declared.listeners.Listeners.TheInside.{Inside}
use Rattle.px_listen.specs.Listening.{ListenData, AreSound, pairs_of, dependents_of}
use Rattle.px_listen.specs.Walking.{AreUnused, watchers_in}

-- the list of a source has a cell for each of its watchers
abbrev pub listening : ℕ → LinksData → List ℕ → ListenData
listening watchers links watcher_of =
    record { watchers = watchers; room = links.cells; dependents = map (watchers_in watcher_of) links.lists }

abbrev pub listen_data : Inside → ListenData
listen_data l = listening l.watchers.value l.links l.watcher_of.items

-- as many cells are used as there are pairs, from 0 up, and each source's bound is above its watchers
pub record ArePairs (watchers : ℕ) (links : LinksData) (watcher_of bounds : List ℕ) : Type 0 where
  pub sound : AreSound (listening watchers links watcher_of)
  pub pairs : pairs_of (listening watchers links watcher_of) ≡ length watcher_of
  pub unused : AreUnused links (length watcher_of)
  pub bounded : length bounds ≡ length links.lists
  pub below : (source : ℕ)
      → All (λ watcher. watcher < slice_index bounds source) (dependents_of (listening watchers links watcher_of) source)

-- all numbers fit, and there is room for a watcher of each cell
pub record IsKept (l : Inside) : Type 0 where
  pub pairs : ArePairs l.watchers.value l.links l.watcher_of.items l.bounds.items
  pub room : l.links.cells ≤ vec_capacity l.watcher_of
  pub cells : l.links.cells < 2 ^ 32
  pub watchers : l.watchers.value < 2 ^ 32
