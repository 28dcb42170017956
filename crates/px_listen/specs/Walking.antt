-- What is left of a walk over the watchers of a source.
use Rattle.std.specs.Prelude.{ℕ, ◌≡◌, ◌<◌, ◌≤◌, List, length, map, slice_index, None, IfSome, IsSome}
use Rattle.px_links.specs.Links.{LinksData, holder_of, rest_of}
use Rattle.px_listen.specs.declared.dependents.Dependents.TheInside.{Inside}

-- the watchers of cells
abbrev pub watchers_in : List ℕ → List ℕ → List ℕ
watchers_in watcher_of cells = map (λ cell. slice_index watcher_of cell) cells

-- cells from this one on are in no list
abbrev pub AreUnused : LinksData → ℕ → Type 0
AreUnused links used = (cell : ℕ) → used ≤ cell → holder_of links cell ≡ None

-- those from the next one's cell on
abbrev pub watchers_left : Inside → List ℕ
watchers_left walk = watchers_in walk.watcher_of.now (rest_of walk.links.now walk.at)

-- the next one's cell is in a list, and each cell in a list has a watcher
pub record IsOnTheWay (walk : Inside) : Type 0 where
  pub held : IfSome walk.at (λ cell. IsSome (holder_of walk.links.now cell))
  pub within : IfSome walk.at (λ cell. cell < walk.links.now.cells)
  pub unused : AreUnused walk.links.now (length walk.watcher_of.now)
