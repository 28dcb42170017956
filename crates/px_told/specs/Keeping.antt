-- What every table of nodes keeps.
use Rattle.std.specs.Prelude.{◌≡◌, List, length}
use Rattle.px_told.specs.declared.asks.Asks.{Asks}
use Rattle.px_told.specs.declared.place.Place.{Place}
use Rattle.px_told.specs.declared.told.Told.TheInside.{Inside}
use Rattle.px_told.specs.Preorder.{IsPreorder}
use Rattle.px_told.specs.Told.{ToldData, AreAllTold}

abbrev pub told_data : Inside → ToldData
told_data t = record { tree = t.tree.items; own = t.own.items; told = t.told.items }

-- the nodes are a tree's, each has its asks, and each is told what it is to be told
pub record AreKept (tree : List Place) (own told : List Asks) : Type 0 where
  pub shape : IsPreorder tree
  pub own_sized : length own ≡ length tree
  pub told_sized : length told ≡ length tree
  pub right : AreAllTold tree own told

abbrev pub IsKept : Inside → Type 0
IsKept t = AreKept t.tree.items t.own.items t.told.items
