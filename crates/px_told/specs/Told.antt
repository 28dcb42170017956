-- What nodes ask and are told, to contracts.
use Rattle.std.specs.Prelude.{ℕ, ◌≡◌, ◌≢◌, ◌<◌, nat_eq, List, [], ◌∷◌, length, replicate, Option, Some, None, if◌then◌else◌}
use Rattle.std.specs.List.{list_any}
use Rattle.px_told.specs.declared.asks.Asks.{Asks}
use Rattle.px_told.specs.declared.place.Place.{Place}
use Rattle.px_told.specs.Asking.{nothing, either, asks_at}
use Rattle.px_told.specs.Preorder.{parent_of}

-- where each node stands, what it asks of those below it, and what it is told
pub record ToldData : Type 0 where
  pub tree : List Place
  pub own : List Asks
  pub told : List Asks

-- nobody asks anything
abbrev pub silent : List Place → ToldData
silent tree =
    record { tree = tree; own = replicate (length tree) nothing; told = replicate (length tree) nothing }

-- what the node asks of those below it
abbrev pub own_at : ToldData → ℕ → Asks
own_at nodes node = asks_at nodes.own node

-- what the node is told
abbrev pub told_at : ToldData → ℕ → Asks
told_at nodes node = asks_at nodes.told node

-- what a node with this parent is to be told: with none nothing, else what the parent asks or is told
abbrev pub asked_under : List Asks → List Asks → Option ℕ → Asks
asked_under own told None = nothing
asked_under own told (Some parent) = either (asks_at own parent) (asks_at told parent)

-- the node is told that
abbrev pub IsTold : List Place → List Asks → List Asks → ℕ → Type 0
IsTold tree own told node = asks_at told node ≡ asked_under own told (parent_of tree node)

-- each node is
abbrev pub AreAllTold : List Place → List Asks → List Asks → Type 0
AreAllTold tree own told = (node : ℕ) → node < length tree → IsTold tree own told node

-- each node is but the children of this one
abbrev pub AreOthersTold : List Place → List Asks → List Asks → ℕ → Type 0
AreOthersTold tree own told parent =
    (node : ℕ) → node < length tree → parent_of tree node ≢ Some parent → IsTold tree own told node

abbrev pub AreTold : ToldData → Type 0
AreTold nodes = AreAllTold nodes.tree nodes.own nodes.told

-- this node asks that, and each other one what it asked before
abbrev pub AsksOthersAsBefore : ToldData → ToldData → ℕ → Asks → Type 0
AsksOthersAsBefore old new node asks =
    (other : ℕ) → own_at new other ≡ (if nat_eq node other then asks else own_at old other)

-- these are the node's proper ancestors, from its parent up
abbrev pub AreAncestors : List Place → ℕ → List ℕ → Type 0
AreAncestors tree node [] = parent_of tree node ≡ None
AreAncestors tree node (parent ∷ ancestors) = (parent_of tree node ≡ Some parent) × AreAncestors tree parent ancestors

-- each node has such ancestors
abbrev pub HaveAncestors : List Place → Type 0
HaveAncestors tree = (node : ℕ) → node < length tree → (ancestors : List ℕ) × AreAncestors tree node ancestors

-- what some of these nodes ask
abbrev pub some_ask : List Asks → List ℕ → Asks
some_ask own nodes = record {
  exit = list_any (λ node. (asks_at own node).exit) nodes;
  invariant = list_any (λ node. (asks_at own node).invariant) nodes;
  end = list_any (λ node. (asks_at own node).end) nodes;
}

-- each node is told what some proper ancestor of it asks
abbrev pub AreToldByAncestors : ToldData → Type 0
AreToldByAncestors nodes = (node : ℕ) (ancestors : List ℕ) → node < length nodes.tree
    → AreAncestors nodes.tree node ancestors → told_at nodes node ≡ some_ask nodes.own ancestors
