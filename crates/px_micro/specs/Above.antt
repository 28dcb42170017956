-- What a node's ancestors ask of it: by an Exit, by an Invariant, by an End.
use Rattle.std.specs.Prelude.{◌≡◌, ℕ, List, [], ◌∷◌, Option, Some, None}
use Rattle.std.specs.Option.{ForSome}
use Rattle.px_value.specs.declared.enums.NodeState.{NodeState}
use Rattle.px_value.specs.declared.enums.Failure.{Failure}
use Rattle.px_core.specs.declared.conditions.ConditionKind.TheVariants as which
use Rattle.px_core.specs.Plan.{Site, site_at}
use Rattle.px_sem.specs.World as world
use Rattle.px_sem.specs.World.{record_at}
use Rattle.px_sem.specs.Guards.{Truth, condition, exit_asks, invariant_asks, end_asks, some_asks}
use Rattle.px_flat.specs.Row.{site_in, parent_number}
use Rattle.px_told.specs.declared.asks.Asks.{Asks}

-- what the nodes at these paths ask together
abbrev pub asked_by : List Site → world.World → List (List ℕ) → Asks
asked_by plan now paths = record {
  exit = some_asks exit_asks which.Exit plan now paths;
  invariant = some_asks invariant_asks which.Invariant plan now paths;
  end = some_asks end_asks which.End plan now paths;
}

-- what is asked of a node, by all above it
abbrev pub asked_of : List Site → world.World → ℕ → Asks
asked_of plan now node = asked_by plan now (site_in plan node).above

-- what is asked of the children of a node: by the node, and by all above it
abbrev pub asked_below : List Site → world.World → ℕ → Asks
asked_below plan now node = asked_by plan now ((site_in plan node).path ∷ (site_in plan node).above)

-- what a node with this record asks, by the truths of its Exit, its Invariant and its End
abbrev pub asks_in : world.NodeRecord → Truth → Truth → Truth → Asks
asks_in r exit invariant end =
    record { exit = exit_asks r exit; invariant = invariant_asks r invariant; end = end_asks r end }

-- what the node at a path asks
abbrev pub asks_at : List Site → world.World → List ℕ → Asks
asks_at plan now path =
    asks_in (record_at now path) (condition plan now (site_at plan path) which.Exit)
    (condition plan now (site_at plan path) which.Invariant) (condition plan now (site_at plan path) which.End)

-- a record with this state and failure
abbrev pub in_state : NodeState → Option Failure → world.NodeRecord
in_state state failure =
    record { state = state; outcome = None; failure = failure; variables = []; action = world.NoAction }

-- what is known of nodes is what is asked of their children
abbrev pub AreRight : List Site → world.World → (ℕ → Option Asks) → Type 0
AreRight plan now known = (node : ℕ) → ForSome (known node) (λ asked. asked ≡ asked_below plan now node)

-- these nodes lead up from a node to the last, each the parent of the one before
abbrev pub IsChain : List Site → ℕ → List ℕ → ℕ → Type 0
IsChain plan node [] last = last ≡ node
IsChain plan node (parent ∷ chain) last = (parent_number plan node ≡ Some parent) × IsChain plan parent chain last

-- these nodes lead up from a node, and this is what is asked of the last
pub record LeadsUp (plan : List Site) (now : world.World) (node : ℕ) (chain : List ℕ) (asked : Asks) : Type 0 where
  pub last : ℕ
  pub leads : IsChain plan node chain last
  pub asked_is : asked ≡ asked_of plan now last
