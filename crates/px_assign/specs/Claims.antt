-- What claims are to contracts: which nodes would start, and which are at work.
use Rattle.std.specs.Prelude.{◌≡◌, ◌≢◌, ℕ, ◌<◌, Bool, false, not, ◌&&◌, nat_eq, List, length, replicate, set, slice_index_or, filter, Option, All, AllPairs}
use Rattle.std.specs.List.{list_any, range_with_len}
use Rattle.px_core.specs.Plan.{Site}
use Rattle.px_sem.specs.Conflicts.{would_start}
use Rattle.px_sem.specs.World.{World}
use Rattle.px_flat.specs.Row.{site_in}
use Rattle.px_assign.specs.Conflicts.{is_writer, is_loser, is_loser_in, AreWriters}
use Rattle.px_assign.specs.declared.order.Writer.{Writer}
use Rattle.px_assign.specs.Ordering.{AreInOrder, variables_of}

-- the writers in the order in which they go, the variable that each node writes, and of each node whether it would start,
-- and whether it is at work
pub record ClaimsData : Type 0 where
  pub writers : List Writer
  pub variables : List (Option ℕ)
  pub wanting : List Bool
  pub holding : List Bool

-- they are claims of a plan's nodes
pub record AreOf (plan : List Site) (claims : ClaimsData) : Type 0 where
  pub writers : AreInOrder plan claims.writers
  pub variables : claims.variables ≡ variables_of plan

-- of so many nodes none would start, and none is at work
pub record AreNobodys (nodes : ℕ) (claims : ClaimsData) : Type 0 where
  pub wanting : claims.wanting ≡ replicate nodes false
  pub holding : claims.holding ≡ replicate nodes false

-- one node would start, or wouldn't
abbrev pub with_wanting : ClaimsData → ℕ → Bool → ClaimsData
with_wanting claims node wants = record {
  writers = claims.writers;
  variables = claims.variables;
  wanting = set claims.wanting node wants;
  holding = claims.holding;
}

-- one node is at work, or isn't
abbrev pub with_holding : ClaimsData → ℕ → Bool → ClaimsData
with_holding claims node holds = record {
  writers = claims.writers;
  variables = claims.variables;
  wanting = claims.wanting;
  holding = set claims.holding node holds;
}

-- the numbers at which this is so
abbrev pub numbers_in : List Bool → List ℕ
numbers_in flags = filter (λ number. slice_index_or flags number false) (range_with_len 0 (length flags))

abbrev pub wanting_in : ClaimsData → List ℕ
wanting_in claims = numbers_in claims.wanting

abbrev pub holding_in : ClaimsData → List ℕ
holding_in claims = numbers_in claims.holding

-- ---- who goes

-- a writer would start, and is no loser of a conflict
abbrev pub wins_by : List Site → List Bool → List Bool → ℕ → Bool
wins_by plan wants holds node =
    slice_index_or wants node false
    && (is_writer plan node && not (is_loser plan (numbers_in wants) (numbers_in holds) node))

abbrev pub is_winner : List Site → ClaimsData → ℕ → Bool
is_winner plan claims node = wins_by plan claims.wanting claims.holding node

-- these are the winners, each once
pub record AreWinners (plan : List Site) (claims : ClaimsData) (winners : List ℕ) : Type 0 where
  pub once : AllPairs (λ a b. a ≢ b) winners
  pub within : All (λ node. node < length plan) winners
  pub each : (node : ℕ) → node < length plan → list_any (nat_eq node) winners ≡ is_winner plan claims node

-- of the writers of a world the ones that start: what would start and is no loser
abbrev pub starts_in : List Site → World → ℕ → Bool
starts_in plan world node =
    would_start plan world (site_in plan node) && (is_writer plan node && not (is_loser_in plan world node))

-- these are all writers that start in each world in which just these would start and hold their variables
abbrev pub AreAllStarting : List Site → ClaimsData → List ℕ → Type 0
AreAllStarting plan claims winners = (world : World)
    → AreWriters plan world (wanting_in claims) (holding_in claims) → (node : ℕ) → node < length plan
    → list_any (nat_eq node) winners ≡ starts_in plan world node
