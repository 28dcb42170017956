-- What every table of claims keeps.
use Rattle.std.specs.Prelude.{◌≡◌, ℕ, ◌<◌, Bool, not, ◌&&◌, nat_eq, List, length, slice_index_or, Option, Some, None, All, if◌then◌else◌}
use Rattle.std.specs.List.{position_or_len}
use Rattle.px_links.specs.Links.{LinksData, holder_of}
use Rattle.px_tally.specs.Tally.{TallyData, is_counted, is_nobody}
use Rattle.px_assign.specs.declared.claims.Claims.TheInside.{Inside}
use Rattle.px_assign.specs.declared.order.Writer.{Writer}
use Rattle.px_assign.specs.Claims.{ClaimsData}
use Rattle.px_assign.specs.Ordering.{IsOrdered, place_wanting}

abbrev pub claims_data : Inside → ClaimsData
claims_data c = record {
  writers = c.firsts.writers.items;
  variables = c.wanting.group_of;
  wanting = c.wanting.counting;
  holding = c.holding.counting;
}

-- some writer would start, and none is at work
abbrev pub is_contested : TallyData → TallyData → ℕ → Bool
is_contested wanting holding variable = not (is_nobody wanting variable) && is_nobody holding variable

-- what holds a variable that is so: the one list, or none
abbrev pub holder_for : Bool → Option ℕ
holder_for is = if is then Some 0 else None

-- just these variables are in the one list
abbrev pub HoldsContested : TallyData → TallyData → LinksData → Type 0
HoldsContested wanting holding links =
    (variable : ℕ) → holder_of links variable ≡ holder_for (is_contested wanting holding variable)

-- both tallies are of the same nodes, by the variables that they write
pub record AreTallies (wanting holding : TallyData) : Type 0 where
  pub same : holding.group_of ≡ wanting.group_of
  pub groups : holding.groups ≡ wanting.groups
  pub wanting_sized : length wanting.counting ≡ length wanting.group_of
  pub holding_sized : length holding.counting ≡ length holding.group_of
  pub within : (node variable : ℕ) → slice_index_or wanting.group_of node None ≡ Some variable
      → variable < wanting.groups

-- it is this node's writer
abbrev pub is_node : ℕ → Writer → Bool
is_node node writer = nat_eq writer.node node

-- by node its place among the writers, or behind all where it is none of them
abbrev pub AreRanks : List Writer → List ℕ → Type 0
AreRanks writers ranks =
    (node : ℕ) → node < length ranks → slice_index_or ranks node 0 ≡ position_or_len (is_node node) writers

-- each writes the variable of its group
abbrev pub OfGroups : List (Option ℕ) → List Writer → Type 0
OfGroups group_of writers =
    All (λ (writer : Writer). slice_index_or group_of writer.node None ≡ Some writer.variable) writers

-- each writer writes the variable of its node's group, and each node has its place
pub record IsRanked (group_of : List (Option ℕ)) (writers : List Writer) (ranks : List ℕ) : Type 0 where
  pub nodes : All (λ (writer : Writer). writer.node < length group_of) writers
  pub groups : OfGroups group_of writers
  pub sized : length ranks ≡ length group_of
  pub right : AreRanks writers ranks

-- by variable the place of its first writer that wants it
abbrev pub HoldsFirsts : TallyData → List Writer → List ℕ → Type 0
HoldsFirsts wanting writers places = (variable : ℕ)
    → slice_index_or places variable (length writers) ≡ place_wanting (is_counted wanting) writers variable

pub record IsKept (c : Inside) : Type 0 where
  pub order : IsOrdered c.firsts.writers.items
  pub tallies : AreTallies c.wanting c.holding
  pub ranked : IsRanked c.wanting.group_of c.firsts.writers.items c.firsts.ranks.items
  pub variables : length c.firsts.places.items ≡ c.wanting.groups
  pub firsts : HoldsFirsts c.wanting c.firsts.writers.items c.firsts.places.items
  pub cells : c.contested.cells ≡ c.wanting.groups
  pub lists : length c.contested.lists ≡ 1
  pub contested : HoldsContested c.wanting c.holding c.contested
