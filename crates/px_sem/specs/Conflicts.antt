-- Which of the nodes that have a row go: all but the losers of conflicts over a variable.
use Rattle.std.specs.Prelude.{ℕ, Bool, false, not, ◌&&◌, ◌||◌, nat_lt, nat_eq, List, filter, is_some, is_none, Option, Some, None, if◌then◌else◌}
use Rattle.std.specs.List.{list_all, list_any, position_or_len}
use Rattle.px_core.specs.Plan.{Site, BodyData, Nothing, Assign, Command, Update, TargetData, is_same}
use Rattle.px_sem.specs.declared.guards.Arrival.{Arrival}
use Rattle.px_sem.specs.World.{World, record_at, state_at}
use Rattle.px_sem.specs.Guards.{guards, is_waiting, is_executing, is_active}
use Rattle.px_sem.specs.Table

-- where a node's row leads, or none where no guard holds
abbrev pub destination : List Site → World → Site → Option Arrival
destination plan world site = Table.dest site.head.kind (record_at world site.path).state (guards plan world site)

-- what a body writes: the target of an assignment, or of a command's result
abbrev pub target_of : BodyData → Option TargetData
target_of Nothing = None
target_of (Assign target value) = Some target
target_of (Command name args result) = result
target_of (Update pairs) = None

-- both write one variable, or elements of one array
abbrev pub is_same_variable : TargetData → TargetData → Bool
is_same_variable a b = is_same a.owner b.owner && is_same a.name b.name

abbrev pub writes : TargetData → Site → Bool
writes variable site = of_target (target_of site.head.body)
  where
    of_target : Option TargetData → Bool
    of_target None = false
    of_target (Some target) = is_same_variable target variable

-- a writer that is at work holds its variable
abbrev pub holds_variable : World → Site → Bool
holds_variable world site = is_active (state_at world site.path)

-- a node's row leads from WAITING to EXECUTING
abbrev pub would_start : List Site → World → Site → Bool
would_start plan world site = is_waiting (state_at world site.path) && leads_there (destination plan world site)
  where
    leads_there : Option Arrival → Bool
    leads_there None = false
    leads_there (Some arrival) = is_executing arrival.to

-- how many nodes stand before one in preorder
abbrev pub count_before : List Site → Site → ℕ
count_before plan site = position_or_len (λ other. is_same other.path site.path) plan

abbrev pub is_earlier : List Site → Site → Site → Bool
is_earlier plan a b = nat_lt (count_before plan a) (count_before plan b)

-- the lower priority number goes first (PLEXIL reference manual, "Assignment Nodes"), and of one number the earlier place
abbrev pub goes_before : List Site → Site → Site → Bool
goes_before plan a b =
    nat_lt a.head.priority b.head.priority
    || (nat_eq a.head.priority b.head.priority && is_earlier plan a b)

-- another writer takes the variable: it holds it, or would start too and goes before
abbrev pub takes : List Site → World → Site → Site → Bool
takes plan world site other =
    holds_variable world other || (would_start plan world other && goes_before plan other site)

-- and keeps a writer from starting
abbrev pub keeps_back : List Site → World → TargetData → Site → Site → Bool
keeps_back plan world variable site other =
    writes variable other && not (is_same other.path site.path) && takes plan world site other

abbrev pub is_loser : List Site → World → Site → Bool
is_loser plan world site = over (target_of site.head.body)
  where
    over : Option TargetData → Bool
    over None = false
    over (Some variable) =
        would_start plan world site && list_any (keeps_back plan world variable site) plan

-- where a node goes, or none where it stays
abbrev pub transition : List Site → World → Site → Option Arrival
transition plan world site = if is_loser plan world site then None else destination plan world site

-- the nodes that go, in preorder
abbrev pub goes : List Site → World → List Site
goes plan world = filter (λ site. is_some (transition plan world site)) plan

-- no node goes: quiescence, in the small-step semantics
abbrev pub is_quiet : List Site → World → Bool
is_quiet plan world = list_all (λ site. is_none (transition plan world site)) plan
