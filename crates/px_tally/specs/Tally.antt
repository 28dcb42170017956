-- What a tally is to contracts: members by number, each of a group or of none, some of which count.
use Rattle.std.specs.Prelude.{ℕ, ◌≡◌, Bool, false, ◌&&◌, nat_eq, List, length, replicate, set, slice_index_or, Option, Some, None, count_by, if◌then◌else◌}
use Rattle.std.specs.List.{zip}
use Rattle.px_value.specs.General.{is_number}

-- how many groups there are, the group of each member, and whether it counts
pub record TallyData : Type 0 where
  pub groups : ℕ
  pub group_of : List (Option ℕ)
  pub counting : List Bool

-- whether it is this group
abbrev pub is_group : ℕ → Option ℕ → Bool
is_group group member = is_number member group

-- how many of these members are of the group and count
abbrev pub total_in : List (Option ℕ) → List Bool → ℕ → ℕ
total_in group_of counting group =
    count_by (λ (member : Option ℕ × Bool). member.1 && is_group group member.0) (zip group_of counting)

-- how many members of the group count
abbrev pub total : TallyData → ℕ → ℕ
total tally group = total_in tally.group_of tally.counting group

-- none does
abbrev pub is_nobody : TallyData → ℕ → Bool
is_nobody tally group = nat_eq (total tally group) 0

-- whether the member counts
abbrev pub is_counted : TallyData → ℕ → Bool
is_counted tally member = slice_index_or tally.counting member false

-- these members, none of whom counts
abbrev pub nobody : ℕ → List (Option ℕ) → TallyData
nobody groups group_of =
    record { groups = groups; group_of = group_of; counting = replicate (length group_of) false }

-- one member counts, or doesn't
abbrev pub marked : TallyData → ℕ → Bool → TallyData
marked tally member counts =
    record { groups = tally.groups; group_of = tally.group_of; counting = set tally.counting member counts }

-- this member counts or doesn't, and each other one as before
abbrev pub CountsOthersAsBefore : TallyData → TallyData → ℕ → Bool → Type 0
CountsOthersAsBefore old new member counts =
    (other : ℕ) → is_counted new other ≡ (if nat_eq member other then counts else is_counted old other)

-- no member of the group counts
abbrev pub CountsNobody : TallyData → ℕ → Type 0
CountsNobody tally group =
    (member : ℕ) → slice_index_or tally.group_of member None ≡ Some group → is_counted tally member ≡ false
