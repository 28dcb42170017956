-- What a change does on its way up.
use Rattle.std.specs.Prelude.{◌≡◌, ◌≢◌, ℕ, ◌+◌, ◌<◌, ◌≤◌, Bool, List, [], ◌∷◌, length, Option, Some, ◌⊎◌}
use Rattle.px_cached.specs.declared.part.Above.{Above}
use Rattle.px_cached.specs.declared.part.Above.TheVariants as aboves
use Rattle.px_cached.specs.declared.part.Part.{Part}
use Rattle.px_cached.specs.declared.part.Part.TheVariants as parts
use Rattle.px_cached.specs.Network.{above_at, kleene, part_at, truth_at}

-- the parts in a joined one are among so many
abbrev pub IsInside : ℕ → Part → Type 0
IsInside count (parts.Whole expr) = Unit {0}
IsInside count (parts.Joined joint left right) = (left < count) × (right < count)

-- the truth that a part has by those in it, or the one that it has where it is evaluated whole
abbrev pub truth_by : List (Option Bool) → Option Bool → Part → Option Bool
truth_by truths truth (parts.Whole expr) = truth
truth_by truths truth (parts.Joined joint left right) = kleene joint (truth_at truths left) (truth_at truths right)

abbrev pub IsKept : List (Option Bool) → List (Option Bool) → ℕ → Part → Type 0
IsKept old new part (parts.Whole expr) = truth_at new part ≡ truth_at old part
IsKept old new part (parts.Joined joint left right) = Unit {0}

-- what is evaluated whole keeps its truth, but for this part
abbrev pub AreWholesKept : List Part → List (Option Bool) → List (Option Bool) → ℕ → Type 0
AreWholesKept network old new from = (part : ℕ) → part ≢ from → IsKept old new part (part_at network part)

-- each condition keeps its truth, or this node is the one that has it
abbrev pub IsOnlyChanged : List Above → List (Option Bool) → List (Option Bool) → Option ℕ → Type 0
IsOnlyChanged above old new changed = (part node : ℕ) → above_at above part ≡ aboves.Condition node
    → (truth_at new part ≡ truth_at old part) ⊎ (changed ≡ Some node)

-- these parts are above this one, up to one of which a condition is made
abbrev pub IsWayUp : List Above → ℕ → List ℕ → Type 0
IsWayUp above part [] = (node : ℕ) × (above_at above part ≡ aboves.Condition node)
IsWayUp above part (next ∷ way) = (above_at above part ≡ aboves.Part next) × IsWayUp above next way

-- it looks at the part and at most at those above it
abbrev pub LooksUp : List Above → ℕ → ℕ → Type 0
LooksUp above part looks = (way : List ℕ) → IsWayUp above part way → looks ≤ 1 + length way

-- a condition of the node is one of so many parts
abbrev pub IsOfPart : List Above → ℕ → ℕ → Type 0
IsOfPart above count node = (part : ℕ) × ((part < count) × (above_at above part ≡ aboves.Condition node))
