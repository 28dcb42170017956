-- The parts that are laid for an expression, and for all conditions so far.
use Rattle.std.specs.Prelude.{◌≡◌, ℕ, zero, suc, ◌+◌, ◌/◌, ◌<◌, ◌≤◌, false, List, ◌++◌, length, slice_index_or}
use Rattle.px_value.specs.declared.value.Value.TheVariants.{Boolean}
use Rattle.px_core.specs.declared.conditions.ConditionKind.{ConditionKind}
use Rattle.px_core.specs.Plan.{Site}
use Rattle.px_flat.specs.Numbered.{Numbered, Literal}
use Rattle.px_flat.specs.NumberedData.{expr_data}
use Rattle.px_flat.specs.Sources.{Source, sources_in}
use Rattle.px_flat.specs.Within.{IsWithin}
use Rattle.px_cached.specs.declared.part.Above.{Above}
use Rattle.px_cached.specs.declared.part.Above.TheVariants as aboves
use Rattle.px_cached.specs.declared.part.Part.{Part}
use Rattle.px_cached.specs.declared.part.Part.TheVariants as parts
use Rattle.px_cached.specs.declared.part.Root.{Root}
use Rattle.px_cached.specs.declared.part.Root.TheVariants as root
use Rattle.px_cached.specs.Conditions.{condition_at, condition_in}
use Rattle.px_cached.specs.Network.{IsNetwork, Spells, Stands, above_at, part_at}

-- some sources stand among others, one after another
abbrev pub IsStretch : List Source → List Source → Type 0
IsStretch some all = (before : List Source) × (after : List Source) × (all ≡ before ++ (some ++ after))

-- what is evaluated whole lies within the tables, and its sources are among these
abbrev pub IsReadIn : List Site → List Source → Part → Type 0
IsReadIn plan sources (parts.Whole expr) =
    IsWithin plan (expr_data expr) × IsStretch (sources_in plan (expr_data expr)) sources
IsReadIn plan sources (parts.Joined joint left right) = Unit {0}

-- the last part spells the expression, and is a node's condition until something else is above it
pub record IsLaid (plan : List Site) (node : ℕ) (expr : Numbered) (old new : List Part) (old_above new_above : List Above)
    (last : ℕ) : Type 0 where
  pub network : IsNetwork new new_above
  pub longer : length old ≤ length new
  pub same : (part : ℕ) → part < length old → part_at new part ≡ part_at old part
  pub same_above : (part : ℕ) → part < length old → above_at new_above part ≡ above_at old_above part
  pub behind : length old ≤ last
  pub spells : Spells new last expr
  pub stands : Stands new (length old) last expr
  pub end : length new ≡ last + 1
  pub top : above_at new_above last ≡ aboves.Condition node
  pub named : (part other : ℕ) → length old ≤ part → part < length new
      → above_at new_above part ≡ aboves.Condition other → other ≡ node
  pub read : (part : ℕ) → length old ≤ part → part < length new → IsReadIn plan (sources_in plan expr) (part_at new part)

-- ---- all conditions

-- the condition is this constant, or this part spells it, and nothing else is above it
abbrev pub IsRoot : List Site → List Part → List Above → ℕ → Root → Type 0
IsRoot plan network above number (root.Constant truth) = condition_at plan number ≡ Literal (Boolean truth)
IsRoot plan network above number (root.Part part) =
    Spells network part (condition_at plan number) × (above_at above part ≡ aboves.Condition (number / 8))

abbrev pub root_at : List Root → ℕ → Root
root_at roots number = slice_index_or roots number (root.Constant false)

-- from here on the parts of an expression stand, of which a constant has none
abbrev pub StandsBy : List Part → ℕ → Root → Numbered → Type 0
StandsBy network from (root.Constant truth) expr = Unit {0}
StandsBy network from (root.Part part) expr = Stands network from part expr

-- the place behind them
abbrev pub past : ℕ → Root → ℕ
past from (root.Constant truth) = from
past from (root.Part part) = part + 1

-- what is evaluated whole lies within the tables, and its sources are among those of some condition
abbrev pub IsRead : List Site → Part → Type 0
IsRead plan (parts.Whole expr) = IsWithin plan (expr_data expr)
    × ((node : ℕ) × (kind : ConditionKind) × ((node < length plan)
    × IsStretch (sources_in plan (expr_data expr)) (sources_in plan (condition_in plan node kind))))
IsRead plan (parts.Joined joint left right) = Unit {0}

-- where the parts of a number's condition begin: behind those of the one before
abbrev pub begin : List Root → ℕ → ℕ
begin roots zero = 0
begin roots (suc before) = past (begin roots before) (root_at roots before)

-- the parts of the conditions below this number are laid
pub record HasLaid (plan : List Site) (network : List Part) (above : List Above) (roots : List Root) (number : ℕ) : Type 0 where
  pub shape : IsNetwork network above
  pub count : length roots ≡ number
  pub rooted : (other : ℕ) → other < number → IsRoot plan network above other (root_at roots other)
  pub named : (part node : ℕ) → part < length network → above_at above part ≡ aboves.Condition node → node < length plan
  pub read : (part : ℕ) → part < length network → IsRead plan (part_at network part)
  pub stands : (other : ℕ) → other < number
      → StandsBy network (begin roots other) (root_at roots other) (condition_at plan other)
  pub end : length network ≡ begin roots number
