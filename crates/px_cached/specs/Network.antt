-- Parts of conditions, what each spells, and when their truths agree.
use Rattle.std.specs.Prelude.{◌≡◌, ℕ, ◌+◌, ◌<◌, ◌^◌, Bool, List, length, slice_index_or, Option, None, Some}
use Rattle.px_value.specs.Truth.{kleene_and, kleene_not, kleene_or}
use Rattle.px_core.specs.declared.expr.BinaryOp.TheVariants as operators
use Rattle.px_core.specs.declared.expr.UnaryOp.TheVariants.{Not}
use Rattle.px_flat.specs.declared.numbered.NumberedExpr.{NumberedExpr}
use Rattle.px_flat.specs.Numbered.{Numbered, Unary, Binary}
use Rattle.px_flat.specs.NumberedData.{expr_data}
use Rattle.px_cached.specs.declared.part.Above.{Above}
use Rattle.px_cached.specs.declared.part.Above.TheVariants as aboves
use Rattle.px_cached.specs.declared.part.Joint.{Joint}
use Rattle.px_cached.specs.declared.part.Joint.TheVariants as joints
use Rattle.px_cached.specs.declared.part.Part.{Part}
use Rattle.px_cached.specs.declared.part.Part.TheVariants as parts
use Rattle.px_cached.specs.declared.part.Root.{Root}
use Rattle.px_cached.specs.declared.part.Root.TheVariants as root

-- the expression that a joint makes of two
abbrev pub joined : Joint → Numbered → Numbered → Numbered
joined joints.And a b = Binary operators.And a b
joined joints.Or a b = Binary operators.Or a b
joined joints.Nor a b = Unary Not (Binary operators.Or a b)

abbrev pub kleene : Joint → Option Bool → Option Bool → Option Bool
kleene joints.And left right = kleene_and left right
kleene joints.Or left right = kleene_or left right
kleene joints.Nor left right = kleene_not (kleene_or left right)

abbrev pub part_at : List Part → ℕ → Part
part_at network part = slice_index_or network part (parts.Joined joints.And 0 0)

abbrev pub above_at : List Above → ℕ → Above
above_at above part = slice_index_or above part (aboves.Condition 0)

-- A part spells an expression: it is evaluated whole, or it is the joint of two parts that spell its operands.
pub data Spells (network : List Part) : ℕ → Numbered → Type 0 where
  Whole : {part : ℕ} {expr : Numbered} (of : NumberedExpr) → part < length network
      → part_at network part ≡ parts.Whole of → expr ≡ expr_data of → Spells network part expr
  Joined : {part : ℕ} {expr : Numbered} (joint : Joint) (left right : ℕ) (a b : Numbered) → part < length network
      → part_at network part ≡ parts.Joined joint left right → expr ≡ joined joint a b
      → Spells network left a → Spells network right b → Spells network part expr

-- The parts of an expression stand one after another, from this one on; the last is its own.
pub data Stands (network : List Part) : ℕ → ℕ → Numbered → Type 0 where
  One : {from last : ℕ} {expr : Numbered} (of : NumberedExpr) → last < length network → last ≡ from
      → part_at network last ≡ parts.Whole of → expr ≡ expr_data of → Stands network from last expr
  Two : {from last : ℕ} {expr : Numbered} (joint : Joint) (left right : ℕ) (a b : Numbered) → last < length network
      → last ≡ right + 1 → part_at network last ≡ parts.Joined joint left right → expr ≡ joined joint a b
      → Stands network from left a → Stands network (left + 1) right b → Stands network from last expr

-- ---- how parts stand

-- the parts in a joined one stand before it, and have it above them
abbrev pub IsOver : List Above → ℕ → Part → Type 0
IsOver above part (parts.Whole expr) = Unit {0}
IsOver above part (parts.Joined joint left right) = (left < part) × ((right < part)
    × ((above_at above left ≡ aboves.Part part) × (above_at above right ≡ aboves.Part part)))

-- what is above a part stands behind it
abbrev pub IsUnder : ℕ → ℕ → Above → Type 0
IsUnder count part (aboves.Condition node) = Unit {0}
IsUnder count part (aboves.Part above) = (part < above) × (above < count)

pub record IsNetwork (network : List Part) (above : List Above) : Type 0 where
  pub few : length network < 2 ^ 32
  pub sized : length above ≡ length network
  pub over : (part : ℕ) → part < length network → IsOver above part (part_at network part)
  pub under : (part : ℕ) → part < length network → IsUnder (length network) part (above_at above part)

-- ---- truths

abbrev pub truth_at : List (Option Bool) → ℕ → Option Bool
truth_at truths part = slice_index_or truths part None

-- the truth of a condition, over those of the parts
abbrev pub root_truth : List (Option Bool) → Root → Option Bool
root_truth truths (root.Constant truth) = Some truth
root_truth truths (root.Part part) = truth_at truths part

-- the part that keeps the truth is one of so many
abbrev pub IsAmong : ℕ → Root → Type 0
IsAmong count (root.Constant truth) = Unit {0}
IsAmong count (root.Part part) = part < count

-- a truth is the joint's over those of the parts in it, where there are any
abbrev pub IsSettled : List (Option Bool) → Option Bool → Part → Type 0
IsSettled truths truth (parts.Whole expr) = Unit {0}
IsSettled truths truth (parts.Joined joint left right) =
    truth ≡ kleene joint (truth_at truths left) (truth_at truths right)

-- each joined part's truth is that
abbrev pub Agree : List Part → List (Option Bool) → Type 0
Agree network truths = (part : ℕ) → part < length network
    → IsSettled truths (truth_at truths part) (part_at network part)
