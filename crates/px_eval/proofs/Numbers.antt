-- The values of numbered expressions one by one, and what they are to the plan's own.
use Rattle.std.proofs.Common.{◌≡◌, ℕ, zero, suc, ◌+◌, ◌<◌, List, [], ◌∷◌, map, refl, ap, ◌∙◌, arith}
use Rattle.std.specs.List.{All}
use Rattle.px_value.specs.declared.value.Value.{Value}
use Rattle.px_core.specs.Plan.{Site}
use Rattle.px_sem.specs.World.{LookState, Report}
use Rattle.px_flat.specs.declared.flat.Flat.{Flat}
use Rattle.px_flat.specs.declared.numbered.NumberedExpr.{NumberedExpr}
use Rattle.px_flat.specs.Flat.{plan_of}
use Rattle.px_flat.specs.Numbered.{Numbered, Element, numbered_value, numbered_values}
use Rattle.px_flat.specs.NumberedData.{expr_data, in_turn}
use Rattle.px_flat.specs.Within.{IsWithin, AreWithin}
use Rattle.px_flat.proofs.NumberedValues.{numbered_value-numbered}
use Rattle.px_flat.proofs.Tables.{flat_sound}
use Rattle.px_eval.specs.Meaning.{Means}

-- expressions lie within the tables in turn where each does
pub each_within : (plan : List Site) (exprs : List NumberedExpr) → AreWithin plan (in_turn (map expr_data exprs))
    → All (λ expr. IsWithin plan (expr_data expr)) exprs
each_within plan [] within k d inside = absurd (omega (arith, inside))
each_within plan (expr ∷ exprs) within zero d inside = within.0
each_within plan (expr ∷ exprs) within (suc k) d inside = each_within plan exprs within.1 k d (omega (arith, inside))

pub within_each : (plan : List Site) (exprs : List Numbered) → All (IsWithin plan) exprs → AreWithin plan (in_turn exprs)
within_each plan [] within = tt
within_each plan (expr ∷ exprs) within =
    (within 0 expr (omega arith), within_each plan exprs (λ k d inside. within (suc k) d (omega (arith, inside))))

-- and have their values in turn
pub values_in_turn : (plan : List Site) (cells : List Value) (reports : List (LookState × Report)) (exprs : List Numbered)
    → map (numbered_value plan cells reports) exprs ≡ numbered_values plan cells reports (in_turn exprs)
values_in_turn plan cells reports [] = refl
values_in_turn plan cells reports (expr ∷ exprs) =
    ap (λ values. numbered_value plan cells reports expr ∷ values) (values_in_turn plan cells reports exprs)

-- an array that stands within the tables has its cells below 2^32
pub few_cells : (flat : Flat) (first size : ℕ) (index : Numbered) → IsWithin (plan_of flat) (Element first size index)
    → first + size < 4294967296
few_cells flat first size index within = omega (arith, within.0.within, (flat_sound flat).cells)

pub meaning : (flat : Flat) (cells : List Value) (reports : List (LookState × Report)) (expr : Numbered)
    → Means (plan_of flat) cells reports expr (numbered_value (plan_of flat) cells reports expr)
meaning flat cells reports expr term acts known is parts =
    ap (numbered_value (plan_of flat) cells reports) is
    ∙ numbered_value-numbered (plan_of flat) cells reports acts term (flat_sound flat) parts known
