-- The variables that nodes write are variables of the plan.
use Rattle.std.proofs.Common.{◌≡◌, ℕ, ◌<◌, List, length, get_or, Option, Some, None, IfSome, All, false, refl, sym, ◌∙◌, subst, arith}
use Rattle.std.proofs.lemmas.List.{length-replicate}
use Rattle.std.proofs.lemmas.List.FromFn.{get_or-map-range_with_len, length-map-range_with_len}
use Rattle.px_value.proofs.General.{read_anywhere}
use Rattle.px_core.specs.Plan.{Site}
use Rattle.px_flat.specs.declared.flat.Flat.{Flat}
use Rattle.px_flat.specs.Flat.{plan_of}
use Rattle.px_flat.specs.Layout.{variable_cells}
use Rattle.px_flat.specs.Numbered.{BodyNumbered, Nothing, Assign, Command, Update}
use Rattle.px_flat.specs.Within.{IsBodyWithin}
use Rattle.px_flat.proofs.Tables.{flat_sound}
use Rattle.px_flat.proofs.Withins.{node_is_within}
use Rattle.px_assign.specs.Conflicts.{variable_of, written}
use Rattle.px_tally.specs.Tally.{TallyData, nobody}
use Rattle.px_assign.specs.declared.order.Writer.{Writer}
use Rattle.px_assign.specs.Keeping.{AreRanks, AreTallies, IsRanked}
use Rattle.px_assign.specs.Ordering.{IsWriter, variables_of}

abbrev IsVariable : List Site → Option ℕ → Type 0
IsVariable plan written = IfSome written (λ variable. variable < variable_cells plan)

written_within : (plan : List Site) (body : BodyNumbered) → IsBodyWithin plan body → IsVariable plan (written body)
written_within plan Nothing within = tt
written_within plan (Assign target value) within = omega (arith, within.0.place.some, within.0.place.within)
written_within plan (Command args None) within = tt
written_within plan (Command args (Some target)) within = omega (arith, (within.1 target refl).place.some, (within.1 target refl).place.within)
written_within plan (Update values) within = tt

variable_within : (flat : Flat) (node : ℕ) → node < length (plan_of flat)
    → IsVariable (plan_of flat) (variable_of (plan_of flat) node)
variable_within flat node there =
    written_within (plan_of flat) _ (node_is_within (plan_of flat) node (flat_sound flat) there).body

pub length-variables : (plan : List Site) → length (variables_of plan) ≡ length plan
length-variables plan = length-map-range_with_len (variable_of plan) 0 (length plan)

pub variables_within : (flat : Flat) → All (IsVariable (plan_of flat)) (variables_of (plan_of flat))
variables_within flat node d inside =
    let plan : List Site = plan_of flat in
    let there : node < length plan = omega (arith, inside, length-variables plan) in
    subst (IsVariable plan) (sym (get_or-map-range_with_len (variable_of plan) 0 (length plan) node node d there (omega arith)))
    (variable_within flat node there)

-- a node's variable is one of the plan
pub written_there : (flat : Flat) (node variable : ℕ) → get_or (variables_of (plan_of flat)) node None ≡ Some variable
    → variable < variable_cells (plan_of flat)
written_there flat node variable is =
    subst (IsVariable (plan_of flat)) is
    (read_anywhere (IsVariable (plan_of flat)) (variables_of (plan_of flat)) node None (variables_within flat) tt)

-- ---- tallies of nodes

-- it counts a plan's nodes by the variable that they write
pub record IsTallyOf (plan : List Site) (tally : TallyData) : Type 0 where
  pub variables : tally.group_of ≡ variables_of plan
  pub sized : length tally.counting ≡ length plan

pub two_tallies : (flat : Flat) (wanting holding : TallyData)
    → wanting ≡ nobody (variable_cells (plan_of flat)) (variables_of (plan_of flat))
    → holding ≡ nobody (variable_cells (plan_of flat)) (variables_of (plan_of flat)) → AreTallies wanting holding
two_tallies flat wanting holding wants holds =
    subst (λ (wanting : TallyData). AreTallies wanting holding) (sym wants)
    (subst (λ (holding : TallyData). AreTallies (nobody (variable_cells (plan_of flat)) (variables_of (plan_of flat))) holding)
    (sym holds) (record {
      same = refl;
      groups = refl;
      wanting_sized = length-replicate (length (variables_of (plan_of flat))) false;
      holding_sized = length-replicate (length (variables_of (plan_of flat))) false;
      within = written_there flat;
    }))

-- ---- places of writers

-- the writers of a plan, and their places
pub ranked : (plan : List Site) (writers : List Writer) (ranks : List ℕ) → All (IsWriter plan) writers
    → length ranks ≡ length plan → AreRanks writers ranks → IsRanked (variables_of plan) writers ranks
ranked plan writers ranks each sized right = record {
  nodes = λ k d inside. omega (arith, (each k d inside).within, length-variables plan);
  groups = λ k d inside.
      get_or-map-range_with_len (variable_of plan) 0 (length plan) (get_or writers k d).node (get_or writers k d).node None
      (each k d inside).within (omega arith)
      ∙ (each k d inside).variable;
  sized = sized ∙ sym (length-variables plan);
  right = right;
}
