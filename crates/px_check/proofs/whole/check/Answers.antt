use Rattle.std.proofs.Common.{List, Option, option_map, slice_get, refl, ap, sym, ◌∙◌}
use Rattle.px_syntax.specs.Fault.{Fault}
use Rattle.px_syntax.specs.Plan.{tree_of_surface}
use Rattle.px_syntax.specs.PlanFaults.{faults}
use Rattle.px_check.specs.Found.{fault_of}
use Rattle.px_check.specs.declared.found.Spot.{Spot}
use Rattle.px_check.proofs.Behind.{none_behind, all_behind_none}
use Rattle.px_check.proofs.whole.check.Goals as goal

pub returns-in-None-clause-ok : goal.returns-in-None-clause-ok
returns-in-None-clause-ok c =
    none_behind _ (sym c.in_ok-first_behind.ensures ∙ ap (λ (spot : Option Spot). option_map fault_of spot) c.in-None.is)

pub returns-in-Some-clause-fault : goal.returns-in-Some-clause-fault
returns-in-Some-clause-fault c =
    rw c.at.ensures (
      fault_of c.in-Some.spot,
      ap (λ (faults : List Fault). slice_get faults 0) (sym (all_behind_none (faults (tree_of_surface c.args.tree.now))))
          ∙ sym c.in_ok-first_behind.ensures ∙ ap (λ (spot : Option Spot). option_map fault_of spot) c.in-Some.is,
      refl,
      refl,
    )
