-- The cell to which a command's result goes.
use Rattle.std.proofs.Common.{◌≡◌, ℕ, ◌+◌, refl, ap, ◌∙◌, Option, Some}
use Rattle.std.specs.Option.{option_map}
use Rattle.px_flat.specs.declared.act.Abort.{Abort}
use Rattle.px_flat.specs.declared.act.Act.{Act}
use Rattle.px_flat.specs.declared.act.Act.TheVariants as acts
use Rattle.px_flat.specs.Numbered.{Numbered, TargetNumbered, BodyNumbered, Command}
use Rattle.px_command.specs.Results.{cell_in, result_slot}
use Rattle.std.specs.Prelude.{List}

-- of an array, the element at the index
pub element_cell : (target : TargetNumbered) (term : Numbered) (taken : Option ℕ) (index : ℕ) → target.index ≡ Some term
    → taken ≡ Some index → cell_in target taken ≡ Some (target.place.first + index)
element_cell target term taken index is taken_is = rw (is, taken_is) refl

pub slot_is : (body : BodyNumbered) (act : Act) (args : List Numbered) (target : TargetNumbered) (index : Option ℕ)
    (abort : Abort) (cell : ℕ) → body ≡ Command args (Some target) → act ≡ acts.Sent index abort
    → cell_in target index ≡ Some cell → result_slot body act ≡ Some (cell, target.kind)
slot_is body act args target index abort cell body_is act_is cell_is =
    (λ i. result_slot (body_is i) (act_is i)) ∙ ap (option_map (λ cell. (cell, target.kind))) cell_is
