use Rattle.std.proofs.Common.{◌≡◌, ◌<◌, List, length, position, ap, sym, ◌∙◌, arith}
use Rattle.std.specs.Map.{lookup}
use Rattle.std.specs.Option.{unwrap_or}
use Rattle.px_core.specs.declared.variable.VarKind.TheVariants as kinds
use Rattle.px_core.specs.Plan.{Site, is_same}
use Rattle.px_flat.specs.declared.slots.Slot.{Slot}
use Rattle.px_flat.specs.Names.{plan_in}
use Rattle.px_flat.specs.Row.{number_at}
use Rattle.px_flat.specs.Slots.{place_data}
use Rattle.px_flat.proofs.Known.{length-paths}
use Rattle.px_flat.proofs.Slotted.{slot_in, read_in_plan}
use Rattle.px_flat.proofs.names.Names.slot.Goals as goal
use Rattle.px_flat.proofs.names.Names.slot.Goals.{in-Some, in-None}

abbrev none : Slot
none = record { first = 0; size = 0; kind = kinds.Boolean }

pub returns : goal.returns
returns c =
    let names = c.args.self.now in
    let plan : List Site = plan_in names in
    let name = c.args.name.now in
    let number : c.get_index_of.result ≡ number_at plan c.args.owner.now =
    c.get_index_of.ensures.index ∙ ap (position (is_same c.args.owner.now)) names.found in
    let found : c.unwrap_or.result ≡ slot_in plan name none (number_at plan c.args.owner.now) = elim c.match-get_index_of.branch [
      | in-Some w ↦
          let within : w.in-Some.node < length plan =
          omega (arith, w.in-Some.ensures.within, length-paths names) in
          c.unwrap_or.ensures ∙ ap (λ found. unwrap_or found none) (w.found-is ∙ w.get-found.ensures
          ∙ ap (lookup (is_same name)) (w.index.ensures ∙ names.declared.each w.in-Some.node w.index.result.now within))
          ∙ ap (slot_in plan name none) (sym w.in-Some.is ∙ number)
      | in-None w ↦ c.unwrap_or.ensures ∙ ap (λ found. unwrap_or found none) w.found-is
          ∙ ap (slot_in plan name none) (sym w.in-None.is ∙ number)
    ] in
    let read = read_in_plan plan name none (number_at plan c.args.owner.now) in
    record { place = ap place_data found ∙ read.0; kind = ap (λ (slot : Slot). slot.kind) found ∙ read.1 }
