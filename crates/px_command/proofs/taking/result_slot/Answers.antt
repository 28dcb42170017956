use Rattle.std.proofs.Common.{ap, map, ◌∙◌}
use Rattle.std.specs.Option.{option_map}
use Rattle.px_flat.specs.Numbered.{Command}
use Rattle.px_flat.specs.NumberedData.{target_data, expr_data, body_data}
use Rattle.px_command.proofs.Slots.{slot_is}
use Rattle.px_command.proofs.taking.result_slot.Goals as goal

pub cell_in-requires : goal.cell_in-requires
cell_in-requires c = λ cell is.
    c.requires (cell, c.in-Some.target.kind)
    (slot_is (body_data c.args.body.now) c.args.act.now (map expr_data c.in-Command.args.items) (target_data c.in-Some.target) c.in-Sent.index c.in-Sent.abort cell
    (ap body_data c.in-Command.is ∙ ap (λ result. Command (map expr_data c.in-Command.args.items) (option_map target_data result)) c.in-Some.is)
    c.in-Sent.is is)
