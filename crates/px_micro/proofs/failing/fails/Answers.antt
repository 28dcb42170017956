use Rattle.std.proofs.Common.{◌+◌, ap, ◌∙◌}
use Rattle.std.specs.Option.{option_map}
use Rattle.px_sem.specs.Effects.{cell_of}
use Rattle.px_flat.specs.declared.numbered.NumberedBody.{NumberedBody}
use Rattle.px_flat.specs.NumberedData.{body_data}
use Rattle.px_micro.specs.Doing.{kept_cell}
use Rattle.px_micro.proofs.failing.fails.Goals as goal

pub writes_back-requires : goal.writes_back-requires
writes_back-requires c = λ place is.
    let first = c.in-Assign-Assign.numbered.first in
    c.requires (first + cell_of place)
    (ap (λ (body : NumberedBody). kept_cell c.args.act.now (body_data body)) c.in-Assign-Assign.is-1
    ∙ ap (option_map (λ place. first + cell_of place)) is)
