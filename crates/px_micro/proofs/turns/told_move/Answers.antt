use Rattle.std.proofs.Common.{ap, sym, ◌∙◌}
use Rattle.px_sem.specs.World.{NodeRecord}
use Rattle.px_parts.proofs.Found.{record_is}
use Rattle.px_micro.proofs.turns.told_move.Goals as goal

pub returns : goal.returns
returns c =
    let parts = c.args.parts.now in
    let going = c.args.going in
    λ i. record {
      node = (c.in_ok-copy.ensures ∙ c.row.ensures.path) i;
      from = (c.state_of.ensures ∙ ap (λ (r : NodeRecord). r.state) (sym (record_is parts going.node c.requires.node))) i;
      to = going.arrival.to;
      outcome = going.arrival.outcome;
      failure = going.arrival.failure;
      effect = c.requires.told i;
    }
