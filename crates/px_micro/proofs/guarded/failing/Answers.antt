use Rattle.std.proofs.Common.{ap, ◌∙◌}
use Rattle.px_value.specs.declared.enums.NodeState.TheVariants as states
use Rattle.px_tables.specs.Reading.{unread, read_by}
use Rattle.px_flat.specs.Row.{site_in}
use Rattle.px_parts.specs.Parts.{plan_in, record_of}
use Rattle.px_sem.specs.Guards.{ready_in}
use Rattle.px_micro.proofs.Guarding.{guards_are}
use Rattle.px_micro.proofs.guarded.failing.Goals as goal

pub returns : goal.returns
returns c =
    let parts = c.args.parts.now in
    let plan = plan_in parts in
    (λ i. record unread {
      ready = (c.is_ready.ensures ∙ ap (ready_in (site_in plan c.args.node).head.kind (record_of parts c.args.node).action) c.children_rest.ensures) i;
      outcome = c.outcome_of.ensures i;
      failure = c.failure_of.ensures i;
    })
    ∙ ap (read_by states.Failing) (guards_are parts c.args.node c.requires.node)
