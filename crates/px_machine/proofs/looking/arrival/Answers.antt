use Rattle.std.proofs.Common.{rules, ◌≡◌, length, ap, ◌∙◌, arith}
use Rattle.px_core.specs.Plan.{Head}
use Rattle.px_sem.specs.Table.{dest}
use Rattle.px_flat.specs.Row.{site_in}
use Rattle.px_parts.specs.Parts.{plan_in, record_of}
use Rattle.px_micro.specs.Guarded.{guards_in}
use Rattle.px_machine.specs.Kept.{arrival_of, truths_of}
use Rattle.px_machine.proofs.Arrivals.{dest_by_read}
use Rattle.px_machine.proofs.Places.{long}
use Rattle.px_machine.proofs.looking.arrival.Goals as goal

pub told-requires : goal.told-requires
told-requires c = omega (arith, c.requires.node, ap length c.requires.plan.tree, long (plan_in c.args.parts.now))

pub returns : goal.returns
returns c =
    let parts = c.args.parts.now in
    let state = c.state_of-state.result in
    let own = record_of parts c.args.node in
    let kind = (site_in (plan_in parts) c.args.node).head.kind in
    let is_kind : c.row.result.now.head.kind ≡ kind = ap (λ (head : Head). head.kind) c.row.ensures.head in
    let truths = truths_of c.args.kept.now c.args.node in
    let by_all : dest kind state (guards_in kind own c.parent_state.result c.told.result c.is_nobody.result truths)
    ≡ arrival_of parts c.args.kept.now c.args.node = search rules in
    c.dest.ensures
    ∙ (λ i. dest (is_kind i) state (c.guards_by-guards.ensures i))
    ∙ ap (λ truths. dest kind state (guards_in kind own c.parent_state.result c.told.result c.is_nobody.result truths)) c.truths.ensures
    ∙ dest_by_read state kind own c.parent_state.result c.told.result c.is_nobody.result truths
    ∙ by_all
