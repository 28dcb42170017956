use Rattle.std.proofs.Common.{◌≡◌, ap, sym, ◌∙◌}
use Rattle.px_core.specs.Plan.{Head}
use Rattle.px_sem.specs.Table.{dest}
use Rattle.px_sem.specs.World.{NodeRecord}
use Rattle.px_flat.specs.Row.{site_in}
use Rattle.px_parts.specs.Parts.{plan_in, record_of}
use Rattle.px_tables.proofs.Readings.{dest_read}
use Rattle.px_micro.specs.Guarded.{guards_at}
use Rattle.px_parts.proofs.Found.{record_is}
use Rattle.px_micro.proofs.sight.destination.Goals as goal

pub returns-clause-destination : goal.returns-clause-destination
returns-clause-destination c =
    let parts = c.args.parts.now in
    let site = site_in (plan_in parts) c.args.node in
    let all = guards_at parts c.args.node in
    let kind : c.row.result.now.head.kind ≡ site.head.kind = ap (λ (head : Head). head.kind) c.row.ensures.head in
    c.dest.ensures ∙ (λ i. dest (kind i) (c.state_of.ensures i) (c.in_ok-guards.ensures.guards i))
    ∙ dest_read site.head.kind (record_of parts c.args.node).state all
    ∙ ap (λ (r : NodeRecord). dest site.head.kind r.state all) (sym (record_is parts c.args.node c.requires.node))
