use Rattle.std.proofs.Common.{ap, ◌∙◌}
use Rattle.std.proofs.lemmas.Result.{on_ok_weaker}
use Rattle.px_parts.specs.Parts.{plan_in, world_in}
use Rattle.px_parts.proofs.Taken.{world_taken}
use Rattle.px_lookup.specs.Reports.{ReportsData, reports_after}
use Rattle.px_parts.proofs.parts.Parts.take.Goals as goal

pub returns-clause-world : goal.returns-clause-world
returns-clause-world c =
    on_ok_weaker c.take-2.result
    (λ taken. world_taken (plan_in c.args.self.now) c.args.event.now (world_in c.args.self.now) _
    (c.in_ok-take.ensures.ok.nodes c.args.self.now.reports.reports)
    (ap (λ (reports : ReportsData). reports.reports) taken
    ∙ ap (λ tolerances. reports_after tolerances c.args.event.now c.args.self.now.reports.reports) c.args.self.now.latching))
    c.take-2.ensures.ok
