use Rattle.std.proofs.Common.{Some, ap, sym, ◌∙◌}
use Rattle.std.specs.Option.{option_copied, option_map}
use Rattle.px_lookup.specs.Reports.{ReportsData}
use Rattle.px_sem.specs.World.{Report, last_report}
use Rattle.px_lookup.proofs.reports.Reports.last.Goals as goal

pub returns-in-Some : goal.returns-in-Some
returns-in-Some c =
    ap (λ value. Some value) c.last.ensures
    ∙ ap (λ found. option_map (λ (report : Report). report.last) (option_copied found)) (sym c.in-Some.is)
    ∙ ap (option_map (λ (report : Report). report.last)) c.found.ensures
    ∙ ap (λ (held : ReportsData). last_report held.reports c.args.state.now) c.self.view_is

pub returns-in-None : goal.returns-in-None
returns-in-None c =
    ap (λ found. option_map (λ (report : Report). report.last) (option_copied found)) (sym c.in-None.is)
    ∙ ap (option_map (λ (report : Report). report.last)) c.found.ensures
    ∙ ap (λ (held : ReportsData). last_report held.reports c.args.state.now) c.self.view_is
