use Rattle.std.proofs.Common.{◌≡◌, ◌&&◌, Some, is_some, nat_eq, ap, sym, ◌∙◌}
use Rattle.std.specs.List.{list_any}
use Rattle.std.specs.Option.{option_copied, option_and_then}
use Rattle.px_lookup.specs.Reports.{ReportsData}
use Rattle.px_sem.specs.World.{Report, latched_at, latched_report, report_at}
use Rattle.px_lookup.proofs.Latching.{copied_some, found_latches, latched_some}
use Rattle.px_lookup.proofs.Reporting.{lookup-report_at}
use Rattle.px_lookup.proofs.reports.Reports.latched.Goals as goal

pub returns-in-Some-clause-value : goal.returns-in-Some-clause-value
returns-in-Some-clause-value c =
    c.latched.ensures
    ∙ ap (λ found. option_and_then (λ (report : Report). latched_at report c.args.tolerance) (option_copied found)) (sym c.in-Some.is)
    ∙ ap (option_and_then (λ (report : Report). latched_at report c.args.tolerance)) c.found.ensures
    ∙ ap (λ (held : ReportsData). latched_report held.reports c.args.state.now c.args.tolerance) c.self.view_is

pub returns-in-None-clause-value : goal.returns-in-None-clause-value
returns-in-None-clause-value c =
    ap (λ found. option_and_then (λ (report : Report). latched_at report c.args.tolerance) (option_copied found)) (sym c.in-None.is)
    ∙ ap (option_and_then (λ (report : Report). latched_at report c.args.tolerance)) c.found.ensures
    ∙ ap (λ (held : ReportsData). latched_report held.reports c.args.state.now c.args.tolerance) c.self.view_is

pub returns-in-Some-clause-there : goal.returns-in-Some-clause-there
returns-in-Some-clause-there c =
    let tolerances = c.self.inside.tolerances.items in
    let entries = c.self.inside.values.entries in
    let state = c.args.state.now in
    let report = c.in-Some.report.now in
    let there : Some report ≡ report_at entries state = ap option_copied (sym c.in-Some.is) ∙ c.found.ensures in
    copied_some c.latched.result ∙ ap is_some c.latched.ensures
    ∙ latched_some tolerances report c.args.tolerance
    (found_latches tolerances state entries (Some report) c.self.invariant.latching (there ∙ sym (lookup-report_at state entries)))
    ∙ ap (λ found. is_some found && list_any (nat_eq c.args.tolerance) tolerances) there
    ∙ ap (λ (held : ReportsData). is_some (report_at held.reports state) && list_any (nat_eq c.args.tolerance) held.tolerances)
    c.self.view_is

pub returns-in-None-clause-there : goal.returns-in-None-clause-there
returns-in-None-clause-there c =
    let tolerances = c.self.inside.tolerances.items in
    let state = c.args.state.now in
    ap (λ found. is_some found && list_any (nat_eq c.args.tolerance) tolerances) (ap option_copied (sym c.in-None.is) ∙ c.found.ensures)
    ∙ ap (λ (held : ReportsData). is_some (report_at held.reports state) && list_any (nat_eq c.args.tolerance) held.tolerances)
    c.self.view_is
