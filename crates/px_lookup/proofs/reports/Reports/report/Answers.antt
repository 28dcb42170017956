use Rattle.std.proofs.Common.{rules, ap, subst, ◌∙◌}
use Rattle.px_sem.specs.Events.{reported}
use Rattle.px_sem.specs.World.{LookState}
use Rattle.px_lookup.specs.Reports.{ReportsData}
use Rattle.px_lookup.specs.Undoing.{HadLatchedEach, IsChange}
use Rattle.px_lookup.proofs.Latching.{noted_all}
use Rattle.px_lookup.proofs.Reporting.{kept_mark}
use Rattle.px_lookup.proofs.reports.Reports.report.Goals as goal

pub returns-clause-ok : goal.returns-clause-ok
returns-clause-ok c =
    let state : LookState = record { name = c.args.name.now; args = c.args.args.now } in
    c.in_ok-change.ensures.ok
    ∙ ap (λ tolerances. reported tolerances state c.args.value.now c.self.inside.values.entries) c.deref.ensures.value
    ∙ ap (λ (held : ReportsData). reported held.tolerances state c.args.value.now held.reports) c.self.view_is

pub returns-clause-marked : goal.returns-clause-marked
returns-clause-marked c =
    kept_mark c.self.inside.is_marked c.self.inside.changes.items c.note.new.changes.items c.in_ok-change.change
    c.self.inside.values.entries c.put.new.values.entries (search rules) c.in_ok-change.ensures.change.back
    ∙ ap (λ (held : ReportsData). held.marked) c.self.view_is

pub invariant_of-self-2 : goal.invariant_of-self-2
invariant_of-self-2 c =
    let tolerances = c.self.inside.tolerances.items in
    let change : IsChange tolerances c.self.inside.values.entries c.put.new.values.entries c.in_ok-change.change =
    subst (λ tolerances. IsChange tolerances c.self.inside.values.entries c.put.new.values.entries c.in_ok-change.change)
    c.deref.ensures.value c.in_ok-change.ensures.change in
    record {
      nothing = search rules;
      latching = change.latching c.self.invariant.latching;
      before = noted_all (HadLatchedEach tolerances) c.self.inside.is_marked c.self.inside.changes.items c.note.new.changes.items
          c.in_ok-change.change (search rules) c.self.invariant.before (change.had c.self.invariant.latching);
    }
