use Rattle.std.proofs.Common.{Err, ⊎_elim, sym, ◌∙◌, ap, arith}
use Rattle.std.proofs.lemmas.Bool.{both_ways}
use Rattle.px_journal.specs.Layout.{is_nothing}
use Rattle.px_journal.proofs.Going.{ok_no_err}
use Rattle.px_journal.proofs.Histories.{entries_count}
use Rattle.px_journal.proofs.Undamaged.{undamaged}
use Rattle.px_journal.proofs.journal.Journal.recover.Goals as goal

pub returns-in-Ok-clause-named : goal.returns-in-Ok-clause-named
returns-in-Ok-clause-named g c =
    let known = c.in-Ok.ensures in
    let read = known.read in (
      read.named,
      record {
        synced = known.synced ok_no_err;
        stands = λ told is. read.stands told (sym (known.same ok_no_err) ∙ is);
        gate = read.gate;
        count = omega (arith, c.len.ensures, c.in-Ok.read.history.entries.ok.0, entries_count read.named _ read.entries_are);
        text_fits = known.short;
        fit = read.fit;
        few = read.few;
        attached = known.goes.stays.attached ∙ c.requires;
        room = known.room;
      },
      read.entries_are,
      read.names_are,
    )

pub returns-in-Ok-clause-read : goal.returns-in-Ok-clause-read
returns-in-Ok-clause-read g c =
    let named = returns-in-Ok-clause-named g c in record { named = named.0; ready = named.1; entries_are = named.2 }

pub returns-in-Err-clause-damaged : goal.returns-in-Err-clause-damaged
returns-in-Err-clause-damaged g c = λ at why told is. c.in-Err.ensures.damaged at (ap Err why) told is

pub returns-in-Err-clause-never_undamaged : goal.returns-in-Err-clause-never_undamaged
returns-in-Err-clause-never_undamaged g c = λ at why told is whole.
    let damaged = returns-in-Err-clause-damaged g c at why told is in
    ⊎_elim (λ nothing. both_ways (is_nothing told) (damaged.0) nothing)
    (λ stands. undamaged told (stands.0) (stands.1) (stands.2) at (damaged.1))
    (whole told (g.met.D.Disk.reads_are_left c.args.disk told is))
