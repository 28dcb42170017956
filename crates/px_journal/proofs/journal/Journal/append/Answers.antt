use Rattle.std.proofs.Common.{[], ◌∷◌, ◌++◌, sym, ◌∙◌, arith, length-append}
use Rattle.px_value.proofs.General.{option_map_some}
use Rattle.px_journal.specs.Journal.{with_name}
use Rattle.px_journal.specs.Layout.{next_gate}
use Rattle.px_journal.proofs.Fronts.{fits-push}
use Rattle.px_journal.proofs.Histories.{map-push, next_gate_small, next_place}
use Rattle.px_journal.proofs.Appending.{closed_within, first_leaves, mid_within, second_leaves, then_stands}
use Rattle.px_journal.proofs.Ready.{adds_keeps, adds_keeps_names, adds_whole}
use Rattle.px_journal.proofs.journal.Journal.append.Goals as goal

pub overflow_add-self : goal.overflow_add-self
overflow_add-self g c =
    let found = c.requires.ready.2 in
    let ready = found.ready in
    omega (arith, ready.gate, next_gate_small c.args.self.now.version (c.requires.ready.0) found.named ready.text_fits ready.fit ready.few)

pub put-requires-clause-within : goal.put-requires-clause-within
put-requires-clause-within g c = λ told is.
    let found = c.requires.ready.2 in
    let ready = found.ready in
    omega (arith, ready.gate, closed_within (next_gate c.args.self.now.version (c.requires.ready.0) found.named) told (ready.stands told is).closed)

-- ---- the write of the record fails

pub returns-in_err-put-clause-named_or_not : goal.returns-in_err-put-clause-named_or_not
returns-in_err-put-clause-named_or_not g c = λ text named ready told is.
    first_leaves c.args.self.now.version text named (with_name c.args.self.now c.args.entry.now) told (ready.stands told is) c.fill.ensures.fit
    (omega (arith, ready.count, c.requires.room))
    g.D.Disk.images _ _ _ _ is (ready.synced told is) _ (omega (arith, ready.gate)) _ (c.deref.ensures.value ∙ c.fill.ensures.bytes) _ c.put.ensures.puts

pub returns-in_err-put-clause-whole_or_not : goal.returns-in_err-put-clause-whole_or_not
returns-in_err-put-clause-whole_or_not g c =
    adds_whole g.D.Disk c.args.self.now c.args.entry.now _ (returns-in_err-put-clause-named_or_not g c)

pub returns-in_err-put-clause-keeps_names : goal.returns-in_err-put-clause-keeps_names
returns-in_err-put-clause-keeps_names g c =
    adds_keeps_names g.D.Disk c.args.self.now c.args.entry.now _ (returns-in_err-put-clause-named_or_not g c)
    (g.met.D.Disk.reads_are_left c.args.self.now.disk) (c.requires.ready.0) (c.requires.ready.1) (c.requires.ready.2)

pub returns-in_err-put-clause-keeps : goal.returns-in_err-put-clause-keeps
returns-in_err-put-clause-keeps g c =
    adds_keeps g.D.Disk c.args.self.now c.args.entry.now _ (returns-in_err-put-clause-named_or_not g c)
    (g.met.D.Disk.reads_are_left c.args.self.now.disk) (c.requires.ready.0) (c.requires.ready.1) (c.requires.ready.2)

-- ---- the write of its gate fails

pub put-requires-2-clause-within : goal.put-requires-2-clause-within
put-requires-2-clause-within g c = λ mid mid_is.
    let text = c.requires.ready.0 in
    let found = c.requires.ready.2 in
    let ready = found.ready in
    let first = c.in_ok-put.ensures.puts in
    let was = option_map_some _ _ mid (sym first.written ∙ mid_is) in
    let within = mid_within c.args.self.now.version text found.named (with_name c.args.self.now c.args.entry.now) (was.0) (ready.stands (was.0) (was.1)) c.fill.ensures.fit
    (omega (arith, ready.count, c.requires.room))
    g.D.Disk.images _ _ _ _ (was.1) (ready.synced (was.0) (was.1)) _ (omega (arith, ready.gate)) _ (c.deref.ensures.value ∙ c.fill.ensures.bytes) first in
    omega (arith, ready.gate, within mid mid_is)

pub returns-in_err-put-2-clause-named_or_not : goal.returns-in_err-put-2-clause-named_or_not
returns-in_err-put-2-clause-named_or_not g c = λ text named ready told is.
    second_leaves c.args.self.now.version text named (with_name c.args.self.now c.args.entry.now) told (ready.stands told is) c.fill.ensures.fit
    (omega (arith, ready.count, c.requires.room))
    g.D.Disk.images _ _ _ _ is (ready.synced told is) _ (omega (arith, ready.gate)) _ (c.deref.ensures.value ∙ c.fill.ensures.bytes) c.in_ok-put.ensures.puts
    _ _ _ ready.gate _ c.put-2.ensures.puts

pub returns-in_err-put-2-clause-whole_or_not : goal.returns-in_err-put-2-clause-whole_or_not
returns-in_err-put-2-clause-whole_or_not g c =
    adds_whole g.D.Disk c.args.self.now c.args.entry.now _ (returns-in_err-put-2-clause-named_or_not g c)

pub returns-in_err-put-2-clause-keeps_names : goal.returns-in_err-put-2-clause-keeps_names
returns-in_err-put-2-clause-keeps_names g c =
    adds_keeps_names g.D.Disk c.args.self.now c.args.entry.now _ (returns-in_err-put-2-clause-named_or_not g c)
    (g.met.D.Disk.reads_are_left c.args.self.now.disk) (c.requires.ready.0) (c.requires.ready.1) (c.requires.ready.2)

pub returns-in_err-put-2-clause-keeps : goal.returns-in_err-put-2-clause-keeps
returns-in_err-put-2-clause-keeps g c =
    adds_keeps g.D.Disk c.args.self.now c.args.entry.now _ (returns-in_err-put-2-clause-named_or_not g c)
    (g.met.D.Disk.reads_are_left c.args.self.now.disk) (c.requires.ready.0) (c.requires.ready.1) (c.requires.ready.2)

-- ---- both are written

pub returns-clause-named_or_not : goal.returns-clause-named_or_not
returns-clause-named_or_not g c = λ text named ready told is.
    second_leaves c.args.self.now.version text named (with_name c.args.self.now c.args.entry.now) told (ready.stands told is) c.fill.ensures.fit
    (omega (arith, ready.count, c.requires.room))
    g.D.Disk.images _ _ _ _ is (ready.synced told is) _ (omega (arith, ready.gate)) _ (c.deref.ensures.value ∙ c.fill.ensures.bytes) c.in_ok-put.ensures.puts
    _ _ _ ready.gate _ c.put-2.ensures.puts

pub returns-clause-whole_or_not : goal.returns-clause-whole_or_not
returns-clause-whole_or_not g c =
    adds_whole g.D.Disk c.args.self.now c.args.entry.now _ (returns-clause-named_or_not g c)

pub returns-clause-keeps_names : goal.returns-clause-keeps_names
returns-clause-keeps_names g c =
    adds_keeps_names g.D.Disk c.args.self.now c.args.entry.now _ (returns-clause-named_or_not g c)
    (g.met.D.Disk.reads_are_left c.args.self.now.disk) (c.requires.ready.0) (c.requires.ready.1) (c.requires.ready.2)

pub returns-clause-keeps : goal.returns-clause-keeps
returns-clause-keeps g c =
    adds_keeps g.D.Disk c.args.self.now c.args.entry.now _ (returns-clause-named_or_not g c)
    (g.met.D.Disk.reads_are_left c.args.self.now.disk) (c.requires.ready.0) (c.requires.ready.1) (c.requires.ready.2)

pub overflow_add-self-2 : goal.overflow_add-self-2
overflow_add-self-2 g c =
    let version = c.args.self.now.version in
    let text = c.requires.ready.0 in
    let named = (c.requires.ready.2).named in
    let ready = (c.requires.ready.2).ready in
    let next = with_name c.args.self.now c.args.entry.now in
    let place = next_place version text named next c.args.self.now.gate c.fill.new.buffer.items ready.gate c.fill.ensures.bytes in
    let small = next_gate_small version text (named ++ next ∷ []) ready.text_fits (fits-push version named next ready.fit c.fill.ensures.fit)
    (omega (arith, ready.count, c.requires.room, length-append named (next ∷ []))) in
    omega (arith, place, small, c.len.ensures, c.fill.new.buffer.ok.0)

pub returns-clause-named : goal.returns-clause-named
returns-clause-named g c = λ text named ready.
    let version = c.args.self.now.version in
    let next = with_name c.args.self.now c.args.entry.now in
    let first = c.in_ok-put.ensures.puts in
    let second = c.in_ok-put-2.ensures.puts in
    record {
      synced = second.synced;
      stands = λ now now_is.
          let mid = option_map_some _ _ now (sym second.written ∙ now_is) in
          let was = option_map_some _ _ (mid.0) (sym first.written ∙ mid.1) in
          then_stands version text named next (was.0) (ready.stands (was.0) (was.1)) c.fill.ensures.fit (omega (arith, ready.count, c.requires.room))
          g.D.Disk.images _ _ _ _ (was.1) (ready.synced (was.0) (was.1)) _ (omega (arith, ready.gate)) _ (c.deref.ensures.value ∙ c.fill.ensures.bytes) first
          _ _ _ ready.gate second now now_is;
      gate =
          let place = next_place version text named next c.args.self.now.gate c.fill.new.buffer.items ready.gate c.fill.ensures.bytes in
          omega (arith, place, c.len.ensures, c.fill.new.buffer.ok.0);
      count = omega (arith, ready.count, length-append named (next ∷ []));
      text_fits = ready.text_fits;
      fit = fits-push version named next ready.fit c.fill.ensures.fit;
      few = omega (arith, ready.count, c.requires.room, length-append named (next ∷ []));
      attached = c.put-2.ensures.goes.stays.attached ∙ c.put.ensures.goes.stays.attached ∙ ready.attached;
      room = omega (arith, ready.room, c.fill.ensures.capacity);
    }

pub returns-clause-kept : goal.returns-clause-kept
returns-clause-kept g c = λ text history found. record {
  named = found.named ++ with_name c.args.self.now c.args.entry.now ∷ [];
  ready = returns-clause-named g c text found.named found.ready;
  entries_are = map-push (λ n. n.entry) found.named (with_name c.args.self.now c.args.entry.now) history found.entries_are;
}
