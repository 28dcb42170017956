use Rattle.std.proofs.Common.{sym, ◌∙◌}
use Rattle.px_cached.specs.Still.{IsStill}
use Rattle.px_cached.proofs.Turning.{recalls_more}
use Rattle.px_cached.proofs.Marking.{goes_on}
use Rattle.px_cached.proofs.noticing.notice.Goals as goal

pub note-requires-clause-recalls : goal.note-requires-clause-recalls
note-requires-clause-recalls c =
    recalls_more c.args.asker.now c.args.stale.now c.touched.stale c.touched.invariant.still c.requires.recalls

pub touched-preserved : goal.touched-preserved
touched-preserved c =
    goes_on (IsStill c.args.asker.now)
    c.args.listeners.now c.args.touched.now c.args.stale.now c.touched.touched c.touched.stale c.touched.invariant
    c.in-Some.source c.pop_front.new.self c.note.new.stale c.in-Some.ensures.holders
    (sym c.pop_front.ensures.answer ∙ c.in-Some.is) c.pop_front.ensures.links c.pop_front.ensures.counts
    c.note.ensures.noted c.note.ensures.still c.note.ensures.owed c.note.ensures.counts
