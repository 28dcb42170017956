use Rattle.std.proofs.Common.{length}
use Rattle.px_cached.proofs.Listening.{AreAdded}
use Rattle.px_cached.proofs.reading.listeners.Given as goal

abbrev pub invariant-loop-reader : goal.invariant-loop-reader
invariant-loop-reader l = AreAdded l.sources (length l.network) l.reader-items l.listeners l.reader-index
