use Rattle.std.proofs.Common.{◌≡◌, ◌-◌}
use Rattle.px_event.specs.Reading.{arguments_at}
use Rattle.px_event.proofs.Arguments.{with_front}
use Rattle.px_event.proofs.bytes.values.arguments_of.Given as goal

-- the arguments so far, and those that are still read, are all of them
abbrev pub invariant-loop : goal.invariant-loop
invariant-loop l = with_front l.values.items (arguments_at (l.count - l.counter) l.reader) ≡ arguments_at l.count l.fn.reader
