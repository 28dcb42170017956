use Rattle.std.proofs.Common.{◌≡◌, take}
use Rattle.px_journal.specs.Layout.{magic}
use Rattle.px_journal.proofs.heading.first_difference.Given as goal

-- the bytes so far are those of the magic
abbrev pub invariant-loop-i : goal.invariant-loop-i
invariant-loop-i l = take l.i l.bytes ≡ take l.i magic
