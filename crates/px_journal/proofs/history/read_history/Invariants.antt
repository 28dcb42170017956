use Rattle.std.proofs.Common.{◌≤◌, ◌+◌, ◌-◌, length}
use Rattle.std.specs.Option.{ForSome}
use Rattle.px_journal.specs.Window.{Shows}
use Rattle.px_journal.proofs.Walking.{HasReadBoth}
use Rattle.px_journal.proofs.history.read_history.Given as goal

-- the records so far are read, and the window shows a part of the file
abbrev pub invariant-loop-window : goal.invariant-loop-window
invariant-loop-window g l =
    HasReadBoth g.D.Disk l.fn.disk l.disk l.fn.version l.fn.plan l.fn.size l.entries.items l.names.items l.gate
    × ForSome (g.D.Disk.content l.fn.disk) (Shows l.window)
    × (l.window.place + length l.window.bytes ≤ l.fn.size)

abbrev pub decreases-loop-window : goal.decreases-loop-window
decreases-loop-window g l = 100000 - length l.entries.items
