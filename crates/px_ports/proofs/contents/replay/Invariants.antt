use Rattle.std.proofs.Common.{◌≡◌, drop}
use Rattle.px_ports.specs.Replay.{picked_after, picked}
use Rattle.px_ports.proofs.contents.replay.Given as goal

-- the rest of the moments makes of the image so far the picked one
abbrev pub invariant-loop-moment : goal.invariant-loop-moment
invariant-loop-moment l =
    picked_after l.pick l.image.items l.read.items (drop l.moment-index l.moments) ≡ picked l.pick l.moments
