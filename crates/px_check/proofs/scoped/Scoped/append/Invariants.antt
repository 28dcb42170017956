use Rattle.std.proofs.Common.{◌≡◌, ◌++◌, reverse, take}
use Rattle.px_check.specs.Scoped.{meanings}
use Rattle.px_check.proofs.scoped.Scoped.append.Given as goal

abbrev pub invariant-loop-entry : goal.invariant-loop-entry
invariant-loop-entry g l = l.self ≡ meanings (reverse (take l.entry-index l.entry-items)) ++ l.initial.self
