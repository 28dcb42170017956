use Rattle.std.proofs.Common.{◌≡◌, ◌++◌, replicate}
use Rattle.px_cached.proofs.firsts.push_cells.Given as goal

abbrev pub invariant-loop : goal.invariant-loop
invariant-loop l = l.firsts.items ≡ l.initial.firsts.items ++ replicate l.counter l.first
