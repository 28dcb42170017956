use Rattle.std.proofs.Common.{◌≡◌}
use Rattle.px_script.specs.Order.{all_entries}
use Rattle.px_script.proofs.order.all_entries.Given as goal

-- the entries are those of the threads so far
abbrev pub invariant-loop-todo : goal.invariant-loop-todo
invariant-loop-todo l = l.entries.items ≡ all_entries l.yielded
