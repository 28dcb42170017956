-- What a block has at most once, as the code says it.
use Rattle.std.specs.Prelude.{ℕ}
use Rattle.px_syntax.specs.BlockFaults as faults
use Rattle.px_check.specs.declared.once.Once.{Once}
use Rattle.px_check.specs.declared.once.Once.TheVariants as once

abbrev pub once_data : Once → faults.Once
once_data (once.Condition condition) = faults.TheCondition condition
once_data once.Priority = faults.ThePriority

abbrev pub once_pair : (Once × ℕ) → (faults.Once × ℕ)
once_pair pair = (once_data pair.0, pair.1)
