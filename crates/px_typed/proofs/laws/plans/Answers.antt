use Rattle.px_typed.proofs.Compiled.{distinct, initials}
use Rattle.px_typed.proofs.laws.plans.Goals as goal

pub returns-clause-distinct : goal.returns-clause-distinct
returns-clause-distinct c = λ tree compiled. distinct c.args.bytes.now tree compiled

pub returns-clause-initials : goal.returns-clause-initials
returns-clause-initials c = λ tree compiled. initials c.args.bytes.now tree compiled
