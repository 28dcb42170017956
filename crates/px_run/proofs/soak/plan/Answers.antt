use Rattle.std.proofs.Common.{ℕ, List, subst}
use Rattle.px_compile.specs.Compiled.{IsCompiled}
use Rattle.px_core.specs.Plan.{tree_of}
use Rattle.px_run.proofs.soak.plan.Goals as goal

pub returns-in-Ok-clause-compiled : goal.returns-in-Ok-clause-compiled
returns-in-Ok-clause-compiled c = subst (λ (bytes : List ℕ). IsCompiled bytes (tree_of c.in-Ok.plan)) c.as_bytes.ensures.value c.in-Ok.ensures.ok
