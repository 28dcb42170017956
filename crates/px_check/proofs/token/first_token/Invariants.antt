use Rattle.std.proofs.Common.{◌≡◌}
use Rattle.px_syntax.specs.Expr.{term_of}
use Rattle.px_syntax.specs.ExprFaults.{first_token}
use Rattle.px_check.proofs.token.first_token.Given as goal

abbrev pub invariant-loop-first : goal.invariant-loop-first
invariant-loop-first l = first_token (term_of l.first) ≡ first_token (term_of l.term)
