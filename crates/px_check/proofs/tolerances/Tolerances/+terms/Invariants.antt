use Rattle.std.proofs.Common.{◌≡◌, map, drop}
use Rattle.px_syntax.specs.Expr.{in_turn, term_of}
use Rattle.px_syntax.specs.Tolerances.{terms_tolerances}
use Rattle.px_check.specs.Tolerances.{met_all}
use Rattle.px_check.proofs.tolerances.Tolerances.+terms.Given as goal

abbrev pub invariant-terms-loop-term : goal.invariant-terms-loop-term
invariant-terms-loop-term l =
    met_all l.self (terms_tolerances (in_turn (map term_of (drop l.term-index l.terms))))
    ≡ met_all l.initial.self (terms_tolerances (in_turn (map term_of l.terms)))
