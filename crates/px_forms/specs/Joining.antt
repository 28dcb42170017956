-- Terms joined in halves by `&&` and by `||`; px_core's relation `Joins` says what is joined to what, and its law
-- `joining` that there is one such term.
use Rattle.std.specs.Prelude.{true, false, List}
use Rattle.px_core.specs.declared.expr.BinaryOp.TheVariants.{And, Or}
use Rattle.px_core.specs.Expr.{Term}
use Rattle.px_core.specs.Joined.{joined}

-- each of these holds; of no term `true`
abbrev pub all : List Term → Term
all = joined And true

-- one of these holds; of no term `false`
abbrev pub some : List Term → Term
some = joined Or false
