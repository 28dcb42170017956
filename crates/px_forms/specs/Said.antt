-- What is said of a child, by its path.
use Rattle.std.specs.Prelude.{ℕ, List}
use Rattle.px_core.specs.Expr.{Term}
use Rattle.px_forms.specs.declared.join.Said.{Said}
use Rattle.px_forms.specs.declared.join.Said.TheVariants as which
use Rattle.px_forms.specs.Forms.{done, ended}

abbrev pub said : Said → List ℕ → Term
said which.Done = done
said (which.Ended outcome) = ended outcome
