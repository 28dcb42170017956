-- The term of each form of an expression.
use Rattle.std.proofs.Common.{◌≡◌, ap, sym, ◌∙◌, ℕ, Option}
use Rattle.px_value.specs.declared.name.Name.{Name}
use Rattle.px_core.specs.declared.expr.Expr.{Expr}
use Rattle.px_core.specs.declared.expr.BinaryOp.{BinaryOp}
use Rattle.px_core.specs.declared.expr.LookWord.{LookWord}
use Rattle.std.specs.declared.boxed.Box.{Box}
use Rattle.std.specs.declared.vec.Vec.{Vec}
use Rattle.std.proofs.Common.{Global, map}
use Rattle.px_core.specs.declared.expr.Expr.TheOpen.{Expr-F}
use Rattle.px_core.specs.declared.expr.Expr.TheFolds.{fold-roll-Expr}
use Rattle.px_core.specs.declared.expr.Expr.TheVariants as exprs
use Rattle.px_core.specs.Expr as terms
use Rattle.px_core.specs.Expr.{Term, term_of, term_step}

pub binary : (op : BinaryOp) (left right : Box Expr Global)
    → term_of (exprs.Binary op left right) ≡ terms.Binary op (term_of left.value) (term_of right.value)
binary op left right =
    ap term_of (sym (exprs.rolls-Binary op left right)) ∙ fold-roll-Expr Term term_step (Expr-F.Binary op left right)

pub look : (word : LookWord) (name : Name) (args : Vec Expr Global) (tolerance : Option ℕ)
    → term_of (exprs.Look word name args tolerance)
    ≡ terms.Look word name (terms.in_turn (map term_of args.items)) tolerance
look word name args tolerance =
    ap term_of (sym (exprs.rolls-Look word name args tolerance))
    ∙ fold-roll-Expr Term term_step (Expr-F.Look word name args tolerance)
