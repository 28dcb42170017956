-- The term of each form of an expression.
use Rattle.std.proofs.Common.{◌≡◌, ℕ, Option, Global, map, ap, sym, ◌∙◌}
use Rattle.std.specs.declared.boxed.Box.{Box}
use Rattle.std.specs.declared.vec.Vec.{Vec}
use Rattle.px_syntax.specs.declared.expr.Enumerated.{Enumerated as EnumeratedValue}
use Rattle.px_syntax.specs.declared.expr.Identifier.{Identifier}
use Rattle.px_syntax.specs.declared.expr.Literal.{Literal as LiteralValue}
use Rattle.px_syntax.specs.declared.expr.SurfaceExpr.{SurfaceExpr}
use Rattle.px_syntax.specs.declared.expr.SurfaceExpr.TheFolds.{fold-roll-SurfaceExpr}
use Rattle.px_syntax.specs.declared.expr.SurfaceExpr.TheOpen.{SurfaceExpr-F}
use Rattle.px_syntax.specs.declared.expr.SurfaceExpr.TheVariants as exprs
use Rattle.px_syntax.specs.declared.expr.Tolerance.{Tolerance}
use Rattle.px_syntax.specs.declared.operator.BinaryOperator.{BinaryOperator}
use Rattle.px_syntax.specs.declared.operator.UnaryOperator.{UnaryOperator}
use Rattle.px_syntax.specs.declared.word.BinaryFunction.{BinaryFunction}
use Rattle.px_syntax.specs.declared.word.LookWord.{LookWord}
use Rattle.px_syntax.specs.declared.word.UnaryFunction.{UnaryFunction}
use Rattle.px_syntax.specs.Expr as terms
use Rattle.px_syntax.specs.Expr.{Term, term_of, term_step}

pub literal : (value : LiteralValue) (token : ℕ)
    → term_of (exprs.Literal value token) ≡ terms.Literal value token
literal value token =
    ap term_of (sym (exprs.rolls-Literal value token))
    ∙ fold-roll-SurfaceExpr Term term_step (SurfaceExpr-F.Literal value token)

pub enumerated : (value : EnumeratedValue) (token : ℕ)
    → term_of (exprs.Enumerated value token) ≡ terms.Enumerated value token
enumerated value token =
    ap term_of (sym (exprs.rolls-Enumerated value token))
    ∙ fold-roll-SurfaceExpr Term term_step (SurfaceExpr-F.Enumerated value token)

pub element : (array : Identifier) (index : Box SurfaceExpr Global)
    → term_of (exprs.Element array index) ≡ terms.Element array (term_of index.value)
element array index =
    ap term_of (sym (exprs.rolls-Element array index))
    ∙ fold-roll-SurfaceExpr Term term_step (SurfaceExpr-F.Element array index)

pub look : (word : LookWord) (token : ℕ) (name : Identifier) (args : Vec SurfaceExpr Global) (tolerance : Option Tolerance)
    → term_of (exprs.Look word token name args tolerance) ≡ terms.Look word token name (terms.in_turn (map term_of args.items)) tolerance
look word token name args tolerance =
    ap term_of (sym (exprs.rolls-Look word token name args tolerance))
    ∙ fold-roll-SurfaceExpr Term term_step (SurfaceExpr-F.Look word token name args tolerance)

pub unary_call : (function : UnaryFunction) (token : ℕ) (argument : Box SurfaceExpr Global)
    → term_of (exprs.UnaryCall function token argument) ≡ terms.UnaryCall function token (term_of argument.value)
unary_call function token argument =
    ap term_of (sym (exprs.rolls-UnaryCall function token argument))
    ∙ fold-roll-SurfaceExpr Term term_step (SurfaceExpr-F.UnaryCall function token argument)

pub binary_call : (function : BinaryFunction) (token : ℕ) (first second : Box SurfaceExpr Global)
    → term_of (exprs.BinaryCall function token first second) ≡ terms.BinaryCall function token (term_of first.value) (term_of second.value)
binary_call function token first second =
    ap term_of (sym (exprs.rolls-BinaryCall function token first second))
    ∙ fold-roll-SurfaceExpr Term term_step (SurfaceExpr-F.BinaryCall function token first second)

pub unary : (operator : UnaryOperator) (token : ℕ) (operand : Box SurfaceExpr Global)
    → term_of (exprs.Unary operator token operand) ≡ terms.Unary operator token (term_of operand.value)
unary operator token operand =
    ap term_of (sym (exprs.rolls-Unary operator token operand))
    ∙ fold-roll-SurfaceExpr Term term_step (SurfaceExpr-F.Unary operator token operand)

pub binary : (operator : BinaryOperator) (left right : Box SurfaceExpr Global)
    → term_of (exprs.Binary operator left right) ≡ terms.Binary operator (term_of left.value) (term_of right.value)
binary operator left right =
    ap term_of (sym (exprs.rolls-Binary operator left right))
    ∙ fold-roll-SurfaceExpr Term term_step (SurfaceExpr-F.Binary operator left right)
