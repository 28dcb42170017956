-- An expression with a list in place of the vector of a lookup's arguments.
use Rattle.std.specs.Prelude.{ℕ, List, [], ◌∷◌, Option}
use Rattle.px_syntax.specs.declared.expr.Attribute.{Attribute as AttributeWord}
use Rattle.px_syntax.specs.declared.expr.Enumerated.{Enumerated as EnumeratedValue}
use Rattle.px_syntax.specs.declared.expr.Identifier.{Identifier}
use Rattle.px_syntax.specs.declared.expr.Literal.{Literal as LiteralValue}
use Rattle.px_syntax.specs.declared.expr.NodeReference.{NodeReference}
use Rattle.px_syntax.specs.declared.expr.Tolerance.{Tolerance}
use Rattle.px_syntax.specs.declared.expr.SurfaceExpr.{SurfaceExpr}
use Rattle.px_syntax.specs.declared.expr.SurfaceExpr.TheOpen.{SurfaceExpr-F}
use Rattle.px_syntax.specs.declared.expr.SurfaceExpr.TheFolds.{fold-SurfaceExpr}
use Rattle.px_syntax.specs.declared.operator.BinaryOperator.{BinaryOperator}
use Rattle.px_syntax.specs.declared.operator.UnaryOperator.{UnaryOperator}
use Rattle.px_syntax.specs.declared.word.BinaryFunction.{BinaryFunction}
use Rattle.px_syntax.specs.declared.word.LookWord.{LookWord}
use Rattle.px_syntax.specs.declared.word.UnaryFunction.{UnaryFunction}

-- an expression, and expressions in turn
mutual
  pub data Term : Type 0 where
    Literal : (value : LiteralValue) (token : ℕ) → Term
    Enumerated : (value : EnumeratedValue) (token : ℕ) → Term
    Variable : (name : Identifier) → Term
    Element : (array : Identifier) (index : Term) → Term
    Attribute : (node : NodeReference) (attribute : AttributeWord) → Term
    Look :
        (word : LookWord) (token : ℕ) (name : Identifier) (args : Terms)
        (tolerance : Option Tolerance) → Term
    UnaryCall : (function : UnaryFunction) (token : ℕ) (argument : Term) → Term
    BinaryCall : (function : BinaryFunction) (token : ℕ) (first second : Term) → Term
    Unary : (operator : UnaryOperator) (token : ℕ) (operand : Term) → Term
    Binary : (operator : BinaryOperator) (left right : Term) → Term

  pub data Terms : Type 0 where
    NoTerms : Terms
    More : (first : Term) (rest : Terms) → Terms

abbrev pub in_turn : List Term → Terms
in_turn [] = NoTerms
in_turn (term ∷ terms) = More term (in_turn terms)

-- one expression, with the expressions in it already terms
abbrev pub term_step : SurfaceExpr-F Term → Term
term_step (SurfaceExpr-F.Literal value token) = Literal value token
term_step (SurfaceExpr-F.Enumerated value token) = Enumerated value token
term_step (SurfaceExpr-F.Variable name) = Variable name
term_step (SurfaceExpr-F.Element array index) = Element array index.value
term_step (SurfaceExpr-F.Attribute node attribute) = Attribute node attribute
term_step (SurfaceExpr-F.Look word token name args tolerance) =
    Look word token name (in_turn args.items) tolerance
term_step (SurfaceExpr-F.UnaryCall function token argument) =
    UnaryCall function token argument.value
term_step (SurfaceExpr-F.BinaryCall function token first second) =
    BinaryCall function token first.value second.value
term_step (SurfaceExpr-F.Unary operator token operand) = Unary operator token operand.value
term_step (SurfaceExpr-F.Binary operator left right) = Binary operator left.value right.value

abbrev pub term_of : SurfaceExpr → Term
term_of = fold-SurfaceExpr Term term_step
