-- The levels of the table of operators.
use Rattle.std.proofs.Common.{◌≡◌, ◌<◌, refl, lit<}
use Rattle.px_syntax.specs.declared.operator.BinaryOperator.{BinaryOperator}
use Rattle.px_syntax.specs.declared.operator.BinaryOperator.TheVariants as binary
use Rattle.px_syntax.specs.declared.operator.Operator.TheVariants as operators
use Rattle.px_syntax.specs.declared.operator.UnaryOperator.{UnaryOperator}
use Rattle.px_syntax.specs.declared.operator.UnaryOperator.TheVariants as unary
use Rattle.px_syntax.specs.Operator.{level_of}

-- each operator between two operands has a row, and binds less tight than those before an operand
pub binary_level :
    (operator : BinaryOperator)
    → (0 < level_of (operators.Binary operator)) × (level_of (operators.Binary operator) < 8)
unfolding level_of
binary_level binary.Or = (lit< tt, lit< tt)
binary_level binary.Xor = (lit< tt, lit< tt)
binary_level binary.And = (lit< tt, lit< tt)
binary_level binary.Equal = (lit< tt, lit< tt)
binary_level binary.Differs = (lit< tt, lit< tt)
binary_level binary.Less = (lit< tt, lit< tt)
binary_level binary.AtMost = (lit< tt, lit< tt)
binary_level binary.Greater = (lit< tt, lit< tt)
binary_level binary.AtLeast = (lit< tt, lit< tt)
binary_level binary.Plus = (lit< tt, lit< tt)
binary_level binary.Minus = (lit< tt, lit< tt)
binary_level binary.Times = (lit< tt, lit< tt)
binary_level binary.Over = (lit< tt, lit< tt)
binary_level binary.Rest = (lit< tt, lit< tt)

pub unary_level : (operator : UnaryOperator) → level_of (operators.Unary operator) ≡ 8
unfolding level_of
unary_level unary.Not = refl
unary_level unary.Negative = refl
