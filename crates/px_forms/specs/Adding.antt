-- What is added to the conditions of a node.
use Rattle.std.specs.Prelude.{Option, Some, None}
use Rattle.px_core.specs.declared.expr.BinaryOp.{BinaryOp}
use Rattle.px_core.specs.declared.expr.BinaryOp.TheVariants.{And, Or}
use Rattle.px_core.specs.Expr.{Term, Binary}
use Rattle.px_forms.specs.Conditions.{Given}

-- THE RULE: the given condition, the operator, and then what is added, or what is added alone where none is given.
abbrev pub adds : BinaryOp → Option Term → Term → Term
adds op None added = added
adds op (Some given) added = Binary op given added

-- what the form round a node adds to it: to its Start by `&&`, and to its Skip by `||`
pub record Added : Type 0 where
  pub start : Option Term
  pub skip : Option Term

abbrev pub nothing : Added
nothing = record { start = None; skip = None }

abbrev pub may_add : BinaryOp → Option Term → Option Term → Option Term
may_add op given None = given
may_add op given (Some added) = Some (adds op given added)

abbrev pub with_added : Added → Given → Given
with_added added given = record given {
  start = may_add And given.start added.start;
  skip = may_add Or given.skip added.skip;
}
