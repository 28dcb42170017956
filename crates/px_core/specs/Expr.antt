-- An expression with a list in place of the vector of a lookup's arguments.
use Rattle.std.specs.Prelude.{ℕ, List, [], ◌∷◌, Option}
use Rattle.std.specs.Global.{Box}
use Rattle.px_value.specs.declared.value.Value.{Value}
use Rattle.px_core.specs.declared.expr.LookWord.{LookWord}
use Rattle.px_core.specs.declared.expr.UnaryOp.{UnaryOp}
use Rattle.px_core.specs.declared.expr.BinaryOp.{BinaryOp}
use Rattle.px_core.specs.declared.expr.Expr.{Expr}
use Rattle.px_core.specs.declared.expr.Expr.TheOpen.{Expr-F}
use Rattle.px_core.specs.declared.expr.Expr.TheFolds.{fold-Expr}

-- an expression, and the arguments of a lookup
mutual
  pub data Term : Type 0 where
    Literal : (value : Value) → Term
    Var : (owner name : List ℕ) → Term
    Cell : (owner name : List ℕ) (index : Term) → Term
    StateOf : (path : List ℕ) → Term
    OutcomeOf : (path : List ℕ) → Term
    FailureOf : (path : List ℕ) → Term
    HandleOf : (path : List ℕ) → Term
    Acknowledged : (path : List ℕ) → Term
    Look : (word : LookWord) (name : List ℕ) (args : Terms) (tolerance : Option ℕ) → Term
    Unary : (op : UnaryOp) (arg : Term) → Term
    Binary : (op : BinaryOp) (left right : Term) → Term

  pub data Terms : Type 0 where
    NoTerms : Terms
    More : (first : Term) (rest : Terms) → Terms

abbrev pub in_turn : List Term → Terms
in_turn [] = NoTerms
in_turn (term ∷ terms) = More term (in_turn terms)

-- one expression, with the expressions in it already terms
abbrev pub term_step : Expr-F Term → Term
term_step (Expr-F.Literal value) = Literal value
term_step (Expr-F.Var owner name) = Var owner name
term_step (Expr-F.Cell owner name index) = Cell owner name index.value
term_step (Expr-F.StateOf path) = StateOf path
term_step (Expr-F.OutcomeOf path) = OutcomeOf path
term_step (Expr-F.FailureOf path) = FailureOf path
term_step (Expr-F.HandleOf path) = HandleOf path
term_step (Expr-F.Acknowledged path) = Acknowledged path
term_step (Expr-F.Look word name args tolerance) = Look word name (in_turn args.items) tolerance
term_step (Expr-F.Unary op arg) = Unary op arg.value
term_step (Expr-F.Binary op left right) = Binary op left.value right.value

abbrev pub term_of : Expr → Term
term_of = fold-Expr Term term_step

-- what is in a box
abbrev pub term_in : Box Expr → Term
term_in boxed = term_of boxed.value
