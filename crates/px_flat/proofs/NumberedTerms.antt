-- The data of each form of a numbered expression.
use Rattle.std.proofs.Common.{◌≡◌, ap, sym, ◌∙◌, ℕ, Option, Global, map}
use Rattle.std.specs.declared.boxed.Box.{Box}
use Rattle.std.specs.declared.vec.Vec.{Vec}
use Rattle.px_value.specs.declared.value.Value.{Value}
use Rattle.px_core.specs.declared.expr.BinaryOp.{BinaryOp}
use Rattle.px_core.specs.declared.expr.UnaryOp.{UnaryOp}
use Rattle.px_flat.specs.declared.numbered.NumberedExpr.{NumberedExpr}
use Rattle.px_flat.specs.declared.numbered.NumberedExpr.TheOpen.{NumberedExpr-F}
use Rattle.px_flat.specs.declared.numbered.NumberedExpr.TheFolds.{fold-roll-NumberedExpr}
use Rattle.px_flat.specs.declared.numbered.NumberedExpr.TheVariants as exprs
use Rattle.px_flat.specs.Numbered as numbers
use Rattle.px_flat.specs.Numbered.{Numbered}
use Rattle.px_flat.specs.NumberedData.{in_turn, expr_data, expr_step}

pub literal : (value : Value) → expr_data (exprs.Literal value) ≡ numbers.Literal value
literal value =
    ap expr_data (sym (exprs.rolls-Literal value)) ∙ fold-roll-NumberedExpr Numbered expr_step (NumberedExpr-F.Literal value)

pub variable : (cell : ℕ) → expr_data (exprs.Variable cell) ≡ numbers.Variable cell
variable cell =
    ap expr_data (sym (exprs.rolls-Variable cell)) ∙ fold-roll-NumberedExpr Numbered expr_step (NumberedExpr-F.Variable cell)

pub element : (first size : ℕ) (index : Box NumberedExpr Global)
    → expr_data (exprs.Element first size index)
    ≡ numbers.Element first size (expr_data index.value)
element first size index =
    ap expr_data (sym (exprs.rolls-Element first size index)) ∙ fold-roll-NumberedExpr Numbered expr_step (NumberedExpr-F.Element first size index)

pub state_of : (node : ℕ) → expr_data (exprs.StateOf node) ≡ numbers.StateOf node
state_of node =
    ap expr_data (sym (exprs.rolls-StateOf node)) ∙ fold-roll-NumberedExpr Numbered expr_step (NumberedExpr-F.StateOf node)

pub outcome_of : (node : ℕ) → expr_data (exprs.OutcomeOf node) ≡ numbers.OutcomeOf node
outcome_of node =
    ap expr_data (sym (exprs.rolls-OutcomeOf node)) ∙ fold-roll-NumberedExpr Numbered expr_step (NumberedExpr-F.OutcomeOf node)

pub failure_of : (node : ℕ) → expr_data (exprs.FailureOf node) ≡ numbers.FailureOf node
failure_of node =
    ap expr_data (sym (exprs.rolls-FailureOf node)) ∙ fold-roll-NumberedExpr Numbered expr_step (NumberedExpr-F.FailureOf node)

pub handle_of : (node : ℕ) → expr_data (exprs.HandleOf node) ≡ numbers.HandleOf node
handle_of node =
    ap expr_data (sym (exprs.rolls-HandleOf node)) ∙ fold-roll-NumberedExpr Numbered expr_step (NumberedExpr-F.HandleOf node)

pub acknowledged : (node : ℕ) → expr_data (exprs.Acknowledged node) ≡ numbers.Acknowledged node
acknowledged node =
    ap expr_data (sym (exprs.rolls-Acknowledged node)) ∙ fold-roll-NumberedExpr Numbered expr_step (NumberedExpr-F.Acknowledged node)

pub look : (lookup : ℕ) (args : Vec NumberedExpr Global) (tolerance : Option ℕ)
    → expr_data (exprs.Look lookup args tolerance)
    ≡ numbers.Look lookup (in_turn (map expr_data args.items)) tolerance
look lookup args tolerance =
    ap expr_data (sym (exprs.rolls-Look lookup args tolerance)) ∙ fold-roll-NumberedExpr Numbered expr_step (NumberedExpr-F.Look lookup args tolerance)

pub unary : (op : UnaryOp) (arg : Box NumberedExpr Global)
    → expr_data (exprs.Unary op arg)
    ≡ numbers.Unary op (expr_data arg.value)
unary op arg =
    ap expr_data (sym (exprs.rolls-Unary op arg)) ∙ fold-roll-NumberedExpr Numbered expr_step (NumberedExpr-F.Unary op arg)

pub binary : (op : BinaryOp) (left right : Box NumberedExpr Global)
    → expr_data (exprs.Binary op left right)
    ≡ numbers.Binary op (expr_data left.value) (expr_data right.value)
binary op left right =
    ap expr_data (sym (exprs.rolls-Binary op left right)) ∙ fold-roll-NumberedExpr Numbered expr_step (NumberedExpr-F.Binary op left right)
