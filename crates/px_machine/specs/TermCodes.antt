-- Terms are told apart by their labels in postorder, from which they are built again: so an equation of plans has one proof at
-- most.
use Rattle.std.specs.Prelude.{ℕ, List, [], ◌∷◌, drop, Option}
use Rattle.std.specs.Coded.{Coded, codes, code_by}
use Rattle.std.proofs.Common.{◌≡◌, refl, ap, ◌∙◌}
use Rattle.px_value.specs.declared.value.Value.{Value}
use Rattle.px_value.specs.declared.value.Value.TheVariants as values
use Rattle.px_core.specs.declared.expr.BinaryOp.{BinaryOp}
use Rattle.px_core.specs.declared.expr.LookWord.{LookWord}
use Rattle.px_core.specs.declared.expr.UnaryOp.{UnaryOp}
use Rattle.px_core.specs.Expr.{Term, Terms, Literal, Var, Cell, StateOf, OutcomeOf, FailureOf, HandleOf, Acknowledged, Look, Unary, Binary, NoTerms, More}

-- what stands at one place of a term
pub data Label : Type 0 where
  ALiteral : (value : Value) → Label
  AVar : (owner name : List ℕ) → Label
  ACell : (owner name : List ℕ) → Label
  AState : (path : List ℕ) → Label
  AnOutcome : (path : List ℕ) → Label
  AFailure : (path : List ℕ) → Label
  AHandle : (path : List ℕ) → Label
  AnAcknowledgement : (path : List ℕ) → Label
  ALook : (word : LookWord) (name : List ℕ) (tolerance : Option ℕ) → Label
  AUnary : (op : UnaryOp) → Label
  ABinary : (op : BinaryOp) → Label
  NoArgument : Label
  AnArgument : Label

-- the labels of a term in postorder, before others
abbrev mutual
  pub labels : Term → List Label → List Label
  labels (Literal value) rest = ALiteral value ∷ rest
  labels (Var owner name) rest = AVar owner name ∷ rest
  labels (Cell owner name index) rest = labels index (ACell owner name ∷ rest)
  labels (StateOf path) rest = AState path ∷ rest
  labels (OutcomeOf path) rest = AnOutcome path ∷ rest
  labels (FailureOf path) rest = AFailure path ∷ rest
  labels (HandleOf path) rest = AHandle path ∷ rest
  labels (Acknowledged path) rest = AnAcknowledgement path ∷ rest
  labels (Look word name args tolerance) rest = each_label args (ALook word name tolerance ∷ rest)
  labels (Unary op arg) rest = labels arg (AUnary op ∷ rest)
  labels (Binary op left right) rest = labels left (labels right (ABinary op ∷ rest))

  pub each_label : Terms → List Label → List Label
  each_label NoTerms rest = NoArgument ∷ rest
  each_label (More first others) rest = labels first (each_label others (AnArgument ∷ rest))

-- what is built so far: terms, and arguments
pub record Built : Type 0 where
  pub terms : List Term
  pub arguments : List Terms

abbrev pub top : List Term → Term
top [] = Literal values.Unknown
top (term ∷ terms) = term

abbrev pub top_arguments : List Terms → Terms
top_arguments [] = NoTerms
top_arguments (args ∷ more) = args

-- with one term in place of so many
abbrev pub with_term : Term → List Term → List Terms → Built
with_term term terms arguments = record { terms = term ∷ terms; arguments = arguments }

-- one label more
abbrev pub built : Label → List Term → List Terms → Built
built (ALiteral value) terms arguments = with_term (Literal value) terms arguments
built (AVar owner name) terms arguments = with_term (Var owner name) terms arguments
built (ACell owner name) terms arguments = with_term (Cell owner name (top terms)) (drop 1 terms) arguments
built (AState path) terms arguments = with_term (StateOf path) terms arguments
built (AnOutcome path) terms arguments = with_term (OutcomeOf path) terms arguments
built (AFailure path) terms arguments = with_term (FailureOf path) terms arguments
built (AHandle path) terms arguments = with_term (HandleOf path) terms arguments
built (AnAcknowledgement path) terms arguments = with_term (Acknowledged path) terms arguments
built (ALook word name tolerance) terms arguments =
    with_term (Look word name (top_arguments arguments) tolerance) terms (drop 1 arguments)
built (AUnary op) terms arguments = with_term (Unary op (top terms)) (drop 1 terms) arguments
built (ABinary op) terms arguments = with_term (Binary op (top (drop 1 terms)) (top terms)) (drop 2 terms) arguments
built NoArgument terms arguments = record { terms = terms; arguments = NoTerms ∷ arguments }
built AnArgument terms arguments =
    record { terms = drop 1 terms; arguments = More (top terms) (top_arguments arguments) ∷ drop 1 arguments }

abbrev pub built_all : List Label → Built → Built
built_all [] so_far = so_far
built_all (label ∷ labels) so_far = built_all labels (built label so_far.terms so_far.arguments)

-- the labels of a term build it, whatever was built before
mutual
  pub builds : (term : Term) (rest : List Label) (terms : List Term) (arguments : List Terms)
      → built_all (labels term rest) (record { terms = terms; arguments = arguments }) ≡ built_all rest (with_term term terms arguments)
  builds (Literal value) rest terms arguments = refl
  builds (Var owner name) rest terms arguments = refl
  builds (Cell owner name index) rest terms arguments = builds index (ACell owner name ∷ rest) terms arguments
  builds (StateOf path) rest terms arguments = refl
  builds (OutcomeOf path) rest terms arguments = refl
  builds (FailureOf path) rest terms arguments = refl
  builds (HandleOf path) rest terms arguments = refl
  builds (Acknowledged path) rest terms arguments = refl
  builds (Look word name args tolerance) rest terms arguments =
      builds_each args (ALook word name tolerance ∷ rest) terms arguments
  builds (Unary op arg) rest terms arguments = builds arg (AUnary op ∷ rest) terms arguments
  builds (Binary op left right) rest terms arguments =
      builds left (labels right (ABinary op ∷ rest)) terms arguments
      ∙ builds right (ABinary op ∷ rest) (left ∷ terms) arguments

  pub builds_each : (args : Terms) (rest : List Label) (terms : List Term) (arguments : List Terms)
      → built_all (each_label args rest) (record { terms = terms; arguments = arguments })
      ≡ built_all rest (record { terms = terms; arguments = args ∷ arguments })
  builds_each NoTerms rest terms arguments = refl
  builds_each (More first others) rest terms arguments =
      builds first (each_label others (AnArgument ∷ rest)) terms arguments
      ∙ builds_each others (AnArgument ∷ rest) (first ∷ terms) arguments

abbrev pub term_from : List Label → Term
term_from labels = top (built_all labels (record { terms = []; arguments = [] })).terms

pub term_code : Coded Term
term_code =
    code_by (List Label) (Prim.hlevel codes) (λ term. labels term []) term_from
    (λ term. ap (λ (so_far : Built). top so_far.terms) (builds term [] [] []))
