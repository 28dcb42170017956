-- Numbered expressions are told apart by their labels in preorder, so an equation of them has one proof at most.
use Rattle.std.proofs.Common.{◌≡◌, ℕ, List, [], ◌∷◌, refl, ap, Option}
use Rattle.std.specs.Coded.{Coded}
use denote.Struct.Codes.{codes}
use base.Stored.{coded_via}
use Rattle.px_value.specs.declared.value.Value.{Value}
use Rattle.px_core.specs.declared.expr.BinaryOp.{BinaryOp}
use Rattle.px_core.specs.declared.expr.UnaryOp.{UnaryOp}
use Rattle.px_flat.specs.Numbered.{Numbered, EachNumbered, NoneNumbered, MoreNumbered, Literal, Variable, Element, StateOf, OutcomeOf, FailureOf, HandleOf, Acknowledged, Look, Unary, Binary, NodeNumbered}

-- what stands at one place of an expression
data Label : Type 0 where
  ALiteral : (value : Value) → Label
  AVariable : (cell : ℕ) → Label
  AnElement : (first size : ℕ) → Label
  AState : (node : ℕ) → Label
  AnOutcome : (node : ℕ) → Label
  AFailure : (node : ℕ) → Label
  AHandle : (node : ℕ) → Label
  AnAcknowledgement : (node : ℕ) → Label
  ALook : (lookup : ℕ) (tolerance : Option ℕ) → Label
  AUnary : (op : UnaryOp) → Label
  ABinary : (op : BinaryOp) → Label
  AnArgument : Label
  NoArgument : Label

-- the labels of an expression in preorder, before others
abbrev mutual
  labels : Numbered → List Label → List Label
  labels (Literal value) rest = ALiteral value ∷ rest
  labels (Variable cell) rest = AVariable cell ∷ rest
  labels (Element first size index) rest = AnElement first size ∷ labels index rest
  labels (StateOf node) rest = AState node ∷ rest
  labels (OutcomeOf node) rest = AnOutcome node ∷ rest
  labels (FailureOf node) rest = AFailure node ∷ rest
  labels (HandleOf node) rest = AHandle node ∷ rest
  labels (Acknowledged node) rest = AnAcknowledgement node ∷ rest
  labels (Look lookup args tolerance) rest = ALook lookup tolerance ∷ each_label args rest
  labels (Unary op arg) rest = AUnary op ∷ labels arg rest
  labels (Binary op left right) rest = ABinary op ∷ labels left (labels right rest)

  each_label : EachNumbered → List Label → List Label
  each_label NoneNumbered rest = NoArgument ∷ rest
  each_label (MoreNumbered first others) rest = AnArgument ∷ labels first (each_label others rest)

mutual
  same : (a b : Numbered) (r s : List Label) → labels a r ≡ labels b s → (a ≡ b) × (r ≡ s)
  same (Literal a) (Literal b) r s e = let value : a ≡ b = (cc) in (ap Literal value, (cc))
  same (Variable a) (Variable b) r s e = let cell : a ≡ b = (cc) in (ap Variable cell, (cc))
  same (Element f n a) (Element g m b) r s e =
      let first : f ≡ g = (cc) in
      let size : n ≡ m = (cc) in
      let rest : labels a r ≡ labels b s = (cc) in
      let both = same a b r s rest in
      ((λ i. Element (first i) (size i) (both.0 i)), both.1)
  same (StateOf a) (StateOf b) r s e = let node : a ≡ b = (cc) in (ap StateOf node, (cc))
  same (OutcomeOf a) (OutcomeOf b) r s e = let node : a ≡ b = (cc) in (ap OutcomeOf node, (cc))
  same (FailureOf a) (FailureOf b) r s e = let node : a ≡ b = (cc) in (ap FailureOf node, (cc))
  same (HandleOf a) (HandleOf b) r s e = let node : a ≡ b = (cc) in (ap HandleOf node, (cc))
  same (Acknowledged a) (Acknowledged b) r s e = let node : a ≡ b = (cc) in (ap Acknowledged node, (cc))
  same (Look k a t) (Look l b u) r s e =
      let lookup : k ≡ l = (cc) in
      let tolerance : t ≡ u = (cc) in
      let rest : each_label a r ≡ each_label b s = (cc) in
      let both = each_same a b r s rest in
      ((λ i. Look (lookup i) (both.0 i) (tolerance i)), both.1)
  same (Unary o a) (Unary p b) r s e =
      let op : o ≡ p = (cc) in
      let rest : labels a r ≡ labels b s = (cc) in
      let both = same a b r s rest in
      ((λ i. Unary (op i) (both.0 i)), both.1)
  same (Binary o a c) (Binary p b d) r s e =
      let op : o ≡ p = (cc) in
      let rest : labels a (labels c r) ≡ labels b (labels d s) = (cc) in
      let left = same a b (labels c r) (labels d s) rest in
      let right = same c d r s left.1 in
      ((λ i. Binary (op i) (left.0 i) (right.0 i)), right.1)
  same a b r s e = absurd (cc)

  each_same : (a b : EachNumbered) (r s : List Label) → each_label a r ≡ each_label b s → (a ≡ b) × (r ≡ s)
  each_same NoneNumbered NoneNumbered r s e = (refl, (cc))
  each_same (MoreNumbered a c) (MoreNumbered b d) r s e =
      let rest : labels a (each_label c r) ≡ labels b (each_label d s) = (cc) in
      let first = same a b (each_label c r) (each_label d s) rest in
      let others = each_same c d r s first.1 in
      ((λ i. MoreNumbered (first.0 i) (others.0 i)), others.1)
  each_same a b r s e = absurd (cc)

labels_code : Coded (List Label)
labels_code = hlevel codes

numbered_code : Coded Numbered
numbered_code = coded_via labels_code (λ a. labels a []) (λ a b e. (same a b [] [] e).0)

pub node_set : IsSet NodeNumbered
node_set = hlevel (numbered_code, codes)
