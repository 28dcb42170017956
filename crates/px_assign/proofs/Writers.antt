-- The writers of a plan, as they are gathered and sorted.
use Rattle.std.proofs.Common.{◌≡◌, ℕ, ◌+◌, Bool, false, ◌||◌, List, [], ◌∷◌, ◌++◌, None, ap, sym, ◌∙◌, arith, inl, inr}
use Rattle.std.specs.Prelude.{nat_eq}
use Rattle.std.specs.List.{list_any}
use Rattle.std.proofs.lemmas.Bool.{cases_eq, eq-eqb, or_left, or_right}
use Rattle.std.proofs.lemmas.List.Elements.{All-push}
use Rattle.std.proofs.lemmas.List.Folds.{list_any-append}
use Rattle.px_core.specs.Plan.{Site}
use Rattle.px_assign.specs.Conflicts.{variable_of}
use Rattle.px_assign.specs.declared.order.Writer.{Writer}
use Rattle.px_assign.specs.Ordering.{IsWriter, AreSoFar}

pub no_more : (plan : List Site) (writers : List Writer) (count : ℕ) → AreSoFar plan writers count
    → variable_of plan count ≡ None → AreSoFar plan writers (count + 1)
no_more plan writers count are none = record {
  each = are.each;
  all = λ node variable below is. elim (cases_eq node count) [
    | inl same ↦ absurd (cc (sym none ∙ ap (variable_of plan) (sym same) ∙ is))
    | inr apart ↦ are.all node variable (omega (arith, below, apart)) is
  ];
}

pub one_more : (plan : List Site) (writers : List Writer) (writer : Writer) → AreSoFar plan writers writer.node
    → IsWriter plan writer → AreSoFar plan (writers ++ writer ∷ []) (writer.node + 1)
one_more plan writers writer are is = record {
  each = All-push (IsWriter plan) writers writer are.each is;
  all = λ node variable below writes.
      let test : Writer → Bool = λ (writer : Writer). nat_eq node writer.node in
      list_any-append test writers (writer ∷ [])
      ∙ elim (cases_eq node writer.node) [
        | inl same ↦
            or_right (list_any test writers) (test writer || false) (or_left (test writer) false (eq-eqb node writer.node same))
        | inr apart ↦
            or_left (list_any test writers) (test writer || false) (are.all node variable (omega (arith, below, apart)) writes)
      ];
}
