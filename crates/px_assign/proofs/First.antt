-- The first writer of a variable that wants it is the one that goes first.
use Rattle.std.proofs.Common.{◌≡◌, ℕ, ◌<◌, ◌≤◌, Bool, true, false, ◌&&◌, ◌||◌, List, length, get_or, Some, refl, ap, sym, ◌∙◌, subst, arith}
use Rattle.std.specs.Prelude.{nat_eq, nat_lt}
use Rattle.std.specs.List.{position_or_len}
use Rattle.std.specs.Option.{option_map}
use Rattle.std.proofs.lemmas.Bool.{and_parts, and_from, or_parts, eqb-true, eq-eqb}
use Rattle.std.proofs.lemmas.List.Folds.{Any-from_list_any, find_at}
use Rattle.std.proofs.lemmas.List.Sums.{passes_at_first}
use Rattle.std.proofs.lemmas.List.{get_or_default}
use Rattle.std.proofs.lemmas.Option.{same_Some, slice_get-get_or}
use Rattle.px_value.proofs.General.{not_behind}
use Rattle.px_core.specs.Plan.{Site}
use Rattle.px_assign.specs.Conflicts.{variable_of, priority_of, goes_before}
use Rattle.px_assign.specs.declared.order.Writer.{Writer}
use Rattle.px_assign.specs.Ordering.{AreInOrder, IsWriter, first_wanting, is_wanting, stands_before}

-- a node writes the variable and wants it, and none that does goes before
pub record WantsFirst (plan : List Site) (wants : ℕ → Bool) (variable node : ℕ) : Type 0 where
  pub within : node < length plan
  pub writes : variable_of plan node ≡ Some variable
  pub wanted : wants node ≡ true
  pub before : (other : ℕ) → other < length plan → variable_of plan other ≡ Some variable → wants other ≡ true
      → goes_before plan other node ≡ false

-- where a node stands among the writers
record StandsAt (plan : List Site) (writers : List Writer) (variable node : ℕ) : Type 0 where
  place : ℕ
  writer : Writer
  inside : place < length writers
  is : get_or writers place writer ≡ writer
  node_is : writer.node ≡ node
  variable_is : writer.variable ≡ variable
  priority_is : writer.priority ≡ priority_of plan node

-- one of the same variable stands before another just where it goes before it
same_variable : (plan : List Site) (a b : Writer) (m n : ℕ) → a.node ≡ m → b.node ≡ n → a.priority ≡ priority_of plan m
    → b.priority ≡ priority_of plan n → a.variable ≡ b.variable → stands_before a b ≡ false → goes_before plan m n ≡ false
same_variable plan a b m n at_a at_b p_a p_b same fails =
    let behind = or_parts (nat_lt a.variable b.variable)
    (nat_eq a.variable b.variable
    && (nat_lt a.priority b.priority || (nat_eq a.priority b.priority && nat_lt a.node b.node))) fails in
    (λ i. nat_lt (sym p_a i) (sym p_b i) || (nat_eq (sym p_a i) (sym p_b i) && nat_lt (sym at_a i) (sym at_b i)))
    ∙ sym (ap (λ same. same && (nat_lt a.priority b.priority || (nat_eq a.priority b.priority && nat_lt a.node b.node)))
    (eq-eqb a.variable b.variable same))
    ∙ behind.1

module _ (plan : List Site) (writers : List Writer) (are : AreInOrder plan writers) (wants : ℕ → Bool) (variable : ℕ) where
  stands_at : (node : ℕ) → node < length plan → variable_of plan node ≡ Some variable → StandsAt plan writers variable node
  stands_at node within is =
      let found = Any-from_list_any (λ (writer : Writer). nat_eq node writer.node) writers
      (are.whole.all node variable within is) in
      let writer : Writer = found.1 in
      let says : IsWriter plan writer =
      subst (IsWriter plan) found.3 (are.whole.each found.0 writer found.2) in
      let node_is : writer.node ≡ node = sym (eqb-true node writer.node found.4) in
      record {
        place = found.0;
        writer = writer;
        inside = found.2;
        is = found.3;
        node_is = node_is;
        variable_is = same_Some writer.variable variable (sym says.variable ∙ ap (variable_of plan) node_is ∙ is);
        priority_is = says.priority ∙ ap (priority_of plan) node_is;
      }

  passes : (node : ℕ) → wants node ≡ true → (at : StandsAt plan writers variable node)
      → is_wanting wants variable (get_or writers at.place at.writer) ≡ true
  passes node want at =
      ap (is_wanting wants variable) at.is
      ∙ and_from (nat_eq at.writer.variable variable) (wants at.writer.node)
      (eq-eqb at.writer.variable variable at.variable_is)
      (ap wants at.node_is ∙ want)

  pub first_is : (wanting : ℕ) → wanting < length plan → variable_of plan wanting ≡ Some variable → wants wanting ≡ true
      → (node : ℕ) × (first_wanting wants writers variable ≡ Some node) × WantsFirst plan wants variable node
  first_is wanting within is want =
      let test : Writer → Bool = is_wanting wants variable in
      let at = stands_at wanting within is in
      let d : Writer = at.writer in
      let first : ℕ = position_or_len test writers in
      let inside : first < length writers =
      omega (arith, not_behind test writers at.place d (passes wanting want at), at.inside) in
      let found : Writer = get_or writers first d in
      let both = and_parts (nat_eq found.variable variable) (wants found.node)
      (passes_at_first test writers d inside) in
      let says : IsWriter plan found = are.whole.each first d inside in
      let own : found.variable ≡ variable = eqb-true found.variable variable both.0 in (
        found.node,
        ap (option_map (λ (writer : Writer). writer.node)) (find_at test writers ∙ slice_get-get_or writers first d inside),
        record {
          within = says.within;
          writes = says.variable ∙ ap Some own;
          wanted = both.1;
          before = λ other there writes wanted.
              let behind = stands_at other there writes in
              let past : first ≤ behind.place = not_behind test writers behind.place behind.writer (passes other wanted behind) in
              same_variable plan behind.writer found other found.node behind.node_is refl behind.priority_is says.priority
              (behind.variable_is ∙ sym own)
              (sym (λ i. stands_before (behind.is i) (get_or_default writers first behind.writer d inside i))
              ∙ are.order first behind.place behind.writer past behind.inside);
        },
      )
