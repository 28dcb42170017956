-- What a step keeps that changes the view of one seat.
use Rattle.std.proofs.Common.{rules, unwrap_or, ◌≡◌, ◌≢◌, ℕ, zero, suc, ◌+◌, ◌<◌, true, false, is_some, nat_eq, List, [], ◌∷◌, map, length, set, get_or, Option, Some, refl, sym, ap, ◌∙◌, subst, ⊎_elim, arith, length-set, eq-eqb, ne_eqb, All}
use mathlib.Core.Logic.{dite}
use mathlib.Core.Option.{some, some-injective, some-ne-none}
use native.Mathlib.Decide.{ℕ_discrete}
use lib.ListN.{get_elem?}
use lib.Seq.{set-get_or}
use Rattle.std.proofs.lemmas.List.Elements.{All-head, All-tail}
use Rattle.atomic_table.specs.Table.{State, stepped, keeps}
use Rattle.atomic_table.proofs.Lists.{at_set, set_here, set_else, set_again}
use Rattle.px_value.specs.General.{is_number}
use Rattle.px_turn.specs.declared.view.Record.{Record}
use Rattle.px_turn.specs.declared.view.Stamped.{Stamped}
use Rattle.px_turn.specs.declared.view.View.{View}
use Rattle.px_turn.specs.Views.{record_of, records, numbers}
use Rattle.px_turn.specs.Rule.{one_if, times, waiting, AreTickets, AreNumbered, HaveNoTurn, IsRuled}
use Rattle.px_turn.proofs.Totals.{total_same}

pub one_if_same : (a b : ℕ) → a ≡ b → one_if (nat_eq a b) ≡ 1
one_if_same a b same = ap one_if (eq-eqb a b same)

pub one_if_other : (a b : ℕ) → a ≢ b → one_if (nat_eq a b) ≡ 0
one_if_other a b apart = ap one_if (ne_eqb a b apart)

-- what is in a seat's hand
abbrev held_or : {T : Type 0} → T → List (ℕ × Option T) → T
held_or other [] = other
held_or other (x ∷ slots) = unwrap_or x.1 other

pub in_hand : {T : Type 0} (x y : T) (carried : List (ℕ × Option T)) → carried ≡ (0, Some x) ∷ []
    → carried ≡ (0, Some y) ∷ [] → x ≡ y
in_hand x y carried one other = ap (held_or x) (sym one ∙ other)

module _ {A : Type 0} where
  pub at_within : (xs : List A) (i : ℕ) (v : A) → get_elem? xs i ≡ some v → i < length xs
  at_within [] i v at = absurd (some-ne-none v (sym at))
  at_within (x ∷ xs) zero v at = omega arith
  at_within (x ∷ xs) (suc i) v at = let rest = at_within xs i v at in omega arith

  pub one_there : (xs : List A) (i : ℕ) → i < length xs → (v : A) × (get_elem? xs i ≡ some v)
  one_there [] i short = absurd (omega arith)
  one_there (x ∷ xs) zero short = (x, refl)
  one_there (x ∷ xs) (suc i) short = one_there xs i (omega arith)

  pub one_only : (xs : List A) (i j : ℕ) (v w : A) → get_elem? xs i ≡ some v → get_elem? xs j ≡ some w → i ≡ j → v ≡ w
  one_only xs i j v w at there same = some-injective v w (sym at ∙ ap (λ k. get_elem? xs k) same ∙ there)

  pub each_set : (Q : A → Type 0) (xs : List A) (i : ℕ) (w : A) → Q w
      → ((j : ℕ) (u : A) → j ≢ i → get_elem? xs j ≡ some u → Q u)
      → (j : ℕ) (u : A) → get_elem? (set xs i w) j ≡ some u → Q u
  each_set Q xs i w mine others j u at = ⊎_elim (λ t. subst Q t.1 mine) (λ t. others j u t.0 t.1) (at_set xs i j w u at)

module _ {T I : Type 0} where
  -- of a seat that is live
  pub own_first : (P : Record → Type 0) (v : View T I) → v.live ≡ true → All P (records v) → P (record_of v)
  own_first P v live all = All-head P (record_of v) v.joined (rw live at all)

  pub joined_rest : (P : Record → Type 0) (v : View T I) → v.live ≡ true → All P (records v) → All P v.joined
  joined_rest P v live all = All-tail P (record_of v) v.joined (rw live at all)

  pub numbers_are : (v : View T I) → v.live ≡ true → numbers v ≡ v.number ∷ map (λ r. r.number) v.joined
  numbers_are v live = rw live refl

  -- a live seat has its number, and who holds a ticket holds it
  pub bears_own : (v : View T I) (number : ℕ) → v.live ≡ true → v.number ≡ number
      → times number (numbers v) ≡ 1 + times number (map (λ r. r.number) v.joined)
  bears_own v number live is =
      search (rules, numbers_are, one_if_same)

  pub holds_own : (v : View T I) (ticket : ℕ) → v.ticket ≡ Some ticket → one_if (is_number v.ticket ticket) ≡ 1
  holds_own v ticket holds = ap (λ k. one_if (is_number k ticket)) holds ∙ one_if_same ticket ticket refl

  -- the value at the opening, as two have it
  pub same_opening : (v : View T I) (key opening : T) (P : T → Type 0) → v.opening ≡ Some key
      → v.opening ≡ Some opening → P key → P opening
  same_opening v key opening P is is_too holds = subst P (ap (λ o. unwrap_or o key) (sym is ∙ is_too)) holds

  pub waiting_same : (views : List (View T I)) (id : ℕ) (v w : View T I) → get_elem? views id ≡ some v
      → w.ticket ≡ v.ticket
      → waiting (set views id w) ≡ waiting views
  waiting_same views id v w at same = total_same _ views id v w at (ap (λ k. one_if (is_some k)) same)

  pub tickets_same : (served : ℕ) (views : List (View T I)) (id : ℕ) (v w : View T I) → get_elem? views id ≡ some v
      → w.ticket ≡ v.ticket
      → AreTickets served views → AreTickets served (set views id w)
  tickets_same served views id v w at same are =
      search (rules, waiting_same, total_same)

  pub numbered_same : (views : List (View T I)) (id : ℕ) (v w : View T I) → get_elem? views id ≡ some v
      → numbers w ≡ numbers v
      → w.live ≡ v.live → w.number ≡ v.number → w.splits ≡ v.splits → AreNumbered views → AreNumbered (set views id w)
  numbered_same views id v w at same live number splits are =
      search (rules, length-set, total_same, at_set)

  -- the longest list stays with a seat that keeps it
  pub longest_set : (history : List (Stamped I)) (views : List (View T I)) (id : ℕ) (v w : View T I)
      → get_elem? views id ≡ some v
      → (v.seen ≡ history → w.seen ≡ history)
      → (j : ℕ) × ((u : View T I) × (get_elem? views j ≡ some u) × (u.seen ≡ history))
      → (j : ℕ) × ((u : View T I) × (get_elem? (set views id w) j ≡ some u) × (u.seen ≡ history))
  longest_set history views id v w at stays (j, there) = dite (ℕ_discrete j id)
      (λ same. (
        id,
        (
          w,
          set_here views id w (at_within views id v at),
          stays (ap (λ (x : View T I). x.seen) (one_only views id j v there.0 at there.1 (sym same)) ∙ there.2),
        ),
      ))
      (λ apart. (j, (there.0, set_else views id j w apart ∙ there.1, there.2)))

  -- where nobody has the turn afterwards, nobody had it
  pub no_turn_before : (views : List (View T I)) (id : ℕ) (v w : View T I) → get_elem? views id ≡ some v
      → (w.turn ≡ false → v.turn ≡ false)
      → HaveNoTurn (set views id w) → HaveNoTurn views
  no_turn_before views id v w at same none_has j u there = dite (ℕ_discrete j id)
      (λ is. ap (λ (x : View T I). x.turn) (one_only views j id u v there at is)
      ∙ same (none_has id w (set_here views id w (at_within views id v at))))
      (λ apart. none_has j u (set_else views id j w apart ∙ there))

  pub one_has_turn : (views : List (View T I)) (id : ℕ) (v w : View T I) → get_elem? views id ≡ some v → w.turn ≡ true
      → HaveNoTurn (set views id w) → ⊥
  one_has_turn views id v w at has none_has =
      let hasnt = none_has id w (set_here views id w (at_within views id v at)) in cc

  -- a step that changes nothing
  pub unmoved : (list : T → List I) (goes_on : T → T → Type 0) (key : T) (s : State (Option T) (View T I)) (i id : ℕ)
      (cs : List (ℕ × Option T)) (v : View T I)
      → get_elem? s.views id ≡ some v → IsRuled list goes_on key s
      → IsRuled list goes_on key (stepped s i (get_or s.words i 0) id cs v keeps)
  unmoved list goes_on key s i id cs v at ruled = rw (set-get_or s.words i 0, set_again s.views id v at) ruled
