-- Who goes first of those that want a variable, and so who stays.
use Rattle.std.proofs.Common.{◌≡◌, ◌≢◌, ℕ, ◌+◌, ◌<◌, length, take, Bool, true, false, not, ◌&&◌, ◌||◌, List, [], ◌∷◌, ◌++◌, Option, Some, None, refl, ap, sym, ◌∙◌, subst, arith, if◌then◌else◌}
use Rattle.std.specs.Prelude.{nat_eq}
use Rattle.std.specs.Cmp.{nat_eq_equiv}
use Rattle.std.specs.List.{list_any, All}
use Rattle.std.proofs.lemmas.Bool.{and_parts, and_from, or_left, or_right, eqb-true, false_from_ne_true, false≢true}
use Rattle.std.proofs.lemmas.Bool.Decides.{nat_tests}
use Rattle.std.proofs.lemmas.List.Elements.{All-contains, All-take}
use Rattle.std.proofs.lemmas.List.Folds.{list_any-append}
use Rattle.std.proofs.lemmas.Map.Views.{Contains-from_any}
use Rattle.px_value.proofs.General.{list_any-weaker}
use Rattle.px_value.specs.General.{is_number}
use Rattle.px_core.specs.Plan.{Site}
use Rattle.px_assign.specs.Conflicts.{of_variable, variable_of, writes, goes_before, is_kept_from, is_loser}
use Rattle.px_assign.specs.Contending.{IsFirst, better, claimed, stays}

-- ---- two writers, and three

through : (plan : List Site) (a b c : ℕ) → goes_before plan a b ≡ true → goes_before plan b c ≡ true
    → goes_before plan a c ≡ true
through plan a b c ab bc = grind (arith, nat_tests)

pub other_way : (plan : List Site) (a b : ℕ) → goes_before plan a b ≡ false → a ≢ b → goes_before plan b a ≡ true
other_way plan a b fails apart = grind (arith, nat_tests)

pub not_itself : (plan : List Site) (a : ℕ) → goes_before plan a a ≡ false
not_itself plan a = grind (arith, nat_tests)

-- a node writes the variable that is its own
pub is_written : (plan : List Site) (variable node : ℕ) → variable_of plan node ≡ Some variable → writes plan variable node ≡ true
is_written plan variable node is = ap (of_variable (nat_eq variable)) is ∙ nat_eq_equiv.refl variable

-- ---- tests of lists

none_weaker : (p q : ℕ → Bool) → ((n : ℕ) → p n ≡ true → q n ≡ true) → (ns : List ℕ) → list_any q ns ≡ false
    → list_any p ns ≡ false
none_weaker p q each ns h =
    false_from_ne_true (list_any p ns) (λ passes. false≢true (sym h ∙ list_any-weaker p q each ns passes))

pub found_among : (p : ℕ → Bool) (n : ℕ) (ns : List ℕ) → list_any (nat_eq n) ns ≡ true → p n ≡ true → list_any p ns ≡ true
found_among p n ns h passes =
    list_any-weaker (nat_eq n) p (λ m same. subst (λ k. p k ≡ true) (eqb-true n m same) passes) ns h

-- one more at the end
any_more : (p : ℕ → Bool) (ns : List ℕ) (n : ℕ) (before now : Bool) → list_any p ns ≡ before → p n ≡ now
    → list_any p (ns ++ n ∷ []) ≡ (before || (now || false))
any_more p ns n before now h here = list_any-append p ns (n ∷ []) ∙ rw (h, here)

-- ---- one more that wants the variable

after : (plan : List Site) (variable : ℕ) (nodes : List ℕ) (node : ℕ) (first : Option ℕ) (is : Bool)
    → writes plan variable node ≡ is → IsFirst plan variable nodes first
    → IsFirst plan variable (nodes ++ node ∷ []) (if is then better plan node first else first)
after plan variable nodes node None false fails first = any_more (writes plan variable) nodes node false false first fails
after plan variable nodes node (Some other) false fails first = record {
  among = any_more (nat_eq other) nodes node true (nat_eq other node) first.among refl;
  writer = first.writer;
  before = any_more (λ m. writes plan variable m && goes_before plan m other) nodes node false false first.before
      (ap (λ w. w && goes_before plan node other) fails);
}
after plan variable nodes node None true passes first = record {
  among = list_any-append (nat_eq node) nodes (node ∷ []) ∙ or_right (list_any (nat_eq node) nodes) (nat_eq node node || false) (or_left (nat_eq node node) false (nat_eq_equiv.refl node));
  writer = passes;
  before = any_more (λ m. writes plan variable m && goes_before plan m node) nodes node false false
      (none_weaker (λ m. writes plan variable m && goes_before plan m node) (writes plan variable)
      (λ m h. (and_parts (writes plan variable m) (goes_before plan m node) h).0) nodes first)
      (rw (passes, not_itself plan node));
}
after plan variable nodes node (Some other) true passes first = by (goes_before plan node other) refl
  where
    by : (is : Bool) → goes_before plan node other ≡ is
        → IsFirst plan variable (nodes ++ node ∷ []) (if is then Some node else Some other)
    by true sooner = record {
      among = list_any-append (nat_eq node) nodes (node ∷ []) ∙ or_right (list_any (nat_eq node) nodes) (nat_eq node node || false) (or_left (nat_eq node node) false (nat_eq_equiv.refl node));
      writer = passes;
      before = any_more (λ m. writes plan variable m && goes_before plan m node) nodes node false false
          (none_weaker (λ m. writes plan variable m && goes_before plan m node) (λ m. writes plan variable m && goes_before plan m other)
          (λ m h. let parts = and_parts (writes plan variable m) (goes_before plan m node) h in
          and_from (writes plan variable m) (goes_before plan m other) parts.0 (through plan m node other parts.1 sooner)) nodes first.before)
          (rw (passes, not_itself plan node));
    }
    by false later = record {
      among = any_more (nat_eq other) nodes node true (nat_eq other node) first.among refl;
      writer = first.writer;
      before = any_more (λ m. writes plan variable m && goes_before plan m other) nodes node false false first.before
          (rw (passes, later));
    }

pub one_more : (plan : List Site) (variable : ℕ) (nodes : List ℕ) (node : ℕ) (first : Option ℕ)
    → IsFirst plan variable nodes first → IsFirst plan variable (nodes ++ node ∷ []) (claimed plan variable node first)
one_more plan variable nodes node first is = after plan variable nodes node first (writes plan variable node) refl is

-- ---- who stays

first_or_kept : (plan : List Site) (variable node : ℕ) (wanting : List ℕ) (first : Option ℕ)
    → IsFirst plan variable wanting first → list_any (nat_eq node) wanting ≡ true → writes plan variable node ≡ true
    → not (is_number first node) ≡ list_any (λ other. writes plan variable other && goes_before plan other node) wanting
first_or_kept plan variable node wanting None none among writer =
    absurd (false≢true (sym none ∙ found_among (writes plan variable) node wanting among writer))
first_or_kept plan variable node wanting (Some first) is among writer = by (nat_eq first node) refl
  where
    by : (same : Bool) → nat_eq first node ≡ same
        → not same ≡ list_any (λ other. writes plan variable other && goes_before plan other node) wanting
    by true same =
        sym (subst (λ n. list_any (λ other. writes plan variable other && goes_before plan other n) wanting ≡ false)
        (eqb-true first node same) is.before)
    by false differ =
        let later : goes_before plan node first ≡ false = false_from_ne_true (goes_before plan node first) (λ sooner.
        false≢true (sym is.before ∙ found_among (λ other. writes plan variable other && goes_before plan other first) node wanting among
        (and_from (writes plan variable node) (goes_before plan node first) writer sooner))) in
        let apart : node ≢ first = λ same. false≢true (sym differ ∙ (ap (λ n. nat_eq first n) same ∙ nat_eq_equiv.refl first)) in
        sym (found_among (λ other. writes plan variable other && goes_before plan other node) first wanting is.among
        (and_from (writes plan variable first) (goes_before plan first node) is.writer (other_way plan node first later apart)))

pub stays_as_loser : (plan : List Site) (wanting holding : List ℕ) (held : ℕ → Bool) (first : ℕ → Option ℕ) (node : ℕ)
    → ((variable : ℕ) → held variable ≡ list_any (writes plan variable) holding)
    → ((variable : ℕ) → IsFirst plan variable wanting (first variable))
    → list_any (nat_eq node) wanting ≡ true
    → stays held first node (variable_of plan node) ≡ is_loser plan wanting holding node
stays_as_loser plan wanting holding held first node holders firsts among = by (variable_of plan node) refl
  where
    by : (variable : Option ℕ) → variable_of plan node ≡ variable
        → stays held first node variable ≡ of_variable (is_kept_from plan wanting holding node) variable
    by None is = refl
    by (Some variable) is =
        let writer : writes plan variable node ≡ true = is_written plan variable node is in
        rw (
          holders variable,
          first_or_kept plan variable node wanting (first variable) (firsts variable) among writer,
        ) refl

-- who goes first of the front of a list is a node where all of the list are
pub first_within : (plan : List Site) (variable : ℕ) (nodes : List ℕ) (i first : ℕ) → All (λ node. node < length plan) nodes
    → IsFirst plan variable (take i nodes) (Some first) → first < length plan
first_within plan variable nodes i first all is =
    All-contains (λ node. node < length plan) (take i nodes) first (All-take (λ node. node < length plan) i nodes all)
    (Contains-from_any eqb-true first (take i nodes) is.among)
