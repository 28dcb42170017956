-- Which variables are contested, as one node wants or holds.
use Rattle.std.proofs.Common.{◌≡◌, ◌≢◌, ℕ, Bool, false, not, ◌&&◌, List, set, get_or, Option, Some, None, ap, sym, ◌∙◌, inl, inr}
use Rattle.std.specs.Prelude.{nat_eq}
use Rattle.std.proofs.lemmas.Bool.{cases_eq, cond-false, cond-true, eq-eqb, eqb-true, ne_eqb}
use Rattle.std.proofs.lemmas.List.{get_or-set_other}
use Rattle.px_value.proofs.General.{same_bool}
use Rattle.px_links.specs.Links.{LinksData, holder_of, HoldsOthersAsBefore}
use Rattle.px_tally.specs.Tally.{TallyData, marked, nobody, total, is_nobody}
use Rattle.px_tally.proofs.Counting.{none-count, count-none, total-nobody}
use Rattle.px_assign.specs.Keeping.{HoldsContested, holder_for, is_contested}

-- a member that is of another group, or of none, is marked
pub nobody_as_before : (tally : TallyData) (member : ℕ) (counts : Bool) (group : ℕ)
    → get_or tally.group_of member None ≢ Some group
    → is_nobody (marked tally member counts) group ≡ is_nobody tally group
nobody_as_before tally member counts group apart =
    same_bool (is_nobody (marked tally member counts) group) (is_nobody tally group)
    (λ none. eq-eqb (total tally group) 0 (count-none group tally.group_of tally.counting (λ other of.
    sym (get_or-set_other tally.counting member other counts false (λ same. apart (ap (λ at. get_or tally.group_of at None) (sym same) ∙ of)))
    ∙ none-count group tally.group_of (set tally.counting member counts)
    (eqb-true (total (marked tally member counts) group) 0 none) other of)))
    (λ none. eq-eqb (total (marked tally member counts) group) 0
    (count-none group tally.group_of (set tally.counting member counts) (λ other of.
    get_or-set_other tally.counting member other counts false (λ same. apart (ap (λ at. get_or tally.group_of at None) (sym same) ∙ of))
    ∙ none-count group tally.group_of tally.counting (eqb-true (total tally group) 0 none) other of)))

pub as_wanted : (wanting holding : TallyData) (node : ℕ) (wants : Bool) (variable : ℕ)
    → get_or wanting.group_of node None ≢ Some variable
    → is_contested (marked wanting node wants) holding variable ≡ is_contested wanting holding variable
as_wanted wanting holding node wants variable apart =
    ap (λ none. not none && is_nobody holding variable) (nobody_as_before wanting node wants variable apart)

pub as_held : (wanting holding : TallyData) (node : ℕ) (holds : Bool) (variable : ℕ)
    → get_or holding.group_of node None ≢ Some variable
    → is_contested wanting (marked holding node holds) variable ≡ is_contested wanting holding variable
as_held wanting holding node holds variable apart =
    ap (λ none. not (is_nobody wanting variable) && none) (nobody_as_before holding node holds variable apart)

-- one variable was judged, and the others are as before
pub judged : (wanting holding wanting_now holding_now : TallyData) (links links_now : LinksData) (variable : ℕ)
    → HoldsContested wanting holding links
    → ((other : ℕ) → other ≢ variable
    → is_contested wanting_now holding_now other ≡ is_contested wanting holding other)
    → HoldsOthersAsBefore links links_now variable (holder_for (is_contested wanting_now holding_now variable))
    → HoldsContested wanting_now holding_now links_now
judged wanting holding wanting_now holding_now links links_now variable kept others held other = elim (cases_eq variable other) [
  | inl same ↦
      held other
      ∙ cond-true (nat_eq variable other) (holder_for (is_contested wanting_now holding_now variable)) (holder_of links other)
      (eq-eqb variable other same)
      ∙ ap (λ at. holder_for (is_contested wanting_now holding_now at)) same
  | inr apart ↦
      held other
      ∙ cond-false (nat_eq variable other) (holder_for (is_contested wanting_now holding_now variable)) (holder_of links other)
      (ne_eqb variable other apart)
      ∙ kept other ∙ ap holder_for (sym (others other (λ same. apart (sym same))))
]

-- no variable was judged, and all are as before
pub unjudged : (wanting holding wanting_now holding_now : TallyData) (links : LinksData)
    → HoldsContested wanting holding links
    → ((other : ℕ) → is_contested wanting_now holding_now other ≡ is_contested wanting holding other)
    → HoldsContested wanting_now holding_now links
unjudged wanting holding wanting_now holding_now links kept same other =
    kept other ∙ ap holder_for (sym (same other))

-- nobody wants anything
pub none_contested : (groups : ℕ) (variables : List (Option ℕ)) (holding : TallyData) (links : LinksData)
    → ((cell : ℕ) → holder_of links cell ≡ None) → HoldsContested (nobody groups variables) holding links
none_contested groups variables holding links absent variable =
    absent variable
    ∙ ap (λ none. holder_for (not none && is_nobody holding variable))
    (sym (eq-eqb (total (nobody groups variables) variable) 0
    (total-nobody variables variable)))
