-- What linked cells are, and how the links of one list change.
use Rattle.std.proofs.Common.{◌≡◌, ◌≢◌, ℕ, zero, suc, ◌-◌, ◌≤◌, true, false, ◌||◌, nat_eq, List, [], ◌∷◌, ◌++◌, length, slice_get, Option, Some, None, IfSome, refl, ap, sym, ◌∙◌, arith, inl, inr, ◌⊎◌}
use Rattle.std.specs.Option.{option_or}
use Rattle.std.proofs.iter.runs.Lists.{at_some}
use Rattle.std.proofs.lemmas.Bool.{eqb-true, eq-eqb, or_left, or_right}
use Rattle.std.proofs.lemmas.Bool.Decides.{eqb_tells}
use Rattle.std.proofs.lemmas.Grind.{common_steps}
use Rattle.std.proofs.lemmas.Map.Keys.{any_passes_from_place}
use Rattle.px_value.specs.General.{is_number}
use Rattle.px_links.specs.Lists.{has, without, behind}
use Rattle.px_links.specs.Keeping.{walk, AreLinked}
use Rattle.px_links.specs.Relinking.{past}

-- what a list has
pub has_head : (cell : ℕ) (list : List ℕ) → has (cell ∷ list) cell ≡ true
has_head cell list = or_left (nat_eq cell cell) (has list cell) (eq-eqb cell cell refl)

pub first_has : (list : List ℕ) (cell : ℕ) → slice_get list 0 ≡ Some cell → has list cell ≡ true
first_has list cell is = any_passes_from_place (nat_eq cell) list 0 cell is (eq-eqb cell cell refl)

module _ (next before : ℕ → Option ℕ) where
  -- a walk goes over a list that is no longer than it may be
  pub walk-list : (ahead first : Option ℕ) (list : List ℕ) (last : Option ℕ) (most : ℕ)
      → AreLinked next before ahead first list last → length list ≤ most → walk next first most ≡ list
  walk-list ahead first [] last most linked long = ap (λ from. walk next from most) linked.0
  walk-list ahead first (cell ∷ list) last zero linked long = absurd (omega arith)
  walk-list ahead first (cell ∷ list) last (suc most) linked long =
      ap (λ from. walk next from (suc most)) linked.0
      ∙ ap (λ rest. cell ∷ rest) (walk-list (Some cell) (next cell) list last most linked.2 (omega arith))

  -- the first link is to the first cell
  pub linked_first : (ahead first : Option ℕ) (list : List ℕ) (last : Option ℕ)
      → AreLinked next before ahead first list last → first ≡ slice_get list 0
  linked_first ahead first [] last linked = linked.0
  linked_first ahead first (cell ∷ list) last linked = linked.0

  -- the last link is to the last cell
  last_behind : (ahead first : Option ℕ) (cell : ℕ) (list : List ℕ) (last : Option ℕ)
      → AreLinked next before ahead first (cell ∷ list) last → last ≡ slice_get (cell ∷ list) (length list)
  last_behind ahead first cell [] last linked = linked.2.1
  last_behind ahead first cell (other ∷ list) last linked = last_behind (Some cell) (next cell) other list last linked.2

  pub linked_last : (first : Option ℕ) (list : List ℕ) (last : Option ℕ)
      → AreLinked next before None first list last → last ≡ slice_get list (length list - 1)
  linked_last first [] last linked = linked.1
  linked_last first (cell ∷ list) last linked =
      let before_end : length (cell ∷ list) - 1 ≡ length list = omega arith in
      rw before_end (last_behind None first cell list last linked)

  -- the link of a cell is to the one behind it
  pub linked_behind : (ahead first : Option ℕ) (list : List ℕ) (last : Option ℕ) (cell : ℕ)
      → AreLinked next before ahead first list last → has list cell ≡ true → next cell ≡ behind list cell
  linked_behind ahead first [] last cell linked has_it = absurd (cc)
  linked_behind ahead first (head ∷ list) last cell linked has_it = elim (eqb_tells cell head) [
    | inl same ↦ rw (same.0) (ap next same.1 ∙ linked_first (Some head) (next head) list last linked.2)
    | inr other ↦ rw (other.0) (linked_behind (Some head) (next head) list last cell linked.2
        (sym (ap (λ b. b || has list cell) other.0) ∙ has_it))
  ]

  -- a cell is the last, or the one behind it leads back to it
  abbrev pub LeadsOn : List ℕ → Option ℕ → ℕ → Type 0
  LeadsOn list last cell = ((next cell ≡ None) × (last ≡ Some cell))
      ⊎ ((after : ℕ) × (next cell ≡ Some after) × (before after ≡ Some cell) × (has list after ≡ true))

  pub leads_on : (ahead first : Option ℕ) (list : List ℕ) (last : Option ℕ) (cell : ℕ)
      → AreLinked next before ahead first list last → has list cell ≡ true → LeadsOn list last cell
  leads_on ahead first [] last cell linked has_it = absurd (cc)
  leads_on ahead first (head ∷ []) last cell linked has_it = grind (arith, common_steps)
  leads_on ahead first (head ∷ (other ∷ list)) last cell linked has_it = elim (eqb_tells cell head) [
    | inl same ↦ rw (same.1) (inr (other, linked.2.0, linked.2.1, or_right (nat_eq other head) _ (has_head other list)))
    | inr apart ↦ elim (leads_on (Some head) (next head) (other ∷ list) last cell linked.2
        (sym (ap (λ b. b || has (other ∷ list) cell) apart.0) ∙ has_it)) [
          | inl is_last ↦ inl is_last
          | inr leads ↦ inr (leads.0, leads.1, leads.2, or_right (nat_eq leads.0 head) _ leads.3)
        ]
  ]

  -- a cell is the first, or the one before it leads on to it
  abbrev pub LeadsBack : List ℕ → Option ℕ → Option ℕ → ℕ → Type 0
  LeadsBack list ahead first cell = ((before cell ≡ ahead) × (first ≡ Some cell))
      ⊎ ((earlier : ℕ) × (before cell ≡ Some earlier) × (next earlier ≡ Some cell) × (has list earlier ≡ true))

  pub leads_back : (ahead first : Option ℕ) (list : List ℕ) (last : Option ℕ) (cell : ℕ)
      → AreLinked next before ahead first list last → has list cell ≡ true → LeadsBack list ahead first cell
  leads_back ahead first [] last cell linked has_it = absurd (cc)
  leads_back ahead first (head ∷ list) last cell linked has_it = elim (eqb_tells cell head) [
    | inl same ↦ rw (same.1) (inl (linked.1, linked.0))
    | inr apart ↦ elim (leads_back (Some head) (next head) list last cell linked.2
        (sym (ap (λ b. b || has list cell) apart.0) ∙ has_it)) [
          | inl is_first ↦ inr (head, is_first.0, is_first.1, has_head head list)
          | inr leads ↦ inr (leads.0, leads.1, leads.2, or_right (nat_eq leads.0 head) _ leads.3)
        ]
  ]

  -- no cell of a list leads on to itself
  pub leads_apart : (ahead first : Option ℕ) (list : List ℕ) (last : Option ℕ) (cell : ℕ)
      → AreLinked next before ahead first list last → has list cell ≡ true → next cell ≡ Some cell → ⊥
  leads_apart ahead first [] last cell linked has_it loops = absurd (cc)
  leads_apart ahead first (head ∷ list) last cell linked has_it loops =
      leads_apart (Some head) (next head) list last cell linked.2 (elim (eqb_tells cell head) [
        | inl same ↦ first_has list cell
            (sym (linked_first (Some head) (next head) list last linked.2) ∙ ap next (sym same.1) ∙ loops)
        | inr apart ↦ sym (ap (λ b. b || has list cell) apart.0) ∙ has_it
      ]) loops

  -- the last one leads nowhere
  last_leads : (ahead first : Option ℕ) (head : ℕ) (list : List ℕ) (last : Option ℕ) (cell : ℕ)
      → AreLinked next before ahead first (head ∷ list) last → last ≡ Some cell
      → (has (head ∷ list) cell ≡ true) × (next cell ≡ None)
  last_leads ahead first head [] last cell linked is =
      let same : head ≡ cell = cc in
      (or_left (nat_eq cell head) false (eq-eqb cell head (sym same)), ap next (sym same) ∙ linked.2.0)
  last_leads ahead first head (other ∷ list) last cell linked is =
      let behind = last_leads (Some head) (next head) other list last cell linked.2 is in
      (or_right (nat_eq cell head) _ behind.0, behind.1)

  pub last_is : (first : Option ℕ) (list : List ℕ) (last : Option ℕ) (cell : ℕ)
      → AreLinked next before None first list last → last ≡ Some cell → (has list cell ≡ true) × (next cell ≡ None)
  last_is first [] last cell linked is = absurd (cc)
  last_is first (head ∷ list) last cell linked is = last_leads None first head list last cell linked is

  pub first_is : (ahead first : Option ℕ) (list : List ℕ) (last : Option ℕ) (cell : ℕ)
      → AreLinked next before ahead first list last → first ≡ Some cell → has list cell ≡ true
  first_is ahead first list last cell linked is =
      first_has list cell (sym (linked_first ahead first list last linked) ∙ is)

-- ---- links that change

pub number_here : (link : Option ℕ) (cell : ℕ) → is_number link cell ≡ true → link ≡ Some cell
number_here None cell is = absurd (cc)
number_here (Some at) cell is = ap Some (eqb-true at cell is)

pub here_number : (link : Option ℕ) (cell : ℕ) → link ≡ Some cell → is_number link cell ≡ true
here_number None cell is = absurd (cc)
here_number (Some at) cell is = let same : at ≡ cell = cc in eq-eqb at cell same

pub if_some : {P : ℕ → Type 0} (link : Option ℕ) → ((at : ℕ) → link ≡ Some at → P at) → IfSome link P
if_some {P} link each = at_some link P each

past_here : {gone cell : ℕ} (other : Option ℕ) → gone ≡ cell → past gone other (Some cell) ≡ other
past_here {gone} {cell} other same = rw (eq-eqb cell gone (sym same)) refl

past_other : {gone cell : ℕ} (other : Option ℕ) → gone ≢ cell → past gone other (Some cell) ≡ Some cell
past_other {gone} {cell} other apart = grind (arith, common_steps)

module _ (next before then_next then_before : ℕ → Option ℕ) where
  -- the links of a list stay
  pub linked_same : (ahead first : Option ℕ) (list : List ℕ) (last : Option ℕ)
      → ((cell : ℕ) → has list cell ≡ true → (then_next cell ≡ next cell) × (then_before cell ≡ before cell))
      → AreLinked next before ahead first list last → AreLinked then_next then_before ahead first list last
  linked_same ahead first [] last same linked = linked
  linked_same ahead first (cell ∷ list) last same linked =
      let here = same cell (has_head cell list) in (
        linked.0,
        here.1 ∙ linked.1,
        linked_same (Some cell) (then_next cell) list last
            (λ other has_it. same other (or_right (nat_eq other cell) _ has_it))
            (rw (here.0) linked.2),
      )

  -- a cell is linked in behind the others
  pub linked_push : (ahead first : Option ℕ) (list : List ℕ) (last : Option ℕ) (new : ℕ)
      → ((cell : ℕ) → has list cell ≡ true
      → (then_next cell ≡ option_or (next cell) (Some new)) × (then_before cell ≡ before cell))
      → then_next new ≡ None → then_before new ≡ last → AreLinked next before ahead first list last
      → AreLinked then_next then_before ahead (option_or first (Some new)) (list ++ new ∷ []) (Some new)
  linked_push ahead first [] last new others ends leads linked =
      (ap (λ from. option_or from (Some new)) linked.0, leads ∙ linked.1, (ends, refl))
  linked_push ahead first (cell ∷ list) last new others ends leads linked =
      let here = others cell (has_head cell list) in (
        ap (λ from. option_or from (Some new)) linked.0,
        here.1 ∙ linked.1,
        rw (here.0) (linked_push (Some cell) (next cell) list last new
            (λ other has_it. others other (or_right (nat_eq other cell) _ has_it)) ends leads linked.2),
      )

  -- a cell is taken out: each link to it leads past it
  pub linked_without : (ahead first : Option ℕ) (list : List ℕ) (last : Option ℕ) (gone : ℕ)
      → ((cell : ℕ) → has list cell ≡ true → cell ≢ gone
      → (then_next cell ≡ past gone (next gone) (next cell)) × (then_before cell ≡ past gone (before gone) (before cell)))
      → past gone (next gone) (next gone) ≡ next gone → past gone (before gone) (before gone) ≡ before gone
      → AreLinked next before ahead first list last
      → AreLinked then_next then_before (past gone (before gone) ahead) (past gone (next gone) first) (without list gone)
      (past gone (before gone) last)
  linked_without ahead first [] last gone others on back linked =
      (ap (past gone (next gone)) linked.0, ap (past gone (before gone)) linked.1)
  linked_without ahead first (cell ∷ list) last gone others on back linked =
      let rest = linked_without (Some cell) (next cell) list last gone
      (λ other has_it. others other (or_right (nat_eq other cell) _ has_it)) on back linked.2 in
      elim (eqb_tells gone cell) [
        | inl same ↦
            let here : before gone ≡ ahead = ap before same.1 ∙ linked.1 in
            let ahead_is : past gone (before gone) ahead ≡ past gone (before gone) (Some cell) =
            ap (past gone (before gone)) (sym here) ∙ back
            ∙ sym (past_here (before gone) same.1) in
            let first_is : past gone (next gone) first ≡ past gone (next gone) (next cell) =
            ap (past gone (next gone)) linked.0 ∙ past_here (next gone) same.1
            ∙ sym on ∙ ap (λ at. past gone (next gone) (next at)) same.1 in
            rw (same.0, ahead_is, first_is) rest
        | inr apart ↦
            let here = others cell (has_head cell list) (λ same. apart.1 (sym same)) in
            rw (apart.0) (
              ap (past gone (next gone)) linked.0 ∙ past_other (next gone) apart.1,
              here.1 ∙ ap (past gone (before gone)) linked.1,
              rw (here.0, ← past_other (before gone) apart.1) rest,
            )
      ]
