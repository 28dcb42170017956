-- The place of the first writer that wants, as one node wants or doesn't.
use Rattle.std.proofs.Common.{◌≡◌, ◌≢◌, ℕ, ◌+◌, ◌<◌, ◌≤◌, Bool, true, false, not, ◌&&◌, List, length, replicate, set, get_or, Option, Some, None, All, refl, ap, sym, ◌∙◌, arith, inl, inr}
use Rattle.std.specs.Prelude.{nat_eq}
use Rattle.std.specs.List.{position_or_len, slice_get}
use Rattle.std.specs.Option.{option_map}
use Rattle.std.proofs.lemmas.Bool.{and_from, and_parts, cases_Bool, cases_eq, cases_lt, eq-eqb, eqb-true, false_from_ne_true, false≢true, ne_eqb}
use Rattle.std.proofs.lemmas.List.{get_or-set_other, get_or-set_same}
use Rattle.std.proofs.lemmas.List.Folds.{find_at}
use Rattle.std.proofs.lemmas.List.Sums.{fails_before_first, passes_at_first, position_or_len_is, prefix_len-le-length}
use Rattle.std.proofs.lemmas.Option.{none-some, same_Some}
use Rattle.px_value.proofs.General.{not_behind, replicate-same}
use Rattle.px_tally.specs.Tally.{TallyData, CountsNobody, is_counted, marked, nobody}
use Rattle.px_assign.specs.declared.order.Writer.{Writer}
use Rattle.px_assign.specs.Keeping.{HoldsFirsts, OfGroups, is_node}
use Rattle.px_assign.specs.Ordering.{but_for, first_at, first_wanting, is_wanting, place_wanting}

abbrev pub someone : Writer
someone = record { variable = 0; priority = 0; node = 0 }

-- ---- the first that passes a test

pub up_to_end : (test : Writer → Bool) (writers : List Writer) → position_or_len test writers ≤ length writers
up_to_end test writers = prefix_len-le-length (λ writer. not (test writer)) writers

-- it is behind one that doesn't pass, if it isn't before
pub behind : (test : Writer → Bool) (writers : List Writer) (at : ℕ) (d : Writer) → at < length writers
    → at ≤ position_or_len test writers → test (get_or writers at d) ≡ false → at + 1 ≤ position_or_len test writers
behind test writers at d inside up fails = elim (cases_eq at (position_or_len test writers)) [
  | inl same ↦ absurd (false≢true (sym fails ∙ ap (λ at. test (get_or writers at d)) same
      ∙ passes_at_first test writers d (omega (arith, same, inside))))
  | inr apart ↦ omega (arith, up, apart)
]

-- of those whom two tests tell alike it is the same
alike : (test other : Writer → Bool) (writers : List Writer)
    → All (λ writer. test writer ≡ other writer) writers → position_or_len test writers ≡ position_or_len other writers
alike test other writers same =
    position_or_len_is test writers (position_or_len other writers) someone (up_to_end other writers)
    (λ k below. same k someone (omega (arith, below, up_to_end other writers)) ∙ fails_before_first other writers k someone below)
    (λ inside. same (position_or_len other writers) someone inside ∙ passes_at_first other writers someone inside)

-- ---- as one node turns

-- what wants but for the node comes first, or it is the node
the_node : (wants : ℕ → Bool) (node variable : ℕ) (writers : List Writer)
    → place_wanting wants writers variable < place_wanting (but_for node wants) writers variable
    → is_node node (get_or writers (place_wanting wants writers variable) someone) ≡ true
the_node wants node variable writers before =
    let first : Writer = get_or writers (place_wanting wants writers variable) someone in
    let both = and_parts (nat_eq first.variable variable) (wants first.node)
    (passes_at_first (is_wanting wants variable) writers someone
    (omega (arith, before, up_to_end (is_wanting (but_for node wants) variable) writers))) in
    elim (cases_Bool (is_node node first)) [
      | inl is ↦ is
      | inr other ↦ absurd (false≢true
          (sym (fails_before_first (is_wanting (but_for node wants) variable) writers (place_wanting wants writers variable) someone before)
          ∙ and_from (nat_eq first.variable variable) (but_for node wants first.node) both.0
          (and_from (wants first.node) (not (is_node node first)) both.1 (ap not other))))
    ]

module _ (wants : ℕ → Bool) (node variable : ℕ) (writers : List Writer) (from : ℕ)
    (others : from ≤ place_wanting (but_for node wants) writers variable) where
  -- no writer before the node's place is the node
  pub coming : from ≤ position_or_len (is_node node) writers → from ≤ place_wanting wants writers variable
  coming up = elim (cases_lt (place_wanting wants writers variable) from) [
    | inl below ↦ absurd (false≢true
        (sym (fails_before_first (is_node node) writers (place_wanting wants writers variable) someone (omega (arith, below, up)))
        ∙ the_node wants node variable writers (omega (arith, below, others))))
    | inr above ↦ above
  ]

  -- the node doesn't want
  pub leaving : wants node ≡ false → from ≤ place_wanting wants writers variable
  leaving stays = elim (cases_lt (place_wanting wants writers variable) from) [
    | inl below ↦
        let first : Writer = get_or writers (place_wanting wants writers variable) someone in
        let it : first.node ≡ node = eqb-true first.node node (the_node wants node variable writers (omega (arith, below, others))) in
        let both = and_parts (nat_eq first.variable variable) (wants first.node)
        (passes_at_first (is_wanting wants variable) writers someone
        (omega (arith, below, others, up_to_end (is_wanting (but_for node wants) variable) writers))) in
        absurd (false≢true (sym stays ∙ ap wants (sym it) ∙ both.1))
    | inr above ↦ above
  ]

-- nobody of the variable wants
pub nobody_first : (wanting : TallyData) (variable : ℕ) (writers : List Writer) → OfGroups wanting.group_of writers
    → CountsNobody wanting variable → place_wanting (is_counted wanting) writers variable ≡ length writers
nobody_first wanting variable writers groups nobody =
    position_or_len_is (is_wanting (is_counted wanting) variable) writers (length writers) someone (omega arith)
    (λ k below.
    let writer : Writer = get_or writers k someone in
    false_from_ne_true (is_wanting (is_counted wanting) variable writer) (λ is.
    let both = and_parts (nat_eq writer.variable variable) (is_counted wanting writer.node) is in
    false≢true (sym (nobody writer.node (groups k someone below ∙ ap Some (eqb-true writer.variable variable both.0))) ∙ both.1)))
    (λ inside. absurd (omega (arith, inside)))

module _ (wanting : TallyData) (node : ℕ) (wants : Bool) where
  abbrev now : ℕ → Bool
  now = is_counted (marked wanting node wants)

  other_as_before : (other : ℕ) → other ≢ node → now other ≡ is_counted wanting other
  other_as_before other apart = get_or-set_other wanting.counting node other wants false apart

  -- none but the node comes before the place as it was
  pub but_it : (writers : List Writer) (variable : ℕ)
      → place_wanting (is_counted wanting) writers variable ≤ place_wanting (but_for node now) writers variable
  but_it writers variable = elim (cases_lt (place_wanting (but_for node now) writers variable) (length writers)) [
    | inl inside ↦
        let first : Writer = get_or writers (place_wanting (but_for node now) writers variable) someone in
        let both = and_parts (nat_eq first.variable variable) (but_for node now first.node)
        (passes_at_first (is_wanting (but_for node now) variable) writers someone inside) in
        let rest = and_parts (now first.node) (not (nat_eq first.node node)) both.1 in
        not_behind (is_wanting (is_counted wanting) variable) writers (place_wanting (but_for node now) writers variable) someone
        (and_from (nat_eq first.variable variable) (is_counted wanting first.node) both.0
        (sym (other_as_before first.node (λ same. false≢true (sym (ap not (eq-eqb first.node node same)) ∙ rest.1))) ∙ rest.0))
    | inr past ↦ omega (arith, past, up_to_end (is_wanting (is_counted wanting) variable) writers)
  ]

  module _ (writers : List Writer) (groups : OfGroups wanting.group_of writers) where
    -- no writer of another variable is the node
    elsewhere : (variable : ℕ) → get_or wanting.group_of node None ≢ Some variable
        → place_wanting now writers variable ≡ place_wanting (is_counted wanting) writers variable
    elsewhere variable apart =
        alike (is_wanting now variable) (is_wanting (is_counted wanting) variable) writers (λ k d inside.
        let writer : Writer = get_or writers k d in
        elim (cases_eq writer.variable variable) [
          | inl own ↦ ap (λ is. nat_eq writer.variable variable && is) (other_as_before writer.node (λ same.
              apart (ap (λ node. get_or wanting.group_of node None) (sym same) ∙ groups k d inside ∙ ap Some own)))
          | inr other ↦ rw (ne_eqb writer.variable variable other) refl
        ])

    module _ (places : List ℕ) (kept : HoldsFirsts wanting writers places) where
      pub firsts_then : (variable : ℕ) → get_or wanting.group_of node None ≡ Some variable → variable < length places
          → HoldsFirsts (marked wanting node wants) writers (set places variable (place_wanting now writers variable))
      firsts_then variable of inside other = elim (cases_eq other variable) [
        | inl same ↦ ap (λ other. get_or (set places variable (place_wanting now writers variable)) other (length writers)) same
            ∙ get_or-set_same places variable (place_wanting now writers variable) (length writers) inside
            ∙ ap (place_wanting now writers) (sym same)
        | inr apart ↦ get_or-set_other places variable other (place_wanting now writers variable) (length writers) apart
            ∙ kept other
            ∙ sym (elsewhere other (λ is. apart (same_Some other variable (sym is ∙ of))))
      ]

      pub firsts_alone : get_or wanting.group_of node None ≡ None → HoldsFirsts (marked wanting node wants) writers places
      firsts_alone none other = kept other ∙ sym (elsewhere other (λ is. none-some other (sym none ∙ is)))

-- ---- in a table

-- nobody wants anything
pub none_first : (groups : ℕ) (variables : List (Option ℕ)) (writers : List Writer) → OfGroups variables writers
    → (count : ℕ) → HoldsFirsts (nobody groups variables) writers (replicate count (length writers))
none_first groups variables writers of count variable =
    replicate-same count variable (length writers)
    ∙ sym (nobody_first (nobody groups variables) variable writers of
    (λ node _. replicate-same (length variables) node false))

-- the writer at a variable's place is the first that wants it
pub first_found : (wanting : TallyData) (writers : List Writer) (places : List ℕ) → HoldsFirsts wanting writers places
    → (variable : ℕ) → first_at places writers variable ≡ first_wanting (is_counted wanting) writers variable
first_found wanting writers places kept variable =
    ap (λ place. option_map (λ (writer : Writer). writer.node) (slice_get writers place)) (kept variable)
    ∙ sym (ap (option_map (λ (writer : Writer). writer.node)) (find_at (is_wanting (is_counted wanting) variable) writers))
