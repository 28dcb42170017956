-- Readers one after another, and listeners to which they are added.
use Rattle.std.specs.List.{list_any}
use Rattle.std.proofs.Common.{◌≡◌, ℕ, ◌+◌, ◌<◌, ◌≤◌, Bool, true, false, ◌||◌, nat_eq, List, [], ◌∷◌, ◌++◌, length, get_or, refl, ap, sym, ◌∙◌, subst, arith, inl, inr, ◌⊎◌, All, Contains, if◌then◌else◌}
use Rattle.std.proofs.lemmas.Bool.{cases_lt, eq-eqb, or_left, or_right}
use Rattle.std.proofs.lemmas.Bool.Decides.{eqb_tells}
use Rattle.std.proofs.lemmas.List.{get_or-set_same, get_or-set_other, length-set}
use Rattle.std.proofs.lemmas.List.Elements.{All-append, All-contains, All-contains_itself, All-map, All-nil, All-push, Contains-append_left, Contains-append_right}
use Rattle.std.proofs.lemmas.List.Folds.{list_any-append, list_any_at}
use Rattle.px_value.proofs.General.{All-unmap, list_any-push}
use Rattle.px_core.specs.Plan.{Site}
use Rattle.px_flat.specs.Layout.{all_cells, state_cell, outcome_cell, failure_cell, handle_cell, acknowledgement_cell}
use Rattle.px_flat.specs.Lookups.{lookups_of}
use Rattle.px_flat.specs.Numbered.{Numbered, EachNumbered, NoneNumbered, MoreNumbered, Literal, Variable, Element, StateOf, OutcomeOf, FailureOf, HandleOf, Acknowledged, Look, Unary, Binary}
use Rattle.px_flat.specs.NumberedData.{expr_data}
use Rattle.px_flat.specs.Sources.{Source, Cells, Reports, sources_in, sources_in_each}
use Rattle.px_flat.specs.Within.{IsWithin, AreWithin}
use Rattle.px_listen.specs.Listening.{ListenData, dependents_of, is_dependent, pairs_of, with_dependent}
use Rattle.px_listen.proofs.Adding.{pairs-more}
use Rattle.px_cached.specs.declared.part.Part.{Part}
use Rattle.px_cached.specs.declared.part.Part.TheVariants as parts
use Rattle.px_cached.specs.declared.reading.Reader.{Reader}
use Rattle.px_cached.specs.Conditions.{all_sources, has_source, source_number}
use Rattle.px_cached.specs.Laying.{IsRead}
use Rattle.px_cached.specs.Network.{part_at}
use Rattle.px_cached.specs.Reading.{AreListening, AreReadersBelow, reader_of, readers_of, sources_at}
use Rattle.px_cached.proofs.Reported.{report_there}

-- ---- the sources of what lies within the tables have numbers among those of sources

module _ (plan : List Site) where
  -- a cell of the plan comes first in it, or its lookup name is one of the plan's
  abbrev pub IsThere : Source → Type 0
  IsThere (Cells first size) = first < all_cells plan
  IsThere (Reports lookup tolerance) = lookup < length (lookups_of plan)

  pub number_there : (source : Source) → IsThere source → source_number plan source < all_sources plan
  number_there (Cells first size) there = omega (arith, there)
  number_there (Reports lookup tolerance) there = report_there plan lookup tolerance there

  one : (source : Source) → IsThere source → All IsThere (source ∷ [])
  one source there = All-push IsThere [] source (All-nil IsThere) there

  mutual
    pub sources_there : (expr : Numbered) → IsWithin plan expr → All IsThere (sources_in plan expr)
    sources_there (Literal value) within = All-nil IsThere
    sources_there (Variable cell) within = one (Cells cell 1) (omega (arith, within))
    sources_there (Element first size index) within =
        All-append IsThere (Cells first size ∷ []) (sources_in plan index)
        (one (Cells first size) (omega (arith, within.0.some, within.0.within))) (sources_there index within.1)
    sources_there (StateOf node) within = one (Cells (state_cell plan node) 1) (omega (arith, within))
    sources_there (OutcomeOf node) within = one (Cells (outcome_cell plan node) 1) (omega (arith, within))
    sources_there (FailureOf node) within = one (Cells (failure_cell plan node) 1) (omega (arith, within))
    sources_there (HandleOf node) within = one (Cells (handle_cell plan node) 1) (omega (arith, within))
    sources_there (Acknowledged node) within = one (Cells (acknowledgement_cell plan node) 1) (omega (arith, within))
    sources_there (Look lookup args tolerance) within =
        All-append IsThere (Reports lookup tolerance ∷ []) (sources_in_each plan args)
        (one (Reports lookup tolerance) within.0) (each_there args within.1)
    sources_there (Unary op arg) within = sources_there arg within
    sources_there (Binary op left right) within =
        All-append IsThere (sources_in plan left) (sources_in plan right)
        (sources_there left within.0) (sources_there right within.1)

    each_there : (args : EachNumbered) → AreWithin plan args → All IsThere (sources_in_each plan args)
    each_there NoneNumbered within = All-nil IsThere
    each_there (MoreNumbered first rest) within =
        All-append IsThere (sources_in plan first) (sources_in_each plan rest)
        (sources_there first within.0) (each_there rest within.1)

  part_there : (part : Part) → IsRead plan part → All IsThere (sources_at plan part)
  part_there (parts.Whole expr) read = sources_there (expr_data expr) read.0
  part_there (parts.Joined joint left right) read = All-nil IsThere

-- ---- the readers of one part more

among_back : (plan : List Site) (part : ℕ) (some : List Reader) (sources : List Source)
    → All (λ source. Contains (some ++ readers_of plan part sources) (reader_of plan part source)) sources
among_back plan part some sources =
    All-unmap (Contains (some ++ readers_of plan part sources)) (reader_of plan part) sources
    (λ k d inside. Contains-append_right some (readers_of plan part sources) (get_or (readers_of plan part sources) k d)
    (All-contains_itself (readers_of plan part sources) k d inside))

module _ (plan : List Site) (network : List Part) where
  abbrev IsFine : Reader → Type 0
  IsFine reader = (reader.source < all_sources plan) × (reader.part < length network)

  abbrev IsOfPart : Reader → Type 0
  IsOfPart reader = has_source plan reader.source (sources_at plan (part_at network reader.part)) ≡ true

  pub more_below : (readers : List Reader) (part : ℕ) → part < length network → IsRead plan (part_at network part)
      → AreReadersBelow plan network readers part
      → AreReadersBelow plan network (readers ++ readers_of plan part (sources_at plan (part_at network part))) (part + 1)
  more_below readers part there read before = let sources : List Source = sources_at plan (part_at network part) in record {
    each = λ other below. elim (cases_lt other part) [
      | inl sooner ↦ (λ k d inside. Contains-append_left readers (readers_of plan part sources)
          (reader_of plan other (get_or (sources_at plan (part_at network other)) k d)) (before.each other sooner k d inside))
      | inr now ↦
          let last : other ≡ part = omega (arith, now, below) in
          subst (λ other. All (λ source. Contains (readers ++ readers_of plan part sources) (reader_of plan other source))
          (sources_at plan (part_at network other))) (sym last) (among_back plan part readers sources)
    ];
    within = All-append IsFine readers (readers_of plan part sources) before.within
        (All-map IsFine (reader_of plan part) sources
        (λ k d inside. (number_there plan (get_or sources k d) (part_there plan (part_at network part) read k d inside), there)));
    only = All-append IsOfPart readers (readers_of plan part sources) before.only
        (All-map IsOfPart (reader_of plan part) sources (λ k d inside.
        list_any_at (λ source. nat_eq (source_number plan (get_or sources k d)) (source_number plan source)) sources k d inside
        (eq-eqb (source_number plan (get_or sources k d)) (source_number plan (get_or sources k d)) refl)));
  }

-- ---- one pair more

module _ (listeners : ListenData) (source watcher : ℕ) (there : source < length listeners.dependents) where
  abbrev dependents : List ℕ
  dependents = dependents_of listeners source

  abbrev added : ListenData
  added = with_dependent listeners source watcher

  dependents_here : dependents_of added source ≡ dependents ++ watcher ∷ []
  dependents_here = get_or-set_same listeners.dependents source (dependents ++ watcher ∷ []) [] there

  depends_now : is_dependent added source watcher ≡ true
  depends_now = ap (list_any (nat_eq watcher)) dependents_here ∙ list_any-append (nat_eq watcher) dependents (watcher ∷ [])
      ∙ or_right (list_any (nat_eq watcher) dependents) (list_any (nat_eq watcher) (watcher ∷ []))
      (or_left (nat_eq watcher watcher) false (eq-eqb watcher watcher refl))

  depends_still : (other_source other : ℕ) → is_dependent listeners other_source other ≡ true
      → is_dependent added other_source other ≡ true
  depends_still other_source other depends = elim (eqb_tells other_source source) [
    | inl same ↦ subst (λ other_source. is_dependent added other_source other ≡ true) (sym same.1)
        (ap (list_any (nat_eq other)) dependents_here ∙ list_any-append (nat_eq other) dependents (watcher ∷ [])
        ∙ or_left (list_any (nat_eq other) dependents) (list_any (nat_eq other) (watcher ∷ []))
        (ap (λ source. is_dependent listeners source other) (sym same.1) ∙ depends))
    | inr apart ↦
        ap (list_any (nat_eq other))
        (get_or-set_other listeners.dependents source other_source (dependents ++ watcher ∷ []) [] apart.1)
        ∙ depends
  ]

  -- there is no other pair
  depended : (other_source other : ℕ) → is_dependent added other_source other ≡ true
      → ((other_source ≡ source) × (other ≡ watcher)) ⊎ (is_dependent listeners other_source other ≡ true)
  depended other_source other depends = elim (eqb_tells other_source source) [
    | inr apart ↦ inr (sym (ap (list_any (nat_eq other))
        (get_or-set_other listeners.dependents source other_source (dependents ++ watcher ∷ []) [] apart.1)) ∙ depends)
    | inl same ↦ elim (eqb_tells other watcher) [
      | inl is ↦ inl (same.1, is.1)
      | inr apart ↦ inr (
          ap (λ source. is_dependent listeners source other) same.1
          ∙ sym (
          list_any-push (nat_eq other) dependents watcher ∙ ap (λ last. last || list_any (nat_eq other) dependents) apart.0
          )
          ∙ sym (ap (list_any (nat_eq other)) dependents_here)
          ∙ sym (ap (λ source. is_dependent added source other) same.1) ∙ depends
          )
    ]
  ]

-- the first so many readers are added
pub record AreAdded (source_count part_count : ℕ) (readers : List Reader) (listeners : ListenData) (count : ℕ) : Type 0 where
  pub sources : length listeners.dependents ≡ source_count
  pub watchers : listeners.watchers ≡ part_count
  pub room : listeners.room ≡ length readers
  pub few : pairs_of listeners ≤ count
  pub each : (at : ℕ) (d : Reader) → at < count
      → is_dependent listeners (get_or readers at d).source (get_or readers at d).part ≡ true
  pub only : (source part : ℕ) → is_dependent listeners source part ≡ true
      → Contains readers (record { source = source; part = part })

module _ (sources watchers : ℕ) (readers : List Reader) (listeners : ListenData) (count : ℕ) (inside : count < length readers)
    (added_so_far : AreAdded sources watchers readers listeners count) (reader : Reader)
    (is : (d : Reader) → get_or readers count d ≡ reader) (there : reader.source < sources) where
  in_range : reader.source < length listeners.dependents
  in_range = omega (arith, there, added_so_far.sources)

  added_then : (b : Bool) → is_dependent listeners reader.source reader.part ≡ b
      → AreAdded sources watchers readers
      (if b then listeners else with_dependent listeners reader.source reader.part) (count + 1)
  added_then true depends = record {
    sources = added_so_far.sources;
    watchers = added_so_far.watchers;
    room = added_so_far.room;
    few = omega (arith, added_so_far.few);
    each = λ at d below. elim (cases_lt at count) [
      | inl sooner ↦ added_so_far.each at d sooner
      | inr now ↦
          let last : at ≡ count = omega (arith, now, below) in
          ap (λ (reader : Reader). is_dependent listeners reader.source reader.part)
          (ap (λ at. get_or readers at d) last ∙ is d) ∙ depends
    ];
    only = added_so_far.only;
  }
  added_then false depends = record {
    sources = length-set listeners.dependents reader.source (dependents_of listeners reader.source ++ reader.part ∷ []) ∙ added_so_far.sources;
    watchers = added_so_far.watchers;
    room = added_so_far.room;
    few = omega (arith, added_so_far.few, pairs-more listeners reader.source reader.part in_range);
    each = λ at d below. elim (cases_lt at count) [
      | inl sooner ↦ depends_still listeners reader.source reader.part in_range (get_or readers at d).source
          (get_or readers at d).part (added_so_far.each at d sooner)
      | inr now ↦
          let last : at ≡ count = omega (arith, now, below) in
          ap (λ (other : Reader). is_dependent (with_dependent listeners reader.source reader.part) other.source other.part)
          (ap (λ at. get_or readers at d) last ∙ is d)
          ∙ depends_now listeners reader.source reader.part in_range
    ];
    only = λ source part depends_then. elim (depended listeners reader.source reader.part in_range source part depends_then) [
      | inr before ↦ added_so_far.only source part before
      | inl now ↦
          let same : reader ≡ record { source = source; part = part } =
          (λ i. record { source = sym now.0 i; part = sym now.1 i }) in
          (count, inside, is (record { source = source; part = part }) ∙ same)
    ];
  }

  pub one_added : AreAdded sources watchers readers
      (if is_dependent listeners reader.source reader.part then listeners
      else with_dependent listeners reader.source reader.part) (count + 1)
  one_added = added_then (is_dependent listeners reader.source reader.part) refl

-- all are: each part listens to each of its sources
pub all_added : (plan : List Site) (network : List Part) (readers : List Reader) (listeners : ListenData)
    → AreReadersBelow plan network readers (length network)
    → AreAdded (all_sources plan) (length network) readers listeners (length readers)
    → AreListening plan network listeners
all_added plan network readers listeners below added = record {
  sources = added.sources;
  watchers = added.watchers;
  each = λ part there k d inside.
      let at = below.each part there k d inside in
      let reader : Reader = reader_of plan part (get_or (sources_at plan (part_at network part)) k d) in
      ap (λ (reader : Reader). is_dependent listeners reader.source reader.part) (sym at.2) ∙ added.each at.0 reader at.1;
  only = λ source part depends.
      All-contains (IsOfPart plan network) readers (record { source = source; part = part }) below.only (added.only source part depends);
}
