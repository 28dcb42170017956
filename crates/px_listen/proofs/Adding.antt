-- A pair is added: a watcher stands behind the others of a source.
use Rattle.std.proofs.Common.{◌≡◌, ◌≢◌, ℕ, ◌+◌, ◌<◌, ◌≤◌, true, false, nat_eq, max, List, [], ◌∷◌, ◌++◌, length, map, set, get_or, Some, None, is_none, All, AllPairs, refl, ap, sym, ◌∙◌, arith, inl, inr, subst, length-append}
use Rattle.std.specs.Prelude.{if◌then◌else◌}
use Rattle.std.specs.Cmp.{nat_eq_equiv}
use Rattle.std.specs.List.{position}
use Rattle.std.proofs.lemmas.Bool.{cases_lt, eq-eqb}
use Rattle.std.proofs.lemmas.Bool.Decides.{eqb_tells}
use Rattle.std.proofs.lemmas.List.{get_or_append_left, get_or_default, get_or-set_same, get_or-set_other, length-map, length-set, map-append, map-set}
use Rattle.std.proofs.lemmas.List.Elements.{All-push, All-set, All-weaker}
use Rattle.std.proofs.lemmas.List.Folds.{list_any_at, list_any_none}
use Rattle.std.proofs.lemmas.List.Sums.{sum_by-set}
use Rattle.std.proofs.Math.ListN.{get_or-map}
use Rattle.std.proofs.Math.Seq.{get_or-append_seam}
use Rattle.px_value.proofs.General.{map-same, nowhere, once_push, read_anywhere}
use Rattle.px_links.specs.Links.{LinksData, HoldsOthersAsBefore, holder_of, is_absent, pushed}
use Rattle.px_links.specs.Lists.{has, nth}
use Rattle.px_listen.specs.Keeping.{ArePairs, listening}
use Rattle.px_listen.specs.Listening.{ListenData, AreSound, dependents_of, is_dependent, pairs_of, with_dependent}
use Rattle.px_listen.specs.Walking.{watchers_in}

-- where the cell has no holder, no list has it
none-has : (lists : List (List ℕ)) (cell : ℕ) → position (λ list. has list cell) lists ≡ None
    → (list : ℕ) → has (nth lists list) cell ≡ false
none-has lists cell none list =
    read_anywhere (λ list. has list cell ≡ false) lists list []
    (λ k d within. nowhere (λ list. has list cell) lists k d none within) refl

-- a watcher more leaves those of the cells before
same-watchers : (watcher_of : List ℕ) (watcher : ℕ) (cells : List ℕ) → All (λ cell. cell < length watcher_of) cells
    → watchers_in (watcher_of ++ watcher ∷ []) cells ≡ watchers_in watcher_of cells
same-watchers watcher_of watcher cells below =
    map-same (λ cell. get_or (watcher_of ++ watcher ∷ []) cell 0) (λ cell. get_or watcher_of cell 0) cells
    (λ k d within. get_or_append_left watcher_of (watcher ∷ []) 0 (get_or cells k d) (below k d within))

all-same : (watcher_of : List ℕ) (watcher : ℕ) (lists : List (List ℕ)) → All (All (λ cell. cell < length watcher_of)) lists
    → map (watchers_in (watcher_of ++ watcher ∷ [])) lists ≡ map (watchers_in watcher_of) lists
all-same watcher_of watcher lists below =
    map-same (watchers_in (watcher_of ++ watcher ∷ [])) (watchers_in watcher_of) lists
    (λ k d within. same-watchers watcher_of watcher (get_or lists k d) (below k d within))

-- with one more there is one pair more
pub pairs-more : (listeners : ListenData) (source watcher : ℕ) → source < length listeners.dependents
    → pairs_of (with_dependent listeners source watcher) ≡ pairs_of listeners + 1
pairs-more listeners source watcher there = omega (
  arith,
  length-append (dependents_of listeners source) (watcher ∷ []),
  sum_by-set (λ (list : List ℕ). length list) listeners.dependents source (dependents_of listeners source ++ watcher ∷ []) [] there,
)

module _ (watchers : ℕ) (links : LinksData) (watcher_of bounds : List ℕ) (kept : ArePairs watchers links watcher_of bounds)
    (source watcher : ℕ) where
  abbrev before : List ℕ
  before = dependents_of (listening watchers links watcher_of) source

  -- the next cell is in no list
  pub absent : is_absent links (length watcher_of) ≡ true
  absent = ap is_none (kept.unused (length watcher_of) (omega arith))

  -- cells in lists are below those that aren't used
  below_nth : (list : ℕ) → All (λ cell. cell < length watcher_of) (nth links.lists list)
  below_nth list k d within = elim (cases_lt (get_or (nth links.lists list) k d) (length watcher_of)) [
    | inl below ↦ below
    | inr past ↦
        let cell : ℕ = get_or (nth links.lists list) k d in
        absurd (cc (sym (none-has links.lists cell (kept.unused cell past) list)
        ∙ list_any_at (nat_eq cell) (nth links.lists list) k d within (eq-eqb cell cell refl)))
  ]

  below_used : All (All (λ cell. cell < length watcher_of)) links.lists
  below_used = λ list e there. subst (All (λ cell. cell < length watcher_of)) (get_or_default links.lists list [] e there)
      (below_nth list)

  watchers-then : watchers_in (watcher_of ++ watcher ∷ []) (nth links.lists source ++ length watcher_of ∷ [])
      ≡ before ++ watcher ∷ []
  watchers-then =
      let same : map (λ cell. get_or (watcher_of ++ watcher ∷ []) cell 0) (nth links.lists source) ≡ before =
      same-watchers watcher_of watcher (nth links.lists source) (below_nth source)
      ∙ sym (get_or-map (watchers_in watcher_of) links.lists source []) in
      map-append (λ cell. get_or (watcher_of ++ watcher ∷ []) cell 0) (nth links.lists source) (length watcher_of ∷ [])
      ∙ (λ i. same i ++ get_or-append_seam watcher_of watcher [] 0 i ∷ [])

  -- the pair is there, and the others as before
  pub listening-then : source < length links.lists
      → listening watchers (pushed links source (length watcher_of)) (watcher_of ++ watcher ∷ [])
      ≡ with_dependent (listening watchers links watcher_of) source watcher
  listening-then there = λ i. record {
    watchers = watchers;
    room = links.cells;
    dependents = (map-set (watchers_in (watcher_of ++ watcher ∷ [])) links.lists source (nth links.lists source ++ length watcher_of ∷ [])
        ∙ (λ j. set (all-same watcher_of watcher links.lists below_used j) source (watchers-then j))) i;
  }

  -- a watcher above the bound is not there
  pub above-bound : (bound : ℕ) → get_or bounds source 0 ≡ bound → bound ≤ watcher
      → is_dependent (listening watchers links watcher_of) source watcher ≡ false
  above-bound bound is above = list_any_none (nat_eq watcher) before (λ k d within. elim (eqb_tells watcher (get_or before k d)) [
    | inl same ↦ absurd (omega (arith, above, is, same.1, kept.below source k d within))
    | inr apart ↦ apart.0
  ])

  module _ (there : source < length links.lists) (small : watcher < watchers)
      (few : pairs_of (listening watchers links watcher_of) < links.cells)
      (new : is_dependent (listening watchers links watcher_of) source watcher ≡ false) where
    abbrev listeners : ListenData
    listeners = listening watchers links watcher_of

    as_many : source < length listeners.dependents
    as_many = omega (arith, there, length-map links.lists (watchers_in watcher_of))

    pairs-then : pairs_of (with_dependent listeners source watcher) ≡ length watcher_of + 1
    pairs-then = pairs-more listeners source watcher as_many ∙ ap (λ pairs. pairs + 1) kept.pairs

    -- what holds of the listeners holds of them with the pair
    sound-then : AreSound (with_dependent listeners source watcher)
    sound-then = record {
      within = All-set (All (λ watcher. watcher < watchers)) listeners.dependents source (before ++ watcher ∷ [])
          (All-push (λ watcher. watcher < watchers) before watcher (kept.sound.within source [] as_many) small)
          kept.sound.within;
      once = All-set (AllPairs (λ a b. a ≢ b)) listeners.dependents source (before ++ watcher ∷ [])
          (once_push nat_eq nat_eq_equiv.refl before watcher new (kept.sound.once source [] as_many))
          kept.sound.once;
      few = omega (arith, pairs-then, few, kept.pairs);
    }

    -- the bound of the source is above the watcher too
    below-then : (bound : ℕ) → bound ≡ max (get_or bounds source 0) (watcher + 1) → (other : ℕ)
        → All (λ watcher. watcher < get_or (set bounds source bound) other 0)
        (dependents_of (with_dependent listeners source watcher) other)
    below-then bound is other = elim (eqb_tells source other) [
      | inl same ↦ subst (λ other. All (λ watcher. watcher < get_or (set bounds source bound) other 0)
          (dependents_of (with_dependent listeners source watcher) other)) same.1
          (rw (
            get_or-set_same bounds source bound 0 (omega (arith, there, kept.bounded)),
            get_or-set_same listeners.dependents source (before ++ watcher ∷ []) [] as_many,
          )
          (All-push (λ watcher. watcher < bound) before watcher
          (All-weaker (λ watcher. watcher < get_or bounds source 0) (λ watcher. watcher < bound)
          (λ x below. omega (arith, below, is)) before (kept.below source)) (omega (arith, is))))
      | inr apart ↦
          rw (
            get_or-set_other bounds source other bound 0 (λ same. apart.1 (sym same)),
            get_or-set_other listeners.dependents source other (before ++ watcher ∷ []) [] (λ same. apart.1 (sym same)),
          )
          (kept.below other)
    ]

    -- and so the table keeps what it has to
    pub kept-then : (holders : HoldsOthersAsBefore links (pushed links source (length watcher_of)) (length watcher_of) (Some source))
        (bound : ℕ) → bound ≡ max (get_or bounds source 0) (watcher + 1)
        → ArePairs watchers (pushed links source (length watcher_of)) (watcher_of ++ watcher ∷ []) (set bounds source bound)
    kept-then holders bound is = record {
      sound = subst AreSound (sym (listening-then there)) sound-then;
      pairs = ap pairs_of (listening-then there) ∙ omega (arith, pairs-then, length-append watcher_of (watcher ∷ []));
      unused = λ cell past. holders cell ∙ elim (eqb_tells (length watcher_of) cell) [
        | inl same ↦ absurd (omega (arith, same.1, past, length-append watcher_of (watcher ∷ [])))
        | inr apart ↦ rw (apart.0) (kept.unused cell (omega (arith, past, length-append watcher_of (watcher ∷ []))))
      ];
      bounded = length-set bounds source bound ∙ kept.bounded ∙ sym (length-set links.lists source _);
      below = λ other. subst (λ listeners. All (λ watcher. watcher < get_or (set bounds source bound) other 0)
          (dependents_of listeners other)) (sym (listening-then there)) (below-then bound is other);
    }

    -- the same of what the calls of `add` leave
    pub added : (at : ℕ) (later : LinksData) (cells : List ℕ) (bound : ℕ) → at ≡ length watcher_of
        → later ≡ (if is_absent links at then pushed links source at else links)
        → HoldsOthersAsBefore links later at (if is_absent links at then Some source else holder_of links at)
        → cells ≡ watcher_of ++ watcher ∷ [] → bound ≡ max (get_or bounds source 0) (watcher + 1)
        → ArePairs watchers later cells (set bounds source bound)
        × (listening watchers later cells ≡ with_dependent listeners source watcher)
    added at later cells bound next is holders more highest =
        let then_links : later ≡ pushed links source (length watcher_of) =
        is ∙ ap (λ at. if is_absent links at then pushed links source at else links) next
        ∙ ap (λ b. if b then pushed links source (length watcher_of) else links) absent in
        let then_holders : HoldsOthersAsBefore links (pushed links source (length watcher_of)) (length watcher_of) (Some source) =
        λ other. ap (λ (links : LinksData). holder_of links other) (sym then_links) ∙ holders other
        ∙ ap (λ at. if nat_eq at other then (if is_absent links at then Some source else holder_of links at)
        else holder_of links other) next
        ∙ ap (λ b. if nat_eq (length watcher_of) other then (if b then Some source else holder_of links (length watcher_of))
        else holder_of links other) absent in
        rw (then_links, more) (kept-then then_holders bound highest, listening-then there)
