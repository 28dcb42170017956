-- Who goes first of each contested variable are the winners.
use Rattle.std.proofs.Common.{◌≡◌, ◌≢◌, ℕ, suc, ◌<◌, Bool, true, false, not, ◌&&◌, ◌||◌, List, [], ◌∷◌, length, get_or, filter, Option, Some, None, is_some, refl, ap, sym, ◌∙◌, subst, arith, inl, inr, All, AllPairs}
use Rattle.std.specs.Prelude.{nat_eq}
use Rattle.std.specs.Cmp.{nat_eq_equiv}
use Rattle.std.specs.List.{list_any, range_with_len, filter_map, position}
use Rattle.std.proofs.lemmas.Bool.{and_parts, and_from, cases_Bool, cases_eq, eqb-true, eq-eqb, false_from_ne_true, false≢true, not-true, or_from, or_left, or_parts, or_right}
use Rattle.std.proofs.lemmas.List.Elements.{All-filter}
use Rattle.std.proofs.lemmas.List.Folds.{Any-from_list_any, list_any_at}
use Rattle.std.proofs.lemmas.List.FromFn.{get_or-map-range_with_len, get_or-range_with_len, length-range_with_len}
use Rattle.std.proofs.lemmas.List.Kept.{AllPairs-cons}
use Rattle.std.proofs.lemmas.List.Quantifiers.{position-Some}
use Rattle.std.proofs.lemmas.Option.{cond_some, same_Some}
use Rattle.px_value.specs.General.{is_number}
use Rattle.px_value.proofs.General.{passes_within, position_is, same_bool}
use Rattle.px_core.specs.Plan.{Site}
use Rattle.px_sem.specs.Conflicts.{would_start}
use Rattle.px_sem.specs.World.{World}
use Rattle.px_flat.specs.Row.{site_in}
use Rattle.px_flat.proofs.Known.{IsSound}
use Rattle.px_links.specs.Links.{LinksData}
use Rattle.px_links.specs.Lists.{has, nth}
use Rattle.px_links.proofs.Linking.{number_here}
use Rattle.px_tally.specs.Tally.{TallyData, is_counted, is_nobody, total}
use Rattle.px_tally.proofs.Counting.{none-count, count-none}
use Rattle.px_assign.specs.Conflicts.{variable_of, of_variable, writes, goes_before, is_kept_from, is_loser, is_loser_in, is_writer, AreWriters}
use Rattle.px_assign.proofs.Ties.{loser_alike, writes_is}
use Rattle.px_assign.proofs.Staying.{found_among, is_written, other_way}
use Rattle.px_assign.specs.Claims.{numbers_in, starts_in, wins_by}
use Rattle.px_assign.specs.Keeping.{HoldsContested, holder_for, is_contested}
use Rattle.px_assign.proofs.Variables.{IsTallyOf}
use Rattle.px_assign.specs.Ordering.{AreInOrder, first_wanting}
use Rattle.px_assign.specs.declared.order.Writer.{Writer}
use Rattle.px_assign.proofs.First.{WantsFirst, first_is}

-- ---- numbers at which something is so

-- some number that is among those passes
record SomeNumber (flags : List Bool) (test : ℕ → Bool) : Type 0 where
  number : ℕ
  inside : number < length flags
  is : get_or flags number false ≡ true
  passes : test number ≡ true

flagged_inside : (flags : List Bool) (number : ℕ) → get_or flags number false ≡ true → number < length flags
flagged_inside flags number is = passes_within (λ flag. flag) flags number false refl is

any_filtered : (test kept : ℕ → Bool) (numbers : List ℕ)
    → list_any test (filter kept numbers) ≡ list_any (λ number. kept number && test number) numbers
any_filtered test kept [] = refl
any_filtered test kept (number ∷ numbers) = by (kept number) refl (any_filtered test kept numbers)
  where
    by : (is : Bool) → kept number ≡ is
        → list_any test (filter kept numbers) ≡ list_any (λ number. kept number && test number) numbers
        → list_any test (filter kept (number ∷ numbers))
        ≡ list_any (λ number. kept number && test number) (number ∷ numbers)
    by true is rest = rw is (ap (λ others. test number || others) rest)
    by false is rest = rw is rest

some_number : (flags : List Bool) (test : ℕ → Bool) → list_any test (numbers_in flags) ≡ true → SomeNumber flags test
some_number flags test any =
    let both : ℕ → Bool = λ number. get_or flags number false && test number in
    let found = Any-from_list_any both (range_with_len 0 (length flags))
    (sym (any_filtered test (λ number. get_or flags number false) (range_with_len 0 (length flags))) ∙ any) in
    let parts = and_parts (get_or flags found.1 false) (test found.1) found.4 in
    record { number = found.1; inside = flagged_inside flags found.1 parts.0; is = parts.0; passes = parts.1 }

pub among_numbers : (flags : List Bool) (test : ℕ → Bool) (number : ℕ) → get_or flags number false ≡ true
    → test number ≡ true → list_any test (numbers_in flags) ≡ true
among_numbers flags test number is passes =
    let inside = flagged_inside flags number is in
    let at : get_or (range_with_len 0 (length flags)) number 0 ≡ number =
    get_or-range_with_len 0 (length flags) number 0 inside ∙ omega arith in
    any_filtered test (λ number. get_or flags number false) (range_with_len 0 (length flags))
    ∙ list_any_at (λ number. get_or flags number false && test number) (range_with_len 0 (length flags)) number 0
    (omega (arith, inside, length-range_with_len 0 (length flags)))
    (ap (λ number. get_or flags number false && test number) at
    ∙ and_from (get_or flags number false) (test number) is passes)

-- ---- what is found of each of a list

any_found : (found : ℕ → Option ℕ) (node : ℕ) (cells : List ℕ)
    → list_any (nat_eq node) (filter_map found cells) ≡ list_any (λ cell. is_number (found cell) node) cells
any_found found node [] = refl
any_found found node (cell ∷ cells) = by (found cell) refl (any_found found node cells)
  where
    by : (here : Option ℕ) → found cell ≡ here
        → list_any (nat_eq node) (filter_map found cells) ≡ list_any (λ cell. is_number (found cell) node) cells
        → list_any (nat_eq node) (filter_map found (cell ∷ cells))
        ≡ list_any (λ cell. is_number (found cell) node) (cell ∷ cells)
    by None is rest = rw is rest
    by (Some other) is rest = rw is (λ i. nat_eq_equiv.symm node other i || rest i)

-- what is found tells of what it was found, so nothing is found twice
found_once : (found tells : ℕ → Option ℕ) (cells : List ℕ)
    → ((cell node : ℕ) → list_any (nat_eq cell) cells ≡ true → found cell ≡ Some node → tells node ≡ Some cell)
    → AllPairs (λ a b. a ≢ b) cells → AllPairs (λ a b. a ≢ b) (filter_map found cells)
found_once found tells [] told once = λ i j d before inside. absurd (omega (arith, inside))
found_once found tells (cell ∷ cells) told once =
    by (found cell) refl
    (found_once found tells cells
    (λ other node among. told other node (or_right (nat_eq other cell) (list_any (nat_eq other) cells) among))
    (λ i j d before inside. once (suc i) (suc j) d (omega (arith, before)) (omega (arith, inside))))
  where
    by : (here : Option ℕ) → found cell ≡ here → AllPairs (λ a b. a ≢ b) (filter_map found cells)
        → AllPairs (λ a b. a ≢ b) (filter_map found (cell ∷ cells))
    by None is rest = rw is rest
    by (Some node) is rest = rw is
        (AllPairs-cons (λ a b. a ≢ b) node (filter_map found cells)
        (λ k d inside same.
        let again = Any-from_list_any (λ cell. is_number (found cell) node) cells
        (sym (any_found found node cells)
        ∙ list_any_at (nat_eq node) (filter_map found cells) k d inside (eq-eqb node (get_or (filter_map found cells) k d) same)) in
        let other : ℕ = again.1 in
        let among : list_any (nat_eq other) cells ≡ true =
        list_any_at (nat_eq other) cells again.0 other again.2 (eq-eqb other (get_or cells again.0 other) (sym again.3)) in
        let one : cell ≡ other = same_Some cell other
        (sym (told cell node (or_left (nat_eq cell cell) (list_any (nat_eq cell) cells) (nat_eq_equiv.refl cell)) is)
        ∙ told other node (or_right (nat_eq other cell) (list_any (nat_eq other) cells) among)
        (number_here (found other) node again.4)) in
        once 0 (suc again.0) other (omega arith) (omega (arith, again.2)) (one ∙ sym again.3))
        rest)

-- ---- the one list

-- a cell is in the first list just where that is its holder
held_first : (lists : List (List ℕ)) (cell : ℕ) → position (λ list. has list cell) lists ≡ Some 0
    → has (nth lists 0) cell ≡ true
held_first lists cell is = (position-Some (λ list. has list cell) lists 0 [] is).1

first_holds : (lists : List (List ℕ)) (cell : ℕ) → 0 < length lists → has (nth lists 0) cell ≡ true
    → position (λ list. has list cell) lists ≡ Some 0
first_holds lists cell some is =
    position_is (λ list. has list cell) lists 0 [] some (λ k below. absurd (omega (arith, below))) is

-- ---- winners

module _ (plan : List Site) (writers : List Writer) (are : AreInOrder plan writers) (wanting holding : TallyData)
    (wanted : IsTallyOf plan wanting) (held : IsTallyOf plan holding) (links : LinksData)
    (kept : HoldsContested wanting holding links) (some : 0 < length links.lists) where
  abbrev W : List ℕ
  W = numbers_in wanting.counting

  abbrev H : List ℕ
  H = numbers_in holding.counting

  abbrev found : ℕ → Option ℕ
  found = first_wanting (is_counted wanting) writers

  group_is : (tally : TallyData) → IsTallyOf plan tally → (node : ℕ) → node < length plan
      → get_or tally.group_of node None ≡ variable_of plan node
  group_is tally is node within = ap (λ groups. get_or groups node None) is.variables
      ∙ get_or-map-range_with_len (variable_of plan) 0 (length plan) node node None within (omega arith)

  -- where none that counts writes the variable, nobody of its group counts
  nobody_counts : (tally : TallyData) → IsTallyOf plan tally → (variable : ℕ)
      → list_any (writes plan variable) (numbers_in tally.counting) ≡ false → is_nobody tally variable ≡ true
  nobody_counts tally counts variable none = eq-eqb (total tally variable) 0
      (count-none variable tally.group_of tally.counting (λ node of.
      false_from_ne_true (get_or tally.counting node false) (λ is.
      let there : node < length plan = omega (arith, flagged_inside tally.counting node is, counts.sized) in
      false≢true (sym none ∙ among_numbers tally.counting (writes plan variable) node is
      (is_written plan variable node (sym (group_is tally counts node there) ∙ of))))))

  -- some writer of a contested variable would start
  some_wants : (variable : ℕ) → is_contested wanting holding variable ≡ true → SomeNumber wanting.counting (writes plan variable)
  some_wants variable contested = elim (cases_Bool (list_any (writes plan variable) W)) [
    | inl any ↦ some_number wanting.counting (writes plan variable) any
    | inr none ↦ absurd (false≢true (sym (ap not (nobody_counts wanting wanted variable none))
        ∙ (and_parts (not (is_nobody wanting variable)) (is_nobody holding variable) contested).0))
  ]

  -- and none is at work
  none_holds : (variable : ℕ) → is_contested wanting holding variable ≡ true → list_any (writes plan variable) H ≡ false
  none_holds variable contested = false_from_ne_true (list_any (writes plan variable) H) (λ any.
      let one = some_number holding.counting (writes plan variable) any in
      let within : one.number < length plan = omega (arith, one.inside, held.sized) in
      false≢true (sym (none-count variable holding.group_of holding.counting
      (eqb-true (total holding variable) 0
      (and_parts (not (is_nobody wanting variable)) (is_nobody holding variable) contested).1) one.number
      (group_is holding held one.number within ∙ writes_is plan variable one.number one.passes)) ∙ one.is))

  -- one of them goes first
  found_first : (variable : ℕ) → is_contested wanting holding variable ≡ true
      → (node : ℕ) × (found variable ≡ Some node) × WantsFirst plan (is_counted wanting) variable node
  found_first variable contested =
      let one = some_wants variable contested in
      first_is plan writers are (is_counted wanting) variable one.number (omega (arith, one.inside, wanted.sized))
      (writes_is plan variable one.number one.passes) one.is

  goes_first : (variable node : ℕ) → is_contested wanting holding variable ≡ true → found variable ≡ Some node
      → WantsFirst plan (is_counted wanting) variable node
  goes_first variable node contested is =
      let first = found_first variable contested in
      subst (WantsFirst plan (is_counted wanting) variable) (same_Some first.0 node (sym first.1 ∙ is)) first.2

  none_before : (variable node : ℕ) → WantsFirst plan (is_counted wanting) variable node
      → list_any (λ other. writes plan variable other && goes_before plan other node) W ≡ false
  none_before variable node first =
      false_from_ne_true (list_any (λ other. writes plan variable other && goes_before plan other node) W) (λ any.
      let one = some_number wanting.counting (λ other. writes plan variable other && goes_before plan other node) any in
      let both = and_parts (writes plan variable one.number) (goes_before plan one.number node) one.passes in
      false≢true (sym (first.before one.number (omega (arith, one.inside, wanted.sized))
      (writes_is plan variable one.number both.0) one.is) ∙ both.1))

  no_loser : (variable node : ℕ) → is_contested wanting holding variable ≡ true
      → WantsFirst plan (is_counted wanting) variable node → is_loser plan W H node ≡ false
  no_loser variable node contested first =
      ap (of_variable (is_kept_from plan W H node)) first.writes
      ∙ or_from (list_any (writes plan variable) H)
      (list_any (λ other. writes plan variable other && goes_before plan other node) W)
      (none_holds variable contested) (none_before variable node first)

  -- a variable is in the list just where it is contested
  in_list : (variable : ℕ) → has (nth links.lists 0) variable ≡ true → is_contested wanting holding variable ≡ true
  in_list variable here =
      (cond_some (is_contested wanting holding variable) 0 0 (sym (kept variable) ∙ first_holds links.lists variable some here)).0

  listed : (variable : ℕ) → is_contested wanting holding variable ≡ true → has (nth links.lists 0) variable ≡ true
  listed variable contested = held_first links.lists variable (kept variable ∙ ap holder_for contested)

  abbrev winners : List ℕ
  winners = filter_map found (nth links.lists 0)

  -- what a winner is
  record Wins (node : ℕ) : Type 0 where
    variable : ℕ
    contested : is_contested wanting holding variable ≡ true
    first : WantsFirst plan (is_counted wanting) variable node

  wins : (node : ℕ) → list_any (nat_eq node) winners ≡ true → Wins node
  wins node among =
      let at = Any-from_list_any (λ variable. is_number (found variable) node) (nth links.lists 0)
      (sym (any_found found node (nth links.lists 0)) ∙ among) in
      let variable : ℕ = at.1 in
      let contested = in_list variable (list_any_at (nat_eq variable) (nth links.lists 0) at.0 variable at.2
      (eq-eqb variable (get_or (nth links.lists 0) at.0 variable) (sym at.3))) in
      record {
        variable = variable;
        contested = contested;
        first = goes_first variable node contested (number_here (found variable) node at.4);
      }

  abbrev pub wins_here : ℕ → Bool
  wins_here node = wins_by plan wanting.counting holding.counting node

  won : (node : ℕ) → Wins node → wins_here node ≡ true
  won node win = and_from (is_counted wanting node) (is_writer plan node && not (is_loser plan W H node)) win.first.wanted
      (and_from (is_writer plan node) (not (is_loser plan W H node)) (ap is_some win.first.writes)
      (ap not (no_loser win.variable node win.contested win.first)))

  -- a winner's variable is contested, and the winner goes first
  found_winner : (node variable : ℕ) → node < length plan → is_counted wanting node ≡ true
      → variable_of plan node ≡ Some variable → is_loser plan W H node ≡ false → list_any (nat_eq node) winners ≡ true
  found_winner node variable within wants is stays =
      let free = or_parts (list_any (writes plan variable) H)
      (list_any (λ other. writes plan variable other && goes_before plan other node) W)
      (sym (ap (of_variable (is_kept_from plan W H node)) is) ∙ stays) in
      let some_one : is_nobody wanting variable ≡ false =
      false_from_ne_true (is_nobody wanting variable) (λ none.
      false≢true (sym (none-count variable wanting.group_of wanting.counting (eqb-true (total wanting variable) 0 none) node
      (group_is wanting wanted node within ∙ is)) ∙ wants)) in
      let nobody : is_nobody holding variable ≡ true = nobody_counts holding held variable free.0 in
      let contested : is_contested wanting holding variable ≡ true =
      and_from (not (is_nobody wanting variable)) (is_nobody holding variable) (ap not some_one) nobody in
      let first = found_first variable contested in
      let same : first.0 ≡ node = elim (cases_eq first.0 node) [
        | inl same ↦ same
        | inr apart ↦
            let sooner : goes_before plan first.0 node ≡ true =
            other_way plan node first.0 (first.2.before node within is wants) (λ e. apart (sym e)) in
            absurd (false≢true (sym free.1 ∙ among_numbers wanting.counting
            (λ other. writes plan variable other && goes_before plan other node) first.0 first.2.wanted
            (and_from (writes plan variable first.0) (goes_before plan first.0 node)
            (is_written plan variable first.0 first.2.writes) sooner)))
      ] in
      any_found found node (nth links.lists 0)
      ∙ found_among (λ variable. is_number (found variable) node) variable (nth links.lists 0) (listed variable contested)
      (ap (λ found. is_number found node) first.1 ∙ eq-eqb first.0 node same)

  lost : (node : ℕ) → node < length plan → wins_here node ≡ true → list_any (nat_eq node) winners ≡ true
  lost node within is =
      let both = and_parts (is_counted wanting node) (is_writer plan node && not (is_loser plan W H node)) is in
      let rest = and_parts (is_writer plan node) (not (is_loser plan W H node)) both.1 in
      by (variable_of plan node) refl rest.0 both.0 (not-true (is_loser plan W H node) rest.1)
    where
      by : (own : Option ℕ) → variable_of plan node ≡ own → is_some own ≡ true → is_counted wanting node ≡ true
          → is_loser plan W H node ≡ false → list_any (nat_eq node) winners ≡ true
      by None is writer wants stays = absurd (false≢true writer)
      by (Some variable) is writer wants stays = found_winner node variable within wants is stays

  pub once : AllPairs (λ a b. a ≢ b) (nth links.lists 0) → AllPairs (λ a b. a ≢ b) winners
  once apart = found_once found (variable_of plan) (nth links.lists 0)
      (λ variable node here is. (goes_first variable node (in_list variable here) is).writes) apart

  pub within : All (λ node. node < length plan) winners
  within k d inside =
      let node : ℕ = get_or winners k d in
      (wins node (list_any_at (nat_eq node) winners k d inside (nat_eq_equiv.refl node))).first.within

  pub each : (node : ℕ) → node < length plan → list_any (nat_eq node) winners ≡ wins_here node
  each node there = same_bool (list_any (nat_eq node) winners) (wins_here node) (λ among. won node (wins node among))
      (lost node there)

-- ---- in a world

all_numbers : (flags : List Bool) (count : ℕ) → length flags ≡ count → All (λ number. number < count) (numbers_in flags)
all_numbers flags count long =
    All-filter (λ number. get_or flags number false) (λ number. number < count) (range_with_len 0 (length flags))
    (λ k d inside.
    let below : k < length flags = omega (arith, inside, length-range_with_len 0 (length flags)) in
    omega (arith, long, below, get_or-range_with_len 0 (length flags) k d below))

pub flag_is : (flags : List Bool) (number : ℕ) → list_any (nat_eq number) (numbers_in flags) ≡ true → get_or flags number false ≡ true
flag_is flags number among =
    let one = some_number flags (nat_eq number) among in
    ap (λ number. get_or flags number false) (eqb-true number one.number one.passes) ∙ one.is

-- where wanting and holding are those of a world, the winners are the writers that start in it
module _ (plan : List Site) (wants holds : List Bool) (sound : IsSound plan) (long_wants : length wants ≡ length plan)
    (long_holds : length holds ≡ length plan) where
  abbrev loses : ℕ → Bool
  loses node = is_loser plan (numbers_in wants) (numbers_in holds) node

  module _ (world : World) (are : AreWriters plan world (numbers_in wants) (numbers_in holds)) (node : ℕ)
      (within : node < length plan) where
    alike : would_start plan world (site_in plan node) ≡ true → loses node ≡ is_loser_in plan world node
    alike start = loser_alike plan world (numbers_in wants) (numbers_in holds) node sound within
        (all_numbers wants (length plan) long_wants) (all_numbers holds (length plan) long_holds) are start

    to : wins_by plan wants holds node ≡ true → starts_in plan world node ≡ true
    to is =
        let both = and_parts (get_or wants node false) (is_writer plan node && not (loses node)) is in
        let rest = and_parts (is_writer plan node) (not (loses node)) both.1 in
        let start = are.starts node within (among_numbers wants (nat_eq node) node both.0 (nat_eq_equiv.refl node)) in
        and_from (would_start plan world (site_in plan node)) (is_writer plan node && not (is_loser_in plan world node)) start
        (and_from (is_writer plan node) (not (is_loser_in plan world node)) rest.0 (ap not (sym (alike start)) ∙ rest.1))

    from : starts_in plan world node ≡ true → wins_by plan wants holds node ≡ true
    from is =
        let both = and_parts (would_start plan world (site_in plan node))
        (is_writer plan node && not (is_loser_in plan world node)) is in
        let rest = and_parts (is_writer plan node) (not (is_loser_in plan world node)) both.1 in
        and_from (get_or wants node false) (is_writer plan node && not (loses node))
        (flag_is wants node (are.wants node within rest.0 both.0))
        (and_from (is_writer plan node) (not (loses node)) rest.0 (ap not (alike both.0) ∙ rest.1))

    pub starting : wins_by plan wants holds node ≡ starts_in plan world node
    starting = same_bool (wins_by plan wants holds node) (starts_in plan world node) to from
