-- The queue's two lists.
use Rattle.std.proofs.Common.{◌≡◌, ◌≢◌, ◌⊎◌, ℕ, ◌<◌, Bool, true, false, nat_eq, List, [], ◌∷◌, ◌++◌, length, map, Contains, Option, Some, None, is_none, refl, ap, sym, ◌∙◌, subst, arith, inl, inr, if◌then◌else◌}
use Rattle.std.specs.Cmp.{nat_eq_equiv}
use Rattle.std.specs.List.{list_any}
use Rattle.std.proofs.lemmas.Bool.{cases_Bool, cases_eq, cases_lt, eqb-true, false≢true, ne_eqb, true_from_ne_false}
use Rattle.std.proofs.lemmas.List.{get_or-set_other, map-append}
use Rattle.std.proofs.lemmas.List.Elements.{Contains-append_left, Contains-append_right, Contains-push_cases}
use Rattle.std.proofs.lemmas.List.Quantifiers.{position-Some}
use Rattle.std.proofs.lemmas.Map.Views.{Contains-from_any, list_any-from_Contains}
use Rattle.px_links.specs.Links.{LinksData, HoldsOthersAsBefore, SameCounts, holder_of, is_absent, pushed}
use Rattle.px_links.specs.Lists.{has}
use Rattle.px_cached.specs.Adding.{AddsTo}
use Rattle.px_cached.proofs.OneList.{adds_both, elsewhere, holders_then, kept_here, not_both, pushed_here}
use Rattle.px_micro.specs.declared.sight.Going.{Going}
use Rattle.px_machine.specs.Queue.{FallBehind, HaveGone, HaveRested, IsBehind, IsWoken, NobodyIsBehind, NobodyIsWoken, Wakes, behind_in}

-- who waits at all waits in one of the two
pub in_one_of_two : (queue : LinksData) (node : ℕ) → length queue.lists ≡ 2 → is_absent queue node ≡ false
    → IsBehind queue node ⊎ IsWoken queue node
in_one_of_two queue node lists waits = by (holder_of queue node) refl
  where
    by : (held : Option ℕ) → holder_of queue node ≡ held → IsBehind queue node ⊎ IsWoken queue node
    by None is =
        let none : true ≡ false = ap is_none (sym is) ∙ waits in
        absurd (cc)
    by (Some list) is =
        let inside : list < length queue.lists = (position-Some (λ cells. has cells node) queue.lists list [] is).0 in
        elim (cases_lt list 1) [
          | inl below ↦
              let first : list ≡ 0 = omega (arith, below) in
              inl (is ∙ ap Some first)
          | inr not_below ↦
              let second : list ≡ 1 = omega (arith, not_below, inside, lists) in
              inr (is ∙ ap Some second)
        ]

-- who is neither behind nor woken waits nowhere
pub waits_nowhere : (queue : LinksData) (node : ℕ) → length queue.lists ≡ 2 → (IsBehind queue node → ⊥) → (IsWoken queue node → ⊥)
    → is_absent queue node ≡ true
waits_nowhere queue node lists not_behind not_woken = true_from_ne_false (is_absent queue node) (λ waits.
    elim (in_one_of_two queue node lists waits) [
      | inl behind ↦ not_behind behind
      | inr woken ↦ not_woken woken
    ])

-- who was behind is
pub still_behind : (old new : LinksData) (list node : ℕ) → AddsTo list old new → IsBehind old node → IsBehind new node
still_behind old new list node added behind = elim (added node) [
  | inl same ↦ same ∙ behind
  | inr pushed ↦ absurd (not_both old node 0 behind pushed.0)
]

-- who falls behind isn't woken
pub none_woken : (old new : LinksData) → FallBehind old new → NobodyIsWoken old → NobodyIsWoken new
none_woken old new falls nobody node woken = elim (falls.added node) [
  | inl same ↦ nobody node (sym same ∙ woken)
  | inr pushed ↦
      let lists : Some 0 ≡ Some 1 = sym pushed.1 ∙ woken in
      absurd (cc lists)
]

pub falls_both : (first middle last : LinksData) → FallBehind first middle → FallBehind middle last → FallBehind first last
falls_both first middle last one two = record {
  added = adds_both 0 first middle last one.added two.added;
  counts = (two.counts.0 ∙ one.counts.0, two.counts.1 ∙ one.counts.1);
}

pub wakes_none : (queue : LinksData) → Wakes queue queue
wakes_none queue = record { added = λ node. inl refl; behind = refl; counts = (refl, refl) }

pub wakes_both : (first middle last : LinksData) → Wakes first middle → Wakes middle last → Wakes first last
wakes_both first middle last one two = record {
  added = adds_both 1 first middle last one.added two.added;
  behind = two.behind ∙ one.behind;
  counts = (two.counts.0 ∙ one.counts.0, two.counts.1 ∙ one.counts.1);
}

-- ---- one push

-- one push into the list of those woken
pub push_wakes : (old new : LinksData) (cell : ℕ)
    → HoldsOthersAsBefore old new cell (if is_absent old cell then Some 1 else holder_of old cell)
    → new ≡ (if is_absent old cell then pushed old 1 cell else old) → SameCounts old new → Wakes old new
push_wakes old new cell holders links counts = record {
  added = holders_then old new cell 1 holders;
  behind = by (is_absent old cell) links;
  counts = counts;
}
  where
    by : (absent : Bool) → new ≡ (if absent then pushed old 1 cell else old) → behind_in new ≡ behind_in old
    by true is = ap behind_in is ∙ get_or-set_other old.lists 1 0 _ [] (λ same. absurd (omega (arith, same)))
    by false is = ap behind_in is

-- ---- those that have gone are behind

-- a number is among some, or it isn't
pub among_or_not : (numbers : List ℕ) (number : ℕ) → Contains numbers number ⊎ (Contains numbers number → ⊥)
among_or_not numbers number = elim (cases_Bool (list_any (nat_eq number) numbers)) [
  | inl is ↦ inl (Contains-from_any eqb-true number numbers is)
  | inr is ↦ inr (λ there. false≢true (sym is ∙ list_any-from_Contains nat_eq_equiv number numbers there))
]

abbrev pub nodes_of : List Going → List ℕ
nodes_of going = map (λ (one : Going). one.node) going

-- where nobody was behind, nobody waits after the rest
pub none_gone : (old new : LinksData) → HaveRested old new → NobodyIsBehind old → length old.lists ≡ 2 → HaveGone old new []
none_gone old new rested nobody lists = record {
  gone = λ node goes. absurd (omega (arith, goes.1));
  others = λ node apart. waits_nowhere new node (rested.counts.1 ∙ lists) (λ behind. elim (rested.each node) [
    | inl same ↦ nobody node (sym same ∙ behind)
    | inr was ↦ not_both new node 0 behind was.1
  ]) (rested.nobody node);
  counts = rested.counts;
}

-- whoever waits has gone, and is behind
gone_behind : (first queue : LinksData) (some : List Going) (node : ℕ) → HaveGone first queue some → is_absent queue node ≡ false
    → IsBehind queue node
gone_behind first queue some node gone waits = elim (among_or_not (nodes_of some) node) [
  | inl goes ↦ gone.gone node goes
  | inr apart ↦ absurd (false≢true (sym waits ∙ gone.others node apart))
]

module _ (first old new : LinksData) (some : List Going) (one : Going) (gone : HaveGone first old some)
    (holders : HoldsOthersAsBefore old new one.node (if is_absent old one.node then Some 0 else holder_of old one.node))
    (counts : SameCounts old new) where
  behind_now : (absent : Bool) → is_absent old one.node ≡ absent → IsBehind new one.node
  behind_now true is = pushed_here old new one.node 0 holders is
  behind_now false is = kept_here old new one.node 0 holders is ∙ gone_behind first old some one.node gone is

  pub gone_more : HaveGone first new (some ++ one ∷ [])
  gone_more = record {
    gone = λ node goes. elim (cases_eq one.node node) [
      | inl same ↦ subst (IsBehind new) same (behind_now (is_absent old one.node) refl)
      | inr apart ↦
          elsewhere old new one.node 0 holders node (ne_eqb one.node node apart)
          ∙ elim (Contains-push_cases (nodes_of some) one.node node
          (subst (λ nodes. Contains nodes node) (map-append (λ (one : Going). one.node) some (one ∷ [])) goes)) [
            | inl before ↦ gone.gone node before
            | inr this ↦ absurd (apart this)
          ]
    ];
    others = λ node apart.
        let differs : one.node ≢ node = λ same. apart (subst (λ nodes. Contains nodes node)
        (sym (map-append (λ (one : Going). one.node) some (one ∷ [])))
        (Contains-append_right (nodes_of some) (one.node ∷ []) node (0, omega arith, same))) in
        ap is_none (elsewhere old new one.node 0 holders node (ne_eqb one.node node differs))
        ∙ gone.others node (λ goes. apart (subst (λ nodes. Contains nodes node)
        (sym (map-append (λ (one : Going). one.node) some (one ∷ [])))
        (Contains-append_left (nodes_of some) (one.node ∷ []) node goes)));
    counts = (counts.0 ∙ gone.counts.0, counts.1 ∙ gone.counts.1);
  }
