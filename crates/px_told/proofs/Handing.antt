-- How far a walk down from a node has come.
use Rattle.std.proofs.Common.{◌≡◌, ℕ, ◌+◌, ◌<◌, ◌≤◌, false, List, length, set, Some, inl, inr, refl, ap, sym, ◌∙◌, subst, arith}
use Rattle.std.specs.Prelude.{if◌then◌else◌}
use Rattle.std.proofs.lemmas.Bool.{cases_lt, cases_eq, cases_order}
use Rattle.std.proofs.lemmas.List.{get_or-set_same, get_or-set_other, length-set}
use Rattle.px_links.specs.Links.{LinksData, holder_of, is_absent, pushed, HoldsOthersAsBefore, SameCounts}
use Rattle.px_told.specs.declared.asks.Asks.{Asks}
use Rattle.px_told.specs.declared.place.Place.{Place}
use Rattle.px_told.specs.Asking.{nothing, either, is_same, asks_at}
use Rattle.px_told.specs.Hearing.{HasHeard}
use Rattle.px_told.specs.Preorder.{parent_of, end_of, IsPreorder}
use Rattle.px_told.specs.Told.{asked_under, IsTold, AreAllTold, AreOthersTold}
use Rattle.px_told.proofs.Hearing.{nobody_heard, node_heard}
use Rattle.px_told.proofs.Places.{parent_before, parent_behind, parent_apart}
use Rattle.px_told.proofs.Same.{same_under}

-- before `at` each node is told what it is to be told, and from there on, and outside of the subtree, what it was
pub record IsHandedOn (tree : List Place) (own before told : List Asks) (links now : LinksData) (list node at : ℕ) : Type 0 where
  pub start : node < at
  pub long : length told ≡ length before
  pub right : (other : ℕ) → other < at → other < length tree → IsTold tree own told other
  pub still : (other : ℕ) → at ≤ other → asks_at told other ≡ asks_at before other
  pub above : (other : ℕ) → other ≤ node → asks_at told other ≡ asks_at before other
  pub past : (other : ℕ) → end_of tree node ≤ other → asks_at told other ≡ asks_at before other
  pub heard : HasHeard before told links now list

-- what a node is told stays right as it and its parent are told what they were
still_told : (tree : List Place) (own before after : List Asks) (node : ℕ) → asks_at after node ≡ asks_at before node
    → ((parent : ℕ) → parent_of tree node ≡ Some parent → asks_at after parent ≡ asks_at before parent)
    → IsTold tree own before node → IsTold tree own after node
still_told tree own before after node here above right =
    here ∙ right ∙ same_under own before own after (parent_of tree node)
    (λ parent is. ap (either (asks_at own parent)) (sym (above parent is)))

module _ (tree : List Place) (pre : IsPreorder tree) (own before : List Asks) (links : LinksData) (list node : ℕ)
    (long : length before ≡ length tree) (here : node < length tree) (there : list < length links.lists)
    (others : AreOthersTold tree own before node) where
  pub handed_start : IsHandedOn tree own before before links links list node (node + 1)
  handed_start = record {
    start = omega arith;
    long = refl;
    right = λ other ahead within. others other within (λ is.
        absurd (omega (arith, ahead, parent_before tree pre other node within is)));
    still = λ other past. refl;
    above = λ other ahead. refl;
    past = λ other past. refl;
    heard = nobody_heard before links list;
  }

  module _ (told : List Asks) (now : LinksData) (at : ℕ) (way : IsHandedOn tree own before told links now list node at)
    where
      -- behind the subtree nothing was told to anybody
      pub handed_end : end_of tree node ≤ at → AreAllTold tree own told
      handed_end ended = λ other within. elim (cases_lt other at) [
        | inl ahead ↦ way.right other ahead within
        | inr behind ↦ still_told tree own before told other (way.still other behind)
            (λ parent is. elim (parent_apart tree pre node other parent within is (omega (arith, ended, behind))).1 [
              | inl ahead ↦ way.above parent (omega (arith, ahead))
              | inr past ↦ way.past parent past
            ])
            (others other within (λ is.
            (parent_apart tree pre node other node within is (omega (arith, ended, behind))).0 refl))
      ]

      module _ (inside : at < end_of tree node) where
        within : at < length tree
        within = omega (arith, inside, (pre.ends node here).1)

        -- nothing changes below a node that is told what it was
        pub handed_past : asks_at told at ≡ asked_under own told (parent_of tree at)
            → IsHandedOn tree own before told links now list node (end_of tree at)
        handed_past same = record {
          start = omega (arith, way.start, (pre.ends at within).0);
          long = way.long;
          right = λ other ahead there. elim (cases_order other at) [
            | inl is ↦ let P : ℕ → Type 0 = IsTold tree own told in subst P (sym is) same
            | inr apart ↦ elim apart [
              | inl before_it ↦ way.right other before_it there
              | inr behind ↦
                  let parent_past : (parent : ℕ) → parent_of tree other ≡ Some parent → at ≤ parent =
                  λ parent is. parent_behind tree pre at other parent there is behind ahead in
                  still_told tree own before told other (way.still other (omega (arith, behind)))
                  (λ parent is. way.still parent (parent_past parent is))
                  (others other there (λ is. absurd (omega (arith, way.start, parent_past node is))))
            ]
          ];
          still = λ other past. way.still other (omega (arith, past, (pre.ends at within).0));
          above = way.above;
          past = way.past;
          heard = way.heard;
        }

        module _ (asked : Asks) (is_asked : asked ≡ asked_under own told (parent_of tree at))
            (differs : is_same asked (asks_at told at) ≡ false) where
          at_then : asks_at (set told at asked) at ≡ asked
          at_then = get_or-set_same told at asked nothing (omega (arith, within, long, way.long))

          other_then : (other : ℕ) → (other ≡ at → ⊥) → asks_at (set told at asked) other ≡ asks_at told other
          other_then other apart = get_or-set_other told at other asked nothing apart

          -- a node is told something else
          pub handed_at : (later : LinksData) → later ≡ (if is_absent now at then pushed now list at else now)
              → HoldsOthersAsBefore now later at (if is_absent now at then Some list else holder_of now at)
              → SameCounts now later
              → IsHandedOn tree own before (set told at asked) links later list node (at + 1)
          handed_at later is holders counts = record {
            start = omega (arith, way.start);
            long = length-set told at asked ∙ way.long;
            right = λ other ahead there. elim (cases_eq other at) [
              | inl same ↦ let P : ℕ → Type 0 = IsTold tree own (set told at asked) in
                  subst P (sym same) (at_then ∙ is_asked ∙ same_under own told own (set told at asked) (parent_of tree at)
                  (λ parent up. ap (either (asks_at own parent))
                  (sym (other_then parent (λ e. omega (arith, e, parent_before tree pre at parent within up))))))
              | inr apart ↦ still_told tree own told (set told at asked) other (other_then other apart)
                  (λ parent up. other_then parent (λ e.
                  omega (arith, e, ahead, parent_before tree pre other parent there up)))
                  (way.right other (omega (arith, ahead, apart)) there)
            ];
            still = λ other past. other_then other (λ e. omega (arith, e, past)) ∙ way.still other (omega (arith, past));
            above = λ other ahead. other_then other (λ e. omega (arith, e, ahead, way.start)) ∙ way.above other ahead;
            past = λ other past. other_then other (λ e. omega (arith, e, past, inside)) ∙ way.past other past;
            heard = node_heard before told links now list there way.heard way.long at (omega (arith, within, long))
                way.still asked differs later is holders counts;
          }
