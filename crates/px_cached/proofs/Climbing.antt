-- Truths on the way up: each joined part agrees with those in it, but for the one above the last that was set.
use Rattle.std.proofs.Common.{◌≡◌, ◌≢◌, ℕ, ◌+◌, ◌<◌, ◌≤◌, Bool, List, [], ◌∷◌, length, set, Option, None, inl, inr, refl, ap, sym, ◌∙◌, subst, arith}
use Rattle.std.proofs.lemmas.Bool.Decides.{eqb_tells}
use Rattle.std.proofs.lemmas.List.{get_or-set_same, get_or-set_other, length-set, set-get_or}
use Rattle.px_cached.specs.declared.part.Above.{Above}
use Rattle.px_cached.specs.declared.part.Above.TheVariants as aboves
use Rattle.px_cached.specs.declared.part.Part.{Part}
use Rattle.px_cached.specs.declared.part.Part.TheVariants as parts
use Rattle.px_cached.specs.Carrying.{AreWholesKept, IsKept, IsOnlyChanged, IsWayUp, LooksUp, truth_by}
use Rattle.px_cached.specs.Network.{Agree, IsNetwork, IsOver, IsSettled, above_at, kleene, part_at, truth_at}
use Rattle.px_cached.proofs.Heights as heights

-- where a truth is set, each part agrees but for the one above
set_settled : (network : List Part) (above : List Above) → IsNetwork network above → (truths : List (Option Bool))
    (at : ℕ) (truth : Option Bool) → length truths ≡ length network → at < length network
    → IsSettled truths truth (part_at network at)
    → (part : ℕ) → part < length network → (above_at above at ≡ aboves.Part part → ⊥)
    → (part ≢ at → IsSettled truths (truth_at truths part) (part_at network part))
    → IsSettled (set truths at truth) (truth_at (set truths at truth) part) (part_at network part)
set_settled network above is truths at truth sized inside settled part there apart before = elim (eqb_tells part at) [
  | inl same ↦ subst
      (λ part. IsSettled (set truths at truth) (truth_at (set truths at truth) part) (part_at network part)) (sym same.1)
      (here (part_at network at) (is.over at inside) settled)
  | inr other ↦ elsewhere other.1 (part_at network part) (is.over part there) (before other.1)
]
  where
    here : (p : Part) → IsOver above at p → IsSettled truths truth p
        → IsSettled (set truths at truth) (truth_at (set truths at truth) at) p
    here (parts.Whole expr) over settled = tt
    here (parts.Joined joint left right) over settled =
        let one = get_or-set_other truths at left truth None (λ same. omega (arith, same, over.0)) in
        let other = get_or-set_other truths at right truth None (λ same. omega (arith, same, over.1.0)) in
        get_or-set_same truths at truth None (omega (arith, sized, inside)) ∙ settled
        ∙ (λ i. kleene joint (sym one i) (sym other i))

    elsewhere : part ≢ at → (p : Part) → IsOver above part p → IsSettled truths (truth_at truths part) p
        → IsSettled (set truths at truth) (truth_at (set truths at truth) part) p
    elsewhere other (parts.Whole expr) over settled = tt
    elsewhere other (parts.Joined joint left right) over settled =
        let one = get_or-set_other truths at left truth None (λ same. apart (ap (above_at above) (sym same) ∙ over.1.1.0)) in
        let two = get_or-set_other truths at right truth None (λ same. apart (ap (above_at above) (sym same) ∙ over.1.1.1)) in
        get_or-set_other truths at part truth None other ∙ settled
        ∙ (λ i. kleene joint (sym one i) (sym two i))

kept_by : (old new : List (Option Bool)) (part : ℕ) (p : Part) → truth_at new part ≡ truth_at old part → IsKept old new part p
kept_by old new part (parts.Whole expr) same = same
kept_by old new part (parts.Joined joint left right) same = tt

settled_by : (truths : List (Option Bool)) (was truth : Option Bool) (p : Part) → truth ≡ truth_by truths was p
    → IsSettled truths truth p
settled_by truths was truth (parts.Whole expr) is = tt
settled_by truths was truth (parts.Joined joint left right) is = is

-- what a call of `carry` leaves
pub record IsCarried (network : List Part) (above : List Above) (old new : List (Option Bool)) (from : ℕ)
    (truth : Option Bool) (reached : Option ℕ) (count : ℕ) : Type 0 where
  pub agree : Agree network new
  pub set : truth_at new from ≡ truth
  pub wholes : AreWholesKept network old new from
  pub changed : IsOnlyChanged above old new reached
  pub looks : LooksUp above from count

-- the last part that was set, and at how many was looked
pub record IsUpTo (network : List Part) (above : List Above) (first : List (Option Bool)) (from : ℕ) (given : Option Bool)
    (truths : List (Option Bool)) (at looks : ℕ) : Type 0 where
  pub sized : length truths ≡ length network
  pub inside : at < length network
  pub behind : from ≤ at
  pub few : looks + from ≤ at + 1
  pub agree : (part : ℕ) → part < length network → (above_at above at ≡ aboves.Part part → ⊥)
      → IsSettled truths (truth_at truths part) (part_at network part)
  pub set : truth_at truths from ≡ given
  pub wholes : AreWholesKept network first truths from
  pub changed : (part node : ℕ) → part ≢ at → above_at above part ≡ aboves.Condition node
      → truth_at truths part ≡ truth_at first part
  pub way : (way : List ℕ) → IsWayUp above from way
      → (rest : List ℕ) × (IsWayUp above at rest × (looks + length rest ≤ 1 + length way))

module _ (network : List Part) (above : List Above) (is : IsNetwork network above) (first : List (Option Bool)) (from : ℕ)
    (given : Option Bool) (there : from < length network) where
  module _ (sized : length first ≡ length network) (agree : Agree network first)
      (settled : IsSettled first given (part_at network from)) where
    pub begun : IsUpTo network above first from given (set first from given) from 1
    begun = record {
      sized = length-set first from given ∙ sized;
      inside = there;
      behind = omega arith;
      few = omega arith;
      agree = λ part inside apart.
          set_settled network above is first from given sized there settled part inside apart (λ other. agree part inside);
      set = get_or-set_same first from given None (omega (arith, sized, there));
      wholes = λ part other. kept_by first (set first from given) part (part_at network part)
          (get_or-set_other first from part given None other);
      changed = λ part node other top. get_or-set_other first from part given None other;
      way = λ way up. (way, (up, omega arith));
    }

  module _ (truths : List (Option Bool)) (at looks : ℕ) (so_far : IsUpTo network above first from given truths at looks) where
    module _ (next : ℕ) (up : above_at above at ≡ aboves.Part next) where
      pub under : (at < next) × (next < length network)
      under = heights.under network above is at next so_far.inside up

      is_next : (part : ℕ) → above_at above at ≡ aboves.Part part → part ≡ next
      is_next part is_above =
          let both : aboves.Part part ≡ aboves.Part next = sym is_above ∙ up in
          let same : part ≡ next = cc in
          same

      -- one step of the way
      shorter : (way : List ℕ) (rest : List ℕ) → IsWayUp above at rest → looks + length rest ≤ 1 + length way
          → (more : List ℕ) × (IsWayUp above next more × (looks + 1 + length more ≤ 1 + length way))
      shorter way [] leads few = absurd (heights.not_top above at next at leads.0 up leads.1 refl)
      shorter way (other ∷ more) leads few =
          (more, (subst (λ part. IsWayUp above part more) (is_next other leads.0) leads.1, omega (arith, few)))

      module _ (truth : Option Bool) (by : truth ≡ truth_by truths (truth_at truths next) (part_at network next)) where
        settled_next : IsSettled truths truth (part_at network next)
        settled_next = settled_by truths (truth_at truths next) truth (part_at network next) by

        pub went : IsUpTo network above first from given (set truths next truth) next (looks + 1)
        went = record {
          sized = length-set truths next truth ∙ so_far.sized;
          inside = under.1;
          behind = omega (arith, under.0, so_far.behind);
          few = omega (arith, under.0, so_far.few);
          agree = λ part inside apart. set_settled network above is truths next truth so_far.sized under.1 settled_next
              part inside apart (λ other. so_far.agree part inside (λ is_above. other (is_next part is_above)));
          set = get_or-set_other truths next from truth None (λ same. omega (arith, same, under.0, so_far.behind))
              ∙ so_far.set;
          wholes = λ part other. whole part (part_at network part) refl (so_far.wholes part other);
          changed = λ part node other top. get_or-set_other truths next part truth None other
              ∙ so_far.changed part node (λ same. heights.not_top above at next part node up top (sym same)) top;
          way = λ way leads. let rest = so_far.way way leads in shorter way rest.0 rest.1.0 rest.1.1;
        }
          where
            whole : (part : ℕ) (p : Part) → part_at network part ≡ p → IsKept first truths part p
                → IsKept first (set truths next truth) part p
            whole part (parts.Joined joint left right) is_part kept = tt
            whole part (parts.Whole expr) is_part kept = elim (eqb_tells part next) [
              | inl same ↦
                  let as_before : truth ≡ truth_at truths next =
                  by ∙ ap (truth_by truths (truth_at truths next)) (ap (part_at network) (sym same.1) ∙ is_part) in
                  subst (λ part. truth_at (set truths next truth) part ≡ truth_at first part) (sym same.1)
                  (get_or-set_same truths next truth None (omega (arith, so_far.sized, under.1)) ∙ as_before
                  ∙ ap (truth_at truths) (sym same.1) ∙ kept ∙ ap (truth_at first) same.1)
              | inr other ↦ get_or-set_other truths next part truth None other.1 ∙ kept
            ]

        -- nothing changes any more
        pub stopped : truth_at truths next ≡ truth
            → IsCarried network above first (set truths next truth) from given None (looks + 1)
        stopped same =
            let stays : set truths next truth ≡ truths = ap (set truths next) (sym same) ∙ set-get_or truths next None in
            subst (λ new. IsCarried network above first new from given None (looks + 1)) (sym stays) (record {
              agree = λ part inside. elim (eqb_tells part next) [
                | inl is_it ↦ subst (λ part. IsSettled truths (truth_at truths part) (part_at network part)) (sym is_it.1)
                    (subst (λ truth. IsSettled truths truth (part_at network next)) (sym same) settled_next)
                | inr other ↦ so_far.agree part inside (λ is_above. other.1 (is_next part is_above))
              ];
              set = so_far.set;
              wholes = so_far.wholes;
              changed = λ part node top. inl (so_far.changed part node (λ same. heights.not_top above at next part node up top (sym same)) top);
              looks = λ way leads.
                  let rest = so_far.way way leads in
                  let more = shorter way rest.0 rest.1.0 rest.1.1 in
                  omega (arith, more.1.1);
            })
