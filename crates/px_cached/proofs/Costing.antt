-- Parts cost what the plan's conditions say: those that read a source, and all of them.
use Rattle.std.proofs.Common.{◌≡◌, ℕ, zero, suc, ◌+◌, ◌*◌, ◌/◌, ◌<◌, ◌≤◌, Bool, true, false, nat_eq, ◌||◌, List, [], length, get_or, sum_by, inl, inr, refl, ap, sym, subst, arith, All, if◌then◌else◌}
use Rattle.std.proofs.lemmas.Bool.{cases_lt, eq-eqb}
use Rattle.std.proofs.lemmas.List.{get_or_past}
use Rattle.std.proofs.lemmas.List.Folds.{list_any-append, list_any_at}
use Rattle.px_core.specs.Plan.{Site}
use Rattle.px_flat.specs.declared.numbered.NumberedExpr.{NumberedExpr}
use Rattle.px_flat.specs.Numbered.{Numbered, Literal, Variable, Element, StateOf, OutcomeOf, FailureOf, HandleOf, Acknowledged, Look, Unary, Binary}
use Rattle.px_flat.specs.NumberedData.{expr_data}
use Rattle.px_flat.specs.Sources.{sources_in}
use Rattle.px_listen.specs.Listening.{ListenData, AreSound, dependents_of}
use Rattle.px_cached.specs.declared.part.Above.{Above}
use Rattle.px_cached.specs.declared.part.Joint.{Joint}
use Rattle.px_cached.specs.declared.part.Joint.TheVariants as joints
use Rattle.px_cached.specs.declared.part.Part.{Part}
use Rattle.px_cached.specs.declared.part.Part.TheVariants as parts
use Rattle.px_cached.specs.Climbs.{climb}
use Rattle.px_cached.specs.Conditions.{condition_at, has_source, source_number}
use Rattle.px_cached.specs.Costs.{cost, cost_in, full_cost, full_cost_in, joins, makes_nor, source_cost, up_to, whole_cost}
use Rattle.px_cached.specs.declared.part.Root.{Root}
use Rattle.px_cached.specs.declared.part.Root.TheVariants as root
use Rattle.px_cached.specs.Laying.{HasLaid, IsRoot, StandsBy, begin, past, root_at}
use Rattle.px_cached.specs.Network.{IsNetwork, IsOver, Stands, One, Two, joined, part_at}
use Rattle.px_cached.specs.Reading.{AreListening, sources_at}
use Rattle.px_cached.proofs.Distinct.{sum_by-distinct, up_to-more}
use Rattle.px_cached.proofs.Heights.{climb_on, climb_top}
use Rattle.px_cached.proofs.Layers.{spells_inside}

-- ---- parts one after another

module _ (network : List Part) (above : List Above) (is : IsNetwork network above) (weigh : Part → ℕ → ℕ)
    (most : ℕ → Numbered → ℕ)
    (wholes : (of : NumberedExpr) (looks : ℕ) → weigh (parts.Whole of) looks ≤ most looks (expr_data of))
    (joints : (joint : Joint) (left right looks : ℕ) (a b : Numbered)
    → weigh (parts.Joined joint left right) looks + (most (looks + 1) a + most (looks + 1) b) ≤ most looks (joined joint a b)) where
  -- what a part costs, so far up as it is
  abbrev price : ℕ → ℕ
  price part = weigh (part_at network part) (climb above part)

  -- so much cost those of one expression
  stretch_cost : (from last : ℕ) (expr : Numbered) → Stands network from last expr
      → up_to price (last + 1) ≤ up_to price from + most (climb above last) expr
  stretch_cost from last expr (One of there same at is_expr) =
      let looks = climb above last in
      omega (
        arith,
        up_to-more price last,
        ap (up_to price) same,
        ap (λ part. weigh part looks) at,
        wholes of looks,
        ap (most looks) is_expr,
      )
  stretch_cost from last expr (Two joint left right a b there behind at is_expr one other) =
      let looks = climb above last in
      let over = subst (IsOver above last) at (is.over last there) in
      let left_cost = subst (λ looks. up_to price (left + 1) ≤ up_to price from + most looks a)
      (climb_on network above is left last (omega (arith, over.0, there)) over.1.1.0) (stretch_cost from left a one) in
      let right_cost = subst (λ looks. up_to price (right + 1) ≤ up_to price (left + 1) + most looks b)
      (climb_on network above is right last (omega (arith, over.1.0, there)) over.1.1.1) (stretch_cost (left + 1) right b other) in
      omega (
        arith,
        up_to-more price last,
        ap (up_to price) behind,
        ap (λ part. weigh part looks) at,
        joints joint left right looks a b,
        left_cost,
        right_cost,
        ap (most looks) is_expr,
      )

  module _ (plan : List Site) (roots : List Root) (number : ℕ) (laid : HasLaid plan network above roots number) where
    abbrev condition_cost : ℕ → ℕ
    condition_cost other = most 1 (condition_at plan other)

    -- so much those of one condition
    root_cost : (other from : ℕ) (at : Root) → IsRoot plan network above other at
        → StandsBy network from at (condition_at plan other) → up_to price (past from at) ≤ up_to price from + condition_cost other
    root_cost other from (root.Constant truth) rooted stands = omega arith
    root_cost other from (root.Part part) rooted stands =
        subst (λ looks. up_to price (part + 1) ≤ up_to price from + most looks (condition_at plan other))
        (climb_top network above is part (other / 8) (spells_inside network part _ rooted.0) rooted.1)
        (stretch_cost from part (condition_at plan other) stands)

    -- so much those of the first so many conditions
    conditions_cost : (count : ℕ) → count ≤ number → up_to price (begin roots count) ≤ up_to condition_cost count
    conditions_cost zero few = omega arith
    conditions_cost (suc count) few =
        let here = root_cost count (begin roots count) (root_at roots count) (laid.rooted count (omega (arith, few)))
        (laid.stands count (omega (arith, few))) in
        let next : suc count ≡ count + 1 = omega arith in
        omega (
          arith,
          ap (up_to condition_cost) next,
          up_to-more condition_cost count,
          here,
          conditions_cost count (omega (arith, few)),
        )

    all_cost : up_to price (length network) ≤ up_to condition_cost number
    all_cost = omega (arith, ap (up_to price) laid.end, conditions_cost number (omega arith))

-- ---- those that read a source

module _ (plan : List Site) (source : ℕ) where
  -- what is read on one side or on both
  either : (looks : ℕ) (one other : Bool) (left right : ℕ) → (if one then looks + 1 else 0) ≤ left
      → (if other then looks + 1 else 0) ≤ right → (if one || other then looks else 0) ≤ left + right
  either looks true other left right least rest = omega (arith, least)
  either looks false true left right rest least = omega (arith, least)
  either looks false false left right one other = omega arith

  -- what is evaluated whole costs no more than its parts would
  whole_least : (looks : ℕ) (expr : Numbered) → whole_cost plan source looks expr ≤ cost_in plan source looks expr
  whole_least looks (Literal value) = omega arith
  whole_least looks (Variable cell) = omega arith
  whole_least looks (Element first size index) = omega arith
  whole_least looks (StateOf node) = omega arith
  whole_least looks (OutcomeOf node) = omega arith
  whole_least looks (FailureOf node) = omega arith
  whole_least looks (HandleOf node) = omega arith
  whole_least looks (Acknowledged node) = omega arith
  whole_least looks (Look lookup args tolerance) = omega arith
  whole_least looks (Unary op arg) = by (makes_nor op arg) (whole_least looks arg)
    where
      by : (nor : Bool) → whole_cost plan source looks arg ≤ cost_in plan source looks arg
          → whole_cost plan source looks (Unary op arg)
          ≤ (if nor then cost_in plan source looks arg else whole_cost plan source looks (Unary op arg))
      by true least = least
      by false least = omega arith
  whole_least looks (Binary op left right) =
      by (joins op) (whole_least (looks + 1) left) (whole_least (looks + 1) right)
    where
      by : (joint : Bool) → whole_cost plan source (looks + 1) left ≤ cost_in plan source (looks + 1) left
          → whole_cost plan source (looks + 1) right ≤ cost_in plan source (looks + 1) right
          → whole_cost plan source looks (Binary op left right)
          ≤ (if joint then cost_in plan source (looks + 1) left + cost_in plan source (looks + 1) right
          else whole_cost plan source looks (Binary op left right))
      by false one other = omega arith
      by true one other =
          subst (λ has. (if has then looks else 0) ≤ cost_in plan source (looks + 1) left + cost_in plan source (looks + 1) right)
          (sym (list_any-append (λ other. nat_eq source (source_number plan other)) (sources_in plan left) (sources_in plan right)))
          (either looks (has_source plan source (sources_in plan left)) (has_source plan source (sources_in plan right))
          (cost_in plan source (looks + 1) left) (cost_in plan source (looks + 1) right) one other)

  -- what a part costs that is evaluated whole and reads the source
  abbrev weigh_reading : Part → ℕ → ℕ
  weigh_reading part looks = if has_source plan source (sources_at plan part) then looks else 0

  joints_none : (joint : Joint) (left right looks : ℕ) (a b : Numbered) → weigh_reading (parts.Joined joint left right) looks
      + (cost_in plan source (looks + 1) a + cost_in plan source (looks + 1) b) ≤ cost_in plan source looks (joined joint a b)
  joints_none joints.And left right looks a b = omega arith
  joints_none joints.Or left right looks a b = omega arith
  joints_none joints.Nor left right looks a b = omega arith

-- so much all that depend on a source
pub dependents_cost : (plan : List Site) (network : List Part) (above : List Above) (roots : List Root)
    → HasLaid plan network above roots (8 * length plan) → (listeners : ListenData) → AreListening plan network listeners
    → AreSound listeners → (source : ℕ) → source_cost listeners (climb above) source ≤ cost plan source
dependents_cost plan network above roots laid listeners listening sound source =
    elim (cases_lt source (length listeners.dependents)) [
      | inr past ↦ omega (arith, ap (sum_by (climb above)) (get_or_past listeners.dependents source [] past))
      | inl there ↦ omega (
        arith,
        sum_by-distinct (climb above) price_here (length network) dependents (sound.once source [] there) (each there),
        all_cost network above laid.shape (weigh_reading plan source) (cost_in plan source)
            (λ of looks. whole_least plan source looks (expr_data of)) (joints_none plan source) plan roots (8 * length plan) laid,
      )
    ]
  where
    dependents : List ℕ
    dependents = dependents_of listeners source

    price_here : ℕ → ℕ
    price_here part = weigh_reading plan source (part_at network part) (climb above part)

    each : source < length listeners.dependents
        → All (λ part. (part < length network) × (climb above part ≤ price_here part)) dependents
    each there k d inside =
        let part = get_or dependents k d in
        let depends = list_any_at (nat_eq part) dependents k d inside (eq-eqb part part refl) in
        let reads = listening.only source part depends in (
          omega (arith, sound.within source [] there k d inside, listening.watchers),
          omega (arith, ap (λ has. if has then climb above part else 0) reads),
        )

-- ---- all of them

full_least : (looks : ℕ) (expr : Numbered) → looks ≤ full_cost_in looks expr
full_least looks (Literal value) = omega arith
full_least looks (Variable cell) = omega arith
full_least looks (Element first size index) = omega arith
full_least looks (StateOf node) = omega arith
full_least looks (OutcomeOf node) = omega arith
full_least looks (FailureOf node) = omega arith
full_least looks (HandleOf node) = omega arith
full_least looks (Acknowledged node) = omega arith
full_least looks (Look lookup args tolerance) = omega arith
full_least looks (Binary op left right) = omega arith
full_least looks (Unary op arg) = by (makes_nor op arg) (full_least looks arg)
  where
    by : (nor : Bool) → looks ≤ full_cost_in looks arg → looks ≤ (if nor then full_cost_in looks arg else looks)
    by true least = least
    by false least = omega arith

joints_all : (joint : Joint) (left right looks : ℕ) (a b : Numbered)
    → looks + (full_cost_in (looks + 1) a + full_cost_in (looks + 1) b) ≤ full_cost_in looks (joined joint a b)
joints_all joints.And left right looks a b = omega arith
joints_all joints.Or left right looks a b = omega arith
joints_all joints.Nor left right looks a b = omega arith

pub parts_cost : (plan : List Site) (network : List Part) (above : List Above) (roots : List Root)
    → HasLaid plan network above roots (8 * length plan) → up_to (climb above) (length network) ≤ full_cost plan
parts_cost plan network above roots laid = all_cost network above laid.shape (λ part looks. looks) full_cost_in
    (λ of looks. full_least looks (expr_data of)) joints_all plan roots (8 * length plan) laid
