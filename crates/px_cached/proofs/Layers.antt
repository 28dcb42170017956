-- Parts that are laid keep those before them, and spell what they are laid for.
use Rattle.std.proofs.Common.{◌≡◌, ◌≢◌, ℕ, ◌+◌, ◌<◌, ◌≤◌, ◌^◌, List, [], ◌∷◌, ◌++◌, length, set, Result, Ok, Err, IfOk, OnOk, inl, inr, refl, ap, sym, ◌∙◌, subst, arith, append_assoc}
use Rattle.std.proofs.lemmas.Bool.{cases_lt}
use Rattle.std.proofs.lemmas.Bool.Decides.{eqb_tells}
use Rattle.std.proofs.lemmas.List.{get_or_append_left, get_or_default, get_or-set_same, get_or-set_other, append-nil, length-append, length-set, length_push}
use Rattle.std.proofs.Math.Seq.{get_or-append_seam}
use Rattle.px_core.specs.Plan.{Site}
use Rattle.px_flat.specs.declared.numbered.NumberedExpr.{NumberedExpr}
use Rattle.px_flat.specs.Numbered.{Numbered}
use Rattle.px_flat.specs.NumberedData.{expr_data}
use Rattle.px_flat.specs.Sources.{Source, sources_in}
use Rattle.px_flat.specs.Within.{IsWithin}
use Rattle.px_flat.proofs.Trees.{each_put}
use Rattle.px_cached.specs.declared.part.Above.{Above}
use Rattle.px_cached.specs.declared.part.Above.TheVariants as aboves
use Rattle.px_cached.specs.declared.part.Joint.{Joint}
use Rattle.px_cached.specs.declared.part.Joint.TheVariants as joints
use Rattle.px_cached.specs.declared.part.Part.{Part}
use Rattle.px_cached.specs.declared.part.Part.TheVariants as parts
use Rattle.px_cached.specs.Laying.{IsLaid, IsReadIn, IsStretch}
use Rattle.px_cached.specs.Network.{IsNetwork, IsOver, IsUnder, Spells, Whole, Joined, Stands, One, Two, above_at, joined, part_at}
use Rattle.px_cached.proofs.Heights.{not_top}

abbrev no_part : Part
no_part = parts.Joined joints.And 0 0

abbrev no_above : Above
no_above = aboves.Condition 0

-- ---- what is there stays

pub spells_inside : (network : List Part) (part : ℕ) (expr : Numbered) → Spells network part expr → part < length network
spells_inside network part expr (Whole of inside at is) = inside
spells_inside network part expr (Joined joint left right a b inside at is one other) = inside

pub spells_on : (old new : List Part) → length old ≤ length new
    → ((part : ℕ) → part < length old → part_at new part ≡ part_at old part)
    → (part : ℕ) (expr : Numbered) → Spells old part expr → Spells new part expr
spells_on old new longer same part expr (Whole of inside at is) =
    Whole of (omega (arith, longer, inside)) (same part inside ∙ at) is
spells_on old new longer same part expr (Joined joint left right a b inside at is one other) =
    Joined joint left right a b (omega (arith, longer, inside)) (same part inside ∙ at) is
    (spells_on old new longer same left a one) (spells_on old new longer same right b other)

pub stands_on : (old new : List Part) → length old ≤ length new
    → ((part : ℕ) → part < length old → part_at new part ≡ part_at old part)
    → (from last : ℕ) (expr : Numbered) → Stands old from last expr → Stands new from last expr
stands_on old new longer same from last expr (One of inside first at is) =
    One of (omega (arith, longer, inside)) first (same last inside ∙ at) is
stands_on old new longer same from last expr (Two joint left right a b inside behind at is one other) =
    Two joint left right a b (omega (arith, longer, inside)) behind (same last inside ∙ at) is
    (stands_on old new longer same from left a one) (stands_on old new longer same (left + 1) right b other)

module _ (old : List Part) (part : Part) where
  pub pushed_same : (k : ℕ) → k < length old → part_at (old ++ part ∷ []) k ≡ part_at old k
  pushed_same k inside = get_or_append_left old (part ∷ []) no_part k inside

  pub pushed_at : part_at (old ++ part ∷ []) (length old) ≡ part
  pushed_at = get_or-append_seam old part [] no_part

under_more : (count more part : ℕ) (above : Above) → count ≤ more → IsUnder count part above → IsUnder more part above
under_more count more part (aboves.Condition node) longer under = tt
under_more count more part (aboves.Part above) longer under = (under.0, omega (arith, under.1, longer))

-- one part more is a network too where what is above a part stays
network_more : (old : List Part) (part : Part) (above new_above : List Above) → IsNetwork old above
    → length new_above ≡ length old + 1 → length old + 1 < 2 ^ 32
    → ((k over : ℕ) → k < length old → above_at above k ≡ aboves.Part over → above_at new_above k ≡ aboves.Part over)
    → IsOver new_above (length old) part
    → ((k : ℕ) → k < length old + 1 → IsUnder (length old + 1) k (above_at new_above k))
    → IsNetwork (old ++ part ∷ []) new_above
network_more old part above new_above is long few links over under = record {
  few = omega (arith, few, length_push old part);
  sized = long ∙ sym (length_push old part);
  over = λ k inside. each_put (IsOver new_above) old part
      (λ k d below. subst (IsOver new_above k) (get_or_default old k no_part d below) (stays k below (part_at old k) (is.over k below)))
      over k no_part inside;
  under = λ k inside. subst (λ count. IsUnder count k (above_at new_above k)) (sym (length_push old part))
      (under k (omega (arith, inside, length_push old part)));
}
  where
    stays : (k : ℕ) → k < length old → (p : Part) → IsOver above k p → IsOver new_above k p
    stays k inside (parts.Whole expr) over = tt
    stays k inside (parts.Joined joint left right) over = (
      over.0,
      (
        over.1.0,
        (
          links left k (omega (arith, over.0, inside)) over.1.1.0,
          links right k (omega (arith, over.1.0, inside)) over.1.1.1,
        ),
      ),
    )

-- ---- stretches of sources

stretch_whole : (some : List Source) → IsStretch some some
stretch_whole some = ([], [], sym (append-nil some))

stretch_left : (some all more : List Source) → IsStretch some all → IsStretch some (all ++ more)
stretch_left some all more is = (
  is.0,
  is.1 ++ more,
  ap (λ all. all ++ more) is.2 ∙ append_assoc is.0 (some ++ is.1) more
      ∙ ap (λ rest. is.0 ++ rest) (append_assoc some is.1 more),
)

stretch_right : (some all more : List Source) → IsStretch some all → IsStretch some (more ++ all)
stretch_right some all more is = (
  more ++ is.0,
  is.1,
  ap (λ all. more ++ all) is.2 ∙ sym (append_assoc more is.0 (some ++ is.1)),
)

-- ---- what is evaluated whole

module _ (plan : List Site) (node : ℕ) (expr : Numbered) (of : NumberedExpr) (is : expr_data of ≡ expr)
    (within : IsWithin plan expr) (old : List Part) (above : List Above) (network : IsNetwork old above)
    (few : length (old ++ parts.Whole of ∷ []) < 2 ^ 32) where
  abbrev whole_new : List Part
  whole_new = old ++ parts.Whole of ∷ []

  abbrev whole_above : List Above
  whole_above = above ++ aboves.Condition node ∷ []

  whole_stays : (k : ℕ) → k < length old → above_at whole_above k ≡ above_at above k
  whole_stays k inside = get_or_append_left above (aboves.Condition node ∷ []) no_above k (omega (arith, inside, network.sized))

  whole_top : above_at whole_above (length old) ≡ aboves.Condition node
  whole_top = ap (above_at whole_above) (sym network.sized) ∙ get_or-append_seam above (aboves.Condition node) [] no_above

  whole_last : (k : ℕ) → length old ≤ k → k < length whole_new → k ≡ length old
  whole_last k past inside = omega (arith, past, inside, length_push old (parts.Whole of))

  pub whole_laid : IsLaid plan node expr old whole_new above whole_above (length old)
  whole_laid = record {
    network = network_more old (parts.Whole of) above whole_above network
        (omega (arith, length-append above (aboves.Condition node ∷ []), network.sized))
        (omega (arith, few, length_push old (parts.Whole of)))
        (λ k over inside up. whole_stays k inside ∙ up)
        tt
        (λ k inside. elim (cases_lt k (length old)) [
          | inl below ↦ subst (IsUnder (length old + 1) k) (sym (whole_stays k below))
              (under_more (length old) (length old + 1) k (above_at above k) (omega arith) (network.under k below))
          | inr past ↦
              let last : k ≡ length old = omega (arith, past, inside) in
              subst (IsUnder (length old + 1) k) (sym (ap (above_at whole_above) last ∙ whole_top)) tt
        ]);
    longer = omega (arith, length_push old (parts.Whole of));
    same = pushed_same old (parts.Whole of);
    same_above = whole_stays;
    behind = omega arith;
    spells = Whole of (omega (arith, length_push old (parts.Whole of))) (pushed_at old (parts.Whole of)) (sym is);
    stands = One of (omega (arith, length_push old (parts.Whole of))) refl (pushed_at old (parts.Whole of)) (sym is);
    end = length_push old (parts.Whole of);
    top = whole_top;
    named = λ k other past inside top.
        let same : aboves.Condition other ≡ aboves.Condition node =
        sym top ∙ ap (above_at whole_above) (whole_last k past inside) ∙ whole_top in
        let other_is : other ≡ node = cc in
        other_is;
    read = λ k past inside. subst (IsReadIn plan (sources_in plan expr))
        (sym (ap (part_at whole_new) (whole_last k past inside) ∙ pushed_at old (parts.Whole of))) (
          subst (IsWithin plan) (sym is) within,
          subst (λ e. IsStretch (sources_in plan e) (sources_in plan expr)) (sym is)
              (stretch_whole (sources_in plan expr)),
        );
  }

-- ---- two parts joined

read_left : (plan : List Site) (sources more : List Source) (p : Part) → IsReadIn plan sources p → IsReadIn plan (sources ++ more) p
read_left plan sources more (parts.Whole expr) read =
    (read.0, stretch_left (sources_in plan (expr_data expr)) sources more read.1)
read_left plan sources more (parts.Joined joint left right) read = tt

read_right : (plan : List Site) (sources more : List Source) (p : Part) → IsReadIn plan sources p → IsReadIn plan (more ++ sources) p
read_right plan sources more (parts.Whole expr) read =
    (read.0, stretch_right (sources_in plan (expr_data expr)) sources more read.1)
read_right plan sources more (parts.Joined joint left right) read = tt

-- what a joint reads is what both sides read
joined_sources : (plan : List Site) (joint : Joint) (a b : Numbered)
    → sources_in plan a ++ sources_in plan b ≡ sources_in plan (joined joint a b)
joined_sources plan joints.And a b = refl
joined_sources plan joints.Or a b = refl
joined_sources plan joints.Nor a b = refl

module _ (plan : List Site) (node : ℕ) (joint : Joint) (a b : Numbered) (old one two : List Part)
    (old_above one_above two_above : List Above) (left right : ℕ)
    (left_laid : IsLaid plan node a old one old_above one_above left)
    (right_laid : IsLaid plan node b one two one_above two_above right)
    (few : length (two ++ parts.Joined joint left right ∷ []) < 2 ^ 32) where
  abbrev joined_part : Part
  joined_part = parts.Joined joint left right

  abbrev joined_new : List Part
  joined_new = two ++ joined_part ∷ []

  abbrev joined_expr : Numbered
  joined_expr = joined joint a b

  abbrev pushed_above : List Above
  pushed_above = two_above ++ aboves.Condition node ∷ []

  abbrev joined_above : List Above
  joined_above = set (set pushed_above left (aboves.Part (length two))) right (aboves.Part (length two))

  sized : length pushed_above ≡ length two + 1
  sized = omega (arith, length-append two_above (aboves.Condition node ∷ []), right_laid.network.sized)

  left_there : left < length one
  left_there = spells_inside one left a left_laid.spells

  right_there : right < length two
  right_there = spells_inside two right b right_laid.spells

  apart : left ≢ right
  apart same = omega (arith, same, left_there, right_laid.behind)

  at_left : above_at joined_above left ≡ aboves.Part (length two)
  at_left = get_or-set_other (set pushed_above left (aboves.Part (length two))) right left (aboves.Part (length two)) no_above apart
      ∙ get_or-set_same pushed_above left (aboves.Part (length two)) no_above
      (omega (arith, sized, left_there, right_laid.longer))

  at_right : above_at joined_above right ≡ aboves.Part (length two)
  at_right = get_or-set_same (set pushed_above left (aboves.Part (length two))) right (aboves.Part (length two)) no_above
      (omega (arith, sized, right_there, length-set pushed_above left (aboves.Part (length two))))

  at_other : (k : ℕ) → k ≢ left → k ≢ right → above_at joined_above k ≡ above_at pushed_above k
  at_other k not_left not_right =
      get_or-set_other (set pushed_above left (aboves.Part (length two))) right k (aboves.Part (length two)) no_above not_right
      ∙ get_or-set_other pushed_above left k (aboves.Part (length two)) no_above not_left

  at_old : (k : ℕ) → k < length two → k ≢ left → k ≢ right → above_at joined_above k ≡ above_at two_above k
  at_old k inside not_left not_right = at_other k not_left not_right
      ∙ get_or_append_left two_above (aboves.Condition node ∷ []) no_above k (omega (arith, inside, right_laid.network.sized))

  at_new : above_at joined_above (length two) ≡ aboves.Condition node
  at_new = at_other (length two) (λ same. omega (arith, same, left_there, right_laid.longer))
      (λ same. omega (arith, same, right_there))
      ∙ ap (above_at pushed_above) (sym right_laid.network.sized)
      ∙ get_or-append_seam two_above (aboves.Condition node) [] no_above

  -- nothing was above these two
  left_free : above_at two_above left ≡ aboves.Condition node
  left_free = right_laid.same_above left left_there ∙ left_laid.top

  joined_under : (k : ℕ) → k < length two + 1 → IsUnder (length two + 1) k (above_at joined_above k)
  joined_under k inside = elim (eqb_tells k left) [
    | inl same ↦ subst (λ k. IsUnder (length two + 1) k (above_at joined_above k)) (sym same.1)
        (subst (IsUnder (length two + 1) left) (sym at_left)
        (omega (arith, left_there, right_laid.longer), omega arith))
    | inr not_left ↦ elim (eqb_tells k right) [
      | inl same ↦ subst (λ k. IsUnder (length two + 1) k (above_at joined_above k)) (sym same.1)
          (subst (IsUnder (length two + 1) right) (sym at_right) (right_there, omega arith))
      | inr not_right ↦ elim (cases_lt k (length two)) [
        | inl below ↦ subst (IsUnder (length two + 1) k) (sym (at_old k below not_left.1 not_right.1))
            (under_more (length two) (length two + 1) k (above_at two_above k) (omega arith) (right_laid.network.under k below))
        | inr past ↦
            let last : k ≡ length two = omega (arith, past, inside) in
            subst (IsUnder (length two + 1) k) (sym (ap (above_at joined_above) last ∙ at_new)) tt
      ]
    ]
  ]

  joined_named : (k other : ℕ) → length old ≤ k → k < length joined_new
      → above_at joined_above k ≡ aboves.Condition other → other ≡ node
  joined_named k other past inside top = elim (eqb_tells k left) [
    | inl same ↦ absurd (not_top joined_above left (length two) k other at_left top (sym same.1))
    | inr not_left ↦ elim (eqb_tells k right) [
      | inl same ↦ absurd (not_top joined_above right (length two) k other at_right top (sym same.1))
      | inr not_right ↦ elim (cases_lt k (length two)) [
        | inl below ↦ elim (cases_lt k (length one)) [
          | inl first ↦ left_laid.named k other past first
              (sym (right_laid.same_above k first) ∙ sym (at_old k below not_left.1 not_right.1) ∙ top)
          | inr second ↦ right_laid.named k other second below (sym (at_old k below not_left.1 not_right.1) ∙ top)
        ]
        | inr beyond ↦
            let last : k ≡ length two = omega (arith, beyond, inside, length_push two joined_part) in
            let both : aboves.Condition other ≡ aboves.Condition node = sym top ∙ ap (above_at joined_above) last ∙ at_new in
            let other_is : other ≡ node = cc in
            other_is
      ]
    ]
  ]

  joined_read : (k : ℕ) → length old ≤ k → k < length joined_new
      → IsReadIn plan (sources_in plan joined_expr) (part_at joined_new k)
  joined_read k past inside = elim (cases_lt k (length two)) [
    | inl below ↦ subst (IsReadIn plan (sources_in plan joined_expr)) (sym (pushed_same two joined_part k below))
        (subst (λ sources. IsReadIn plan sources (part_at two k)) (joined_sources plan joint a b)
        (elim (cases_lt k (length one)) [
          | inl first ↦ subst (IsReadIn plan (sources_in plan a ++ sources_in plan b)) (sym (right_laid.same k first))
              (read_left plan (sources_in plan a) (sources_in plan b) (part_at one k) (left_laid.read k past first))
          | inr second ↦ read_right plan (sources_in plan b) (sources_in plan a) (part_at two k) (right_laid.read k second below)
        ]))
    | inr beyond ↦
        let last : k ≡ length two = omega (arith, beyond, inside, length_push two joined_part) in
        subst (IsReadIn plan (sources_in plan joined_expr)) (sym (ap (part_at joined_new) last ∙ pushed_at two joined_part)) tt
  ]

  pub joined_laid : IsLaid plan node joined_expr old joined_new old_above joined_above (length two)
  joined_laid = record {
    network = network_more two joined_part two_above joined_above right_laid.network
        (length-set (set pushed_above left (aboves.Part (length two))) right (aboves.Part (length two))
        ∙ length-set pushed_above left (aboves.Part (length two)) ∙ sized)
        (omega (arith, few, length_push two joined_part))
        (λ k over inside linked. at_old k inside (not_top two_above k over left node linked left_free)
        (not_top two_above k over right node linked right_laid.top) ∙ linked)
        (omega (arith, left_there, right_laid.longer), (right_there, (at_left, at_right)))
        joined_under;
    longer = omega (arith, left_laid.longer, right_laid.longer, length_push two joined_part);
    same = λ k inside.
        pushed_same two joined_part k (omega (arith, inside, left_laid.longer, right_laid.longer))
        ∙ right_laid.same k (omega (arith, inside, left_laid.longer)) ∙ left_laid.same k inside;
    same_above = λ k inside.
        at_old k (omega (arith, inside, left_laid.longer, right_laid.longer))
        (λ same. omega (arith, same, inside, left_laid.behind))
        (λ same. omega (arith, same, inside, left_laid.longer, right_laid.behind))
        ∙ right_laid.same_above k (omega (arith, inside, left_laid.longer)) ∙ left_laid.same_above k inside;
    behind = omega (arith, left_laid.longer, right_laid.longer);
    spells = Joined joint left right a b (omega (arith, length_push two joined_part)) (pushed_at two joined_part) refl
        (spells_on two joined_new (omega (arith, length_push two joined_part)) (pushed_same two joined_part) left a
        (spells_on one two right_laid.longer right_laid.same left a left_laid.spells))
        (spells_on two joined_new (omega (arith, length_push two joined_part)) (pushed_same two joined_part) right b
        right_laid.spells);
    stands = Two joint left right a b (omega (arith, length_push two joined_part)) right_laid.end (pushed_at two joined_part) refl
        (stands_on two joined_new (omega (arith, length_push two joined_part)) (pushed_same two joined_part) (length old) left a
        (stands_on one two right_laid.longer right_laid.same (length old) left a left_laid.stands))
        (stands_on two joined_new (omega (arith, length_push two joined_part)) (pushed_same two joined_part) (left + 1) right b
        (subst (λ from. Stands two from right b) left_laid.end right_laid.stands));
    end = length_push two joined_part;
    top = at_new;
    named = joined_named;
    read = joined_read;
  }

-- ---- what a call leaves

pub whole_ok : {E : Type 0} (plan : List Site) (node : ℕ) (expr : Numbered) (of : NumberedExpr) → expr_data of ≡ expr
    → IsWithin plan expr → (old new : List Part) (above new_above : List Above) → IsNetwork old above
    → (result : Result ℕ E) → IfOk result (λ at. at ≡ length old)
    → OnOk result (new ≡ old ++ parts.Whole of ∷ [])
    → OnOk result (new_above ≡ above ++ aboves.Condition node ∷ [])
    → OnOk result (length new < 2 ^ 32) → IfOk result (IsLaid plan node expr old new above new_above)
whole_ok plan node expr of is within old new above new_above network (Err error) at_is new_is above_is few = tt
whole_ok plan node expr of is within old new above new_above network (Ok at) at_is new_is above_is few =
    subst (λ new. IsLaid plan node expr old new above new_above at) (sym new_is)
    (subst (λ new_above. IsLaid plan node expr old (old ++ parts.Whole of ∷ []) above new_above at) (sym above_is)
    (subst (IsLaid plan node expr old (old ++ parts.Whole of ∷ []) above (above ++ aboves.Condition node ∷ [])) (sym at_is)
    (whole_laid plan node expr of is within old above network (subst (λ (new : List Part). length new < 2 ^ 32) new_is few))))

pub joined_ok : {E : Type 0} (plan : List Site) (node : ℕ) (joint : Joint) (expr a b : Numbered)
    → expr ≡ joined joint a b
    → (old one two new : List Part) (old_above one_above two_above new_above : List Above) (left right : ℕ)
    → IsLaid plan node a old one old_above one_above left → IsLaid plan node b one two one_above two_above right
    → (result : Result ℕ E) → IfOk result (λ at. at ≡ length two)
    → OnOk result (new ≡ two ++ parts.Joined joint left right ∷ [])
    → IfOk result (λ at. new_above
    ≡ set (set (two_above ++ aboves.Condition node ∷ []) left (aboves.Part at)) right (aboves.Part at))
    → OnOk result (length new < 2 ^ 32) → IfOk result (IsLaid plan node expr old new old_above new_above)
joined_ok plan node joint expr a b is old one two new old_above one_above two_above new_above left right left_laid right_laid
    (Err error) at_is new_is above_is few = tt
joined_ok plan node joint expr a b is old one two new old_above one_above two_above new_above left right left_laid right_laid
    (Ok at) at_is new_is above_is few =
    let with_it : List Part = two ++ parts.Joined joint left right ∷ [] in
    let of : Numbered = joined joint a b in
    let linked : ℕ → List Above =
    λ at. set (set (two_above ++ aboves.Condition node ∷ []) left (aboves.Part at)) right (aboves.Part at) in
    subst (λ expr. IsLaid plan node expr old new old_above new_above at) (sym is)
    (subst (λ new. IsLaid plan node of old new old_above new_above at) (sym new_is)
    (subst (λ new_above. IsLaid plan node of old with_it old_above new_above at) (sym above_is)
    (subst (λ at. IsLaid plan node of old with_it old_above (linked at) at) (sym at_is)
    (joined_laid plan node joint a b old one two old_above one_above two_above left right left_laid right_laid
    (subst (λ (new : List Part). length new < 2 ^ 32) new_is few)))))
