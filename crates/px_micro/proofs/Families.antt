-- Descendants and children, by number.
use Rattle.std.proofs.Common.{◌≡◌, ℕ, zero, suc, ◌<◌, ◌≤◌, Bool, true, false, ◌||◌, ◌⊎◌, nat_lt, List, length, take_while, ap, sym, ◌∙◌, subst, arith, inl, inr, length-drop, Some}
use Rattle.std.specs.List.{list_any, prefix_len}
use Rattle.std.specs.Cmp.Lexicographic.{same_text}
use Rattle.std.proofs.lemmas.Bool.{and_parts, and_from, or_cases, or_left, or_right, ltb-true, lt-ltb}
use Rattle.std.proofs.lemmas.Grind.{common_steps}
use Rattle.std.proofs.lemmas.List.{length-take}
use Rattle.px_core.specs.Plan.{Site, is_same, is_child_of}
use Rattle.px_core.proofs.Paths.{same-self}
use Rattle.px_flat.specs.declared.flat.Flat.{Flat}
use Rattle.px_flat.specs.Flat.{plan_of}
use Rattle.px_flat.specs.Row.{site_in, is_below, after_last, parent_number}
use Rattle.px_flat.proofs.Known.{IsSound}
use Rattle.px_flat.proofs.Tables.{flat_sound}
use Rattle.px_micro.proofs.Ancestors.{IsUnder, placed}

-- one node is below another
abbrev pub IsBelow : List Site → ℕ → ℕ → Type 0
IsBelow plan node other = is_below (site_in plan node).path (site_in plan other) ≡ true

-- ---- where descendants stand

pub behind : (plan : List Site) (node other : ℕ) → IsSound plan → node < length plan → other < length plan
    → IsBelow plan node other → (node < other) × (other < after_last plan node)
behind plan node other sound here there below =
    let both = and_parts (nat_lt node other) (nat_lt other (after_last plan node)) (sym (sound.below node here other there) ∙ below) in
    (ltb-true node other both.0, ltb-true other (after_last plan node) both.1)

pub among : (plan : List Site) (node other : ℕ) → IsSound plan → node < length plan → other < length plan
    → node < other → other < after_last plan node → IsBelow plan node other
among plan node other sound here there after before =
    sound.below node here other there
    ∙ and_from (nat_lt node other) (nat_lt other (after_last plan node)) (lt-ltb node other after)
    (lt-ltb other (after_last plan node) before)

short_run : (p : Site → Bool) (sites : List Site) → length (take_while p sites) ≤ length sites
short_run p sites = omega (arith, length-take (prefix_len p sites) sites)

pub end_within : (plan : List Site) (node : ℕ) → node < length plan → after_last plan node ≤ length plan
end_within plan node here = grind (arith, common_steps, short_run, length-drop)

-- ---- parents

-- the number of a node by its path
pub same_node : (plan : List Site) (a b : ℕ) → IsSound plan → a < length plan → b < length plan
    → is_same (site_in plan a).path (site_in plan b).path ≡ true → a ≡ b
same_node plan a b sound here there same =
    sound.distinct a b here there (same_text (site_in plan a).path (site_in plan b).path (sym same))

-- what is below a node's parent is above the node, and so is the parent
pub above_parent : (plan : List Site) (node other : ℕ) (under : IsUnder plan other) → IsBelow plan node under.parent
    → IsBelow plan node other
above_parent plan node other under below =
    ap (list_any (is_same (site_in plan node).path)) under.above
    ∙ or_right (is_same (site_in plan node).path (site_in plan under.parent).path)
    (list_any (is_same (site_in plan node).path) (site_in plan under.parent).above) below

pub parent_above : (plan : List Site) (node : ℕ) (under : IsUnder plan node) → IsBelow plan under.parent node
parent_above plan node under = grind (arith, common_steps, or_left, same-self)

-- what is above a node is its parent, or above its parent
pub record IsParentOr (plan : List Site) (node other : ℕ) : Type 0 where
  pub under : IsUnder plan other
  pub either : (under.parent ≡ node) ⊎ IsBelow plan node under.parent

pub parent_or : (flat : Flat) (node other : ℕ) → node < length (plan_of flat) → other < length (plan_of flat)
    → IsBelow (plan_of flat) node other → IsParentOr (plan_of flat) node other
parent_or flat node other here there below = elim (placed flat other there) [
  | inl top ↦
      let none : false ≡ true = sym (ap (list_any (is_same (site_in (plan_of flat) node).path)) top.above) ∙ below in
      absurd (cc none)
  | inr under ↦
      let plan : List Site = plan_of flat in
      let own : List ℕ = (site_in plan node).path in
      let found : (is_same own (site_in plan under.parent).path || list_any (is_same own) (site_in plan under.parent).above) ≡ true =
      sym (ap (list_any (is_same own)) under.above) ∙ below in
      record {
        under = under;
        either = elim (or_cases (is_same own (site_in plan under.parent).path)
            (list_any (is_same own) (site_in plan under.parent).above) found) [
              | inl same ↦ inl (sym (same_node plan node under.parent (flat_sound flat) here (omega (arith, under.before, there)) same))
              | inr more ↦ inr more
            ];
      }
]

-- what is below a node that is below another is below the other
pub below_below : (flat : Flat) (node middle other few : ℕ) → node < length (plan_of flat) → middle < length (plan_of flat)
    → other < length (plan_of flat) → other < few → IsBelow (plan_of flat) node middle → IsBelow (plan_of flat) middle other
    → IsBelow (plan_of flat) node other
below_below flat node middle other zero here mid there small upper lower = absurd (omega (arith, small))
below_below flat node middle other (suc few) here mid there small upper lower =
    let plan : List Site = plan_of flat in
    let found = parent_or flat middle other mid there lower in
    above_parent plan node other found.under (elim found.either [
      | inl is ↦ subst (IsBelow plan node) (sym is) upper
      | inr below ↦ below_below flat node middle found.under.parent few here mid
          (omega (arith, found.under.before, there)) (omega (arith, found.under.before, small)) upper below
    ])

-- ---- children

-- the parent of a child
pub child_parent : (plan : List Site) (node other : ℕ) (under : IsUnder plan other) → IsSound plan → node < length plan
    → other < length plan → is_child_of (site_in plan node).path (site_in plan other) ≡ true → under.parent ≡ node
child_parent plan node other under sound here there child =
    same_node plan under.parent node sound (omega (arith, under.before, there)) here (rw under.above at child)

-- a child by its path is a child by its number
pub child_is : (flat : Flat) (node child : ℕ) → node < length (plan_of flat) → child < length (plan_of flat)
    → is_child_of (site_in (plan_of flat) node).path (site_in (plan_of flat) child) ≡ true
    → parent_number (plan_of flat) child ≡ Some node
child_is flat node child here there is = elim (placed flat child there) [
  | inl top ↦ absurd (cc (rw top.above at is))
  | inr under ↦ under.number ∙ ap Some (child_parent (plan_of flat) node child under (flat_sound flat) here there is)
]

-- and the other way round
pub is_child : (flat : Flat) (node child : ℕ) → child < length (plan_of flat)
    → parent_number (plan_of flat) child ≡ Some node
    → is_child_of (site_in (plan_of flat) node).path (site_in (plan_of flat) child) ≡ true
is_child flat node child there is = grind (arith, common_steps, placed, same-self)

-- a child is below its parent
pub child_below : (flat : Flat) (node other : ℕ) → node < length (plan_of flat) → other < length (plan_of flat)
    → is_child_of (site_in (plan_of flat) node).path (site_in (plan_of flat) other) ≡ true → IsBelow (plan_of flat) node other
child_below flat node other here there child = elim (placed flat other there) [
  | inl top ↦ absurd (cc (rw top.above at child))
  | inr under ↦
      subst (λ n. IsBelow (plan_of flat) n other)
      (child_parent (plan_of flat) node other under (flat_sound flat) here there child)
      (parent_above (plan_of flat) other under)
]

-- what is below a node's descendant is no child of the node
pub no_grandchild : (flat : Flat) (node middle other : ℕ) → node < length (plan_of flat) → middle < length (plan_of flat)
    → other < length (plan_of flat) → node < middle → IsBelow (plan_of flat) middle other
    → is_child_of (site_in (plan_of flat) node).path (site_in (plan_of flat) other) ≡ true → ⊥
no_grandchild flat node middle other here mid there after lower child =
    let plan : List Site = plan_of flat in
    let found = parent_or flat middle other mid there lower in
    let parent : found.under.parent ≡ node = child_parent plan node other found.under (flat_sound flat) here there child in
    elim found.either [
      | inl is ↦ omega (arith, parent, is, after)
      | inr below ↦
          let first = behind plan middle found.under.parent (flat_sound flat) mid (omega (arith, found.under.before, there)) below in
          omega (arith, parent, first.0, after)
    ]

-- a descendant is a child, if all that is below those between stands before it
pub next_child : (flat : Flat) (node other : ℕ) → node < length (plan_of flat) → other < length (plan_of flat)
    → IsBelow (plan_of flat) node other
    → ((k o : ℕ) → node < k → k < other → o < length (plan_of flat) → IsBelow (plan_of flat) k o → o < other)
    → is_child_of (site_in (plan_of flat) node).path (site_in (plan_of flat) other) ≡ true
next_child flat node other here there below done =
    let plan : List Site = plan_of flat in
    let found = parent_or flat node other here there below in
    let parent : found.under.parent ≡ node = elim found.either [
      | inl is ↦ is
      | inr above ↦
          let first = behind plan node found.under.parent (flat_sound flat) here (omega (arith, found.under.before, there)) above in
          let before : other < other = done found.under.parent other first.0 found.under.before there
          (parent_above plan other found.under) in
          absurd (omega (arith, before))
    ] in
    rw found.under.above (ap (λ n. is_same (site_in plan n).path (site_in plan node).path) parent
    ∙ same-self (site_in plan node).path)
