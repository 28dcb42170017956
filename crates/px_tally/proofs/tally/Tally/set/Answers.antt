use Rattle.std.proofs.Common.{◌≡◌, ℕ, ◌+◌, ◌^◌, cond, set, subst, ◌-◌, ◌<◌, Bool, true, false, not, None, Some, get_or, length, sym, ap, refl, ◌∙◌, arith}
use Rattle.std.proofs.Math.Bool.{beq}
use Rattle.std.proofs.lemmas.List.{get_or_read}
use Rattle.px_tally.specs.Keeping.{AreTotals}
use Rattle.px_tally.specs.Tally.{TallyData}
use Rattle.px_tally.proofs.Counting.{own_there, own_total, totals-stay, totals-turn}
use Rattle.px_tally.proofs.tally.Tally.set.Goals as goal
use Rattle.px_tally.proofs.tally.Tally.set.Goals.{After-index-2}

differ : (was counts : Bool) → beq was counts ≡ false → was ≡ not counts
differ true true is = absurd (cc)
differ true false is = refl
differ false true is = refl
differ false false is = absurd (cc)

within : (c : After-index-2) → c.args.member < length c.self.inside.group_of.items
within c = rw (ap (λ (now : TallyData). length now.group_of) c.self.view_is) c.requires

turns : (c : After-index-2) → get_or c.self.inside.counting.items c.args.member false ≡ not c.args.counts
turns c =
    sym (get_or_read c.self.inside.counting.items c.args.member c.index.result.now
    (omega (arith, within c, c.self.invariant.sized)) c.index.ensures false)
    ∙ differ c.index.result.now c.args.counts c.if-index-counts.false

of : (c : After-index-2) → get_or c.self.inside.group_of.items c.args.member None ≡ c.index-2.result.now
of c = sym (get_or_read c.self.inside.group_of.items c.args.member c.index-2.result.now (within c) c.index-2.ensures None)

pub invariant_of-self-in_default : goal.invariant_of-self-in_default
invariant_of-self-in_default c =
    let t = c.self.inside in
    let at = (goal.at.invariant_of-self-in_default c).After-index-2 in
    totals-stay t.totals.items t.group_of.items t.counting.items c.self.invariant c.args.member (within at) c.args.counts
    (turns at) (of at ∙ c.in_default.is)

-- the member's group, and what its total becomes
module _ (c : After-index-2) (group : ℕ) (is : c.index-2.result.now ≡ Some group) where
  total : (read : ℕ) → read ≡ get_or c.self.inside.totals.items group read
      → read ≡ get_or c.self.inside.totals.items group 0
  total read found =
      get_or_read c.self.inside.totals.items group read (own_there c.self.inside.totals.items
      c.self.inside.group_of.items c.self.inside.counting.items c.self.invariant c.args.member (within c)
      c.args.counts (turns c) group (of c ∙ is)) found 0

  own : (counts : Bool) → c.args.counts ≡ counts → (new : ℕ)
      × (new + cond (not counts) 1 0 ≡ get_or c.self.inside.totals.items group 0 + cond counts 1 0) × (new < 2 ^ 32)
  own counts same =
      let new = own_total c.self.inside.totals.items c.self.inside.group_of.items c.self.inside.counting.items
      c.self.invariant c.args.member (within c) counts (turns c ∙ ap not same) group (of c ∙ is) in
      (_, new.0, new.1)

  -- the totals then
  turn : (counts : Bool) → c.args.counts ≡ counts → (new : ℕ)
      → new + cond (not counts) 1 0 ≡ get_or c.self.inside.totals.items group 0 + cond counts 1 0
      → AreTotals (set c.self.inside.totals.items group new) c.self.inside.group_of.items
      (set c.self.inside.counting.items c.args.member c.args.counts)
  turn counts same new changes = totals-turn c.self.inside.totals.items c.self.inside.group_of.items
      c.self.inside.counting.items c.self.invariant c.args.member (within c) c.args.counts (turns c) group new (of c ∙ is)
      (subst (λ counts. new + cond (not counts) 1 0 ≡ get_or c.self.inside.totals.items group 0 + cond counts 1 0)
      (sym same) changes)

pub overflow_add-index_mut : goal.overflow_add-index_mut
overflow_add-index_mut c =
    let at = (goal.at.overflow_add-index_mut c).After-index-2 in
    let is = total at c.in-Some.group c.in-Some.is _ c.index_mut-then-counts.ensures.value in
    let new = own at c.in-Some.group c.in-Some.is true c.if-counts.true in
    omega (arith, is, new.1, new.2)

pub overflow_sub-index_mut : goal.overflow_sub-index_mut
overflow_sub-index_mut c =
    let at = (goal.at.overflow_sub-index_mut c).After-index-2 in
    let is = total at c.in-Some.group c.in-Some.is _ c.index_mut-else-counts.ensures.value in
    let new = own at c.in-Some.group c.in-Some.is false c.if-counts.false in
    omega (arith, is, new.1)

pub invariant_of-self : goal.invariant_of-self
invariant_of-self c =
    let at = (goal.at.invariant_of-self c).After-index-2 in
    let is = total at c.in-Some.group c.in-Some.is _ c.index_mut-then-counts.ensures.value in
    turn at c.in-Some.group c.in-Some.is true c.if-counts.true (c.index_mut-then-counts.result.now + 1) (omega (arith, is))

pub invariant_of-self-else-counts : goal.invariant_of-self-else-counts
invariant_of-self-else-counts c =
    let at = (goal.at.invariant_of-self-else-counts c).After-index-2 in
    let is = total at c.in-Some.group c.in-Some.is _ c.index_mut-else-counts.ensures.value in
    let new = own at c.in-Some.group c.in-Some.is false c.if-counts.false in
    turn at c.in-Some.group c.in-Some.is false c.if-counts.false (c.index_mut-else-counts.result.now - 1)
    (omega (arith, is, new.1))
