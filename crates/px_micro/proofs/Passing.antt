-- A walk over the children of a node: the first stands behind the node, and each other one behind the last descendant of the
-- one before.
use Rattle.std.proofs.Common.{◌≡◌, ◌⊎◌, ℕ, ◌+◌, ◌<◌, true, List, length, subst, arith, inl, inr}
use Rattle.std.proofs.lemmas.Bool.{cases_order}
use Rattle.px_core.specs.Plan.{Site, is_child_of}
use Rattle.px_flat.specs.declared.flat.Flat.{Flat}
use Rattle.px_flat.specs.Flat.{plan_of}
use Rattle.px_flat.specs.Row.{site_in, after_last}
use Rattle.px_flat.proofs.Tables.{flat_sound}
use Rattle.px_micro.proofs.Families.{IsBelow, behind, among, end_within, below_below, no_grandchild}

-- all that is below the nodes behind this one, up to the next, stands before the next
pub record HavePassed (plan : List Site) (node next : ℕ) : Type 0 where
  pub first : node < next
  pub done : (k o : ℕ) → node < k → k < next → o < length plan → IsBelow plan k o → o < next

module _ (flat : Flat) (node next end : ℕ) (there : next < length (plan_of flat)) (is : end ≡ after_last (plan_of flat) next)
    (passed : HavePassed (plan_of flat) node next) where
  abbrev plan : List Site
  plan = plan_of flat

  -- a node behind the next, up to the end, is below it
  lower : (k : ℕ) → next < k → k < end → k < length plan → IsBelow plan next k
  lower k after before inside = among plan next k (flat_sound flat) there inside after (omega (arith, before, is))

  before_end : (o : ℕ) → o < length plan → IsBelow plan next o → o < end
  before_end o inside below = omega (arith, (behind plan next o (flat_sound flat) there inside below).1, is)

  stands : (k o : ℕ) → node < k → k < end → o < length plan → IsBelow plan k o
      → (k ≡ next) ⊎ ((k < next) ⊎ (next < k)) → o < end
  stands k o after before inside below (inl same) =
      before_end o inside (subst (λ n. IsBelow plan n o) same below)
  stands k o after before inside below (inr (inl earlier)) =
      omega (arith, passed.done k o after earlier inside below, is)
  stands k o after before inside below (inr (inr later)) =
      let within : k < length plan = omega (arith, before, is, end_within plan next there) in
      before_end o inside (below_below flat next k o (o + 1) there within inside (omega arith) (lower k later before within) below)

  -- and behind the descendants of the next
  pub passed_more : HavePassed plan node end
  passed_more = record {
    first = omega (arith, passed.first, is);
    done = λ k o after before inside below. stands k o after before inside below (cases_order k next);
  }

  -- a child that was passed was passed before, or is the next
  pub passed_child : (k : ℕ) → node < length plan → k < end → k < length plan
      → is_child_of (site_in plan node).path (site_in plan k) ≡ true → (k < next) ⊎ (k ≡ next)
  passed_child k here before inside child = by (cases_order k next)
    where
      by : (k ≡ next) ⊎ ((k < next) ⊎ (next < k)) → (k < next) ⊎ (k ≡ next)
      by (inl same) = inr same
      by (inr (inl earlier)) = inl earlier
      by (inr (inr later)) =
          absurd (no_grandchild flat node next k here there inside passed.first (lower k later before inside) child)
