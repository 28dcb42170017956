-- Writers that are sorted by their fields stand in the order in which they go.
use Rattle.std.proofs.Common.{◌≡◌, Bool, true, false, cond, ◌&&◌, ◌||◌, List, Ordering, Less, Equal, Greater, get_or, refl, sym, ◌∙◌}
use Rattle.std.specs.Prelude.{nat_eq, nat_lt}
use Rattle.std.specs.Cmp.{IsTotalOrder}
use Rattle.std.specs.List.Sorted.{IsSorted}
use Rattle.std.specs.Ordering.{is_lt, nat_cmp, ordering_then}
use Rattle.std.proofs.lemmas.Cmp.{nat_cmp_total, on_total, then_total}
use Rattle.std.proofs.lemmas.List.Sorted.{ranks_by, sorted_far}
use Rattle.px_assign.specs.declared.order.Writer.{Writer}
use Rattle.px_assign.specs.Ordering.{IsOrdered, stands_before}

abbrev pub by_fields : Writer → Writer → Ordering
by_fields a b =
    ordering_then (nat_cmp a.variable b.variable)
    (ordering_then (nat_cmp a.priority b.priority) (nat_cmp a.node b.node))

total : IsTotalOrder by_fields
total = then_total (on_total (λ (writer : Writer). writer.variable) nat_cmp_total)
    (then_total (on_total (λ (writer : Writer). writer.priority) nat_cmp_total)
    (on_total (λ (writer : Writer). writer.node) nat_cmp_total))

-- the first field decides, and where it is the same the rest does
decided : (less same : Bool) (then_by : Ordering) (rest : Bool) → is_lt then_by ≡ rest
    → is_lt (ordering_then (cond less Less (cond same Equal Greater)) then_by) ≡ (less || (same && rest))
decided true same then_by rest is = refl
decided false true then_by rest is = is
decided false false then_by rest is = refl

last : (less same : Bool) → is_lt (cond less Less (cond same Equal Greater)) ≡ less
last true same = refl
last false true = refl
last false false = refl

stands_is : (a b : Writer) → is_lt (by_fields a b) ≡ stands_before a b
stands_is a b =
    decided (nat_lt a.variable b.variable) (nat_eq a.variable b.variable)
    (ordering_then (nat_cmp a.priority b.priority) (nat_cmp a.node b.node))
    (nat_lt a.priority b.priority || (nat_eq a.priority b.priority && nat_lt a.node b.node))
    (decided (nat_lt a.priority b.priority) (nat_eq a.priority b.priority) (nat_cmp a.node b.node) (nat_lt a.node b.node)
    (last (nat_lt a.node b.node) (nat_eq a.node b.node)))

pub ordered : (writers : List Writer) → IsSorted by_fields writers → IsOrdered writers
ordered writers sorted i j d up inside =
    sym (stands_is (get_or writers j d) (get_or writers i d))
    ∙ sorted_far (λ a b. is_lt (by_fields a b)) (ranks_by total (λ writer. writer)) writers sorted i j d up inside
