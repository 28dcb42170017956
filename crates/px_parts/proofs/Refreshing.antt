-- Cells that are written over, one after another, by those of a plan that has not begun.
use Rattle.std.proofs.Common.{◌≡◌, ℕ, ◌+◌, ◌<◌, ◌≤◌, List, length, replicate, get_or, ap, sym, ◌∙◌, subst, arith, refl, IsNone}
use Rattle.std.proofs.lemmas.List.{get_or_append_left, get_or-replicate, length-replicate, length-set, take_all}
use Rattle.px_value.specs.declared.value.Value.{Value}
use Rattle.px_value.specs.declared.value.Value.TheVariants as values
use Rattle.px_cells.specs.Marked.{Contents, written}
use Rattle.px_cells.proofs.Writing.{front_more}
use Rattle.px_core.specs.Plan.{Site}
use Rattle.px_flat.specs.Layout.{variable_cells, node_cell, all_cells}
use Rattle.px_flat.specs.Numbered.{held}
use Rattle.px_parts.specs.Fresh.{at_rest, all_at_rest, first_cells, AreFreshUpTo}
use Rattle.px_parts.proofs.Beginning.{long_first_cells, held_at_rest}

pub none_fresh : (plan : List Site) (cells : Contents Value) → length cells.values ≡ all_cells plan → IsNone cells.marked
    → AreFreshUpTo plan 0 cells
none_fresh plan cells long unmarked = record { long = long; front = refl; unmarked = unmarked }

fresh_more : (plan : List Site) (at : ℕ) (value : Value) (old new : Contents Value) → at < all_cells plan
    → held (first_cells plan) at ≡ value → AreFreshUpTo plan at old → new ≡ written old at value
    → AreFreshUpTo plan (at + 1) new
fresh_more plan at value old new within is before wrote = subst (AreFreshUpTo plan (at + 1)) (sym wrote) (record {
  long = length-set old.values at value ∙ before.long;
  front = front_more old.values (first_cells plan) at value values.Unknown (omega (arith, within, before.long))
      (omega (arith, within, long_first_cells plan)) before.front is;
  unmarked = before.unmarked;
})

-- one variable more
pub variable_fresh : (plan : List Site) (at : ℕ) (old new : Contents Value) → at < variable_cells plan
    → AreFreshUpTo plan at old → new ≡ written old at values.Unknown → AreFreshUpTo plan (at + 1) new
variable_fresh plan at old new within before wrote =
    let long : length (replicate (variable_cells plan) values.Unknown) ≡ variable_cells plan =
    length-replicate (variable_cells plan) values.Unknown in
    fresh_more plan at values.Unknown old new (omega (arith, within))
    (get_or_append_left (replicate (variable_cells plan) values.Unknown) (all_at_rest (length plan)) values.Unknown at (omega (arith, within, long))
    ∙ get_or-replicate (variable_cells plan) at values.Unknown values.Unknown within) before wrote

-- one cell more of a node
pub node_fresh : (plan : List Site) (node which at : ℕ) (value : Value) (old new : Contents Value) → node < length plan
    → which < 5 → at ≡ node_cell plan node + which → get_or at_rest which values.Unknown ≡ value
    → AreFreshUpTo plan (node_cell plan node + which) old → new ≡ written old at value
    → AreFreshUpTo plan (node_cell plan node + (which + 1)) new
node_fresh plan node which at value old new within some here is before wrote =
    let next : node_cell plan node + which + 1 ≡ node_cell plan node + (which + 1) = omega arith in
    subst (λ count. AreFreshUpTo plan count new) next
    (fresh_more plan (node_cell plan node + which) value old new (omega (arith, within, some)) (held_at_rest plan node which within some ∙ is)
    before (wrote ∙ ap (λ at. written old at value) here))

-- all of them
pub all_fresh : (plan : List Site) (cells : Contents Value) (count : ℕ) → all_cells plan ≤ count → AreFreshUpTo plan count cells
    → cells.values ≡ first_cells plan
all_fresh plan cells count whole fresh =
    sym (take_all count cells.values (omega (arith, whole, fresh.long))) ∙ fresh.front
    ∙ take_all count (first_cells plan) (omega (arith, whole, long_first_cells plan))
