-- Who hears of a change.
use Rattle.std.specs.Prelude.{ℕ, ◌≡◌, Bool, not, ◌&&◌, List, ◌++◌, length, set, Some, if◌then◌else◌}
use Rattle.std.specs.List.{filter, range_with_len}
use Rattle.px_links.specs.Links.{LinksData, holder_of, is_absent, SameCounts}
use Rattle.px_links.specs.Lists.{nth}
use Rattle.px_told.specs.declared.asks.Asks.{Asks}
use Rattle.px_told.specs.Asking.{is_same, asks_at}

-- whether the node is told something else than before
abbrev pub is_told_anew : List Asks → List Asks → ℕ → Bool
is_told_anew before after node = not (is_same (asks_at after node) (asks_at before node))

-- the nodes that are, in rising order
abbrev pub told_anew : List Asks → List Asks → List ℕ
told_anew before after = filter (is_told_anew before after) (range_with_len 0 (length before))

-- those of the cells that are in no list stand behind the others of this one
abbrev pub with_absent : LinksData → ℕ → List ℕ → LinksData
with_absent links list cells = record {
  cells = links.cells;
  lists = set links.lists list (nth links.lists list ++ filter (is_absent links) cells);
}

-- each node that is told something else stands behind the others of the list, if it was in no list, and nothing else changes
pub record HasHeard (before after : List Asks) (old new : LinksData) (list : ℕ) : Type 0 where
  pub lists : new ≡ with_absent old list (told_anew before after)
  pub holders : (node : ℕ) → holder_of new node
      ≡ (if is_told_anew before after node && is_absent old node then Some list else holder_of old node)
  pub counts : SameCounts old new
