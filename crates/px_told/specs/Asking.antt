-- What can be asked of those below.
use Rattle.std.specs.Prelude.{ℕ, Bool, false, ◌&&◌, ◌||◌, List, slice_index_or}
use Rattle.std.specs.Bool.{beq}
use Rattle.px_told.specs.declared.asks.Asks.{Asks}

-- what one that asks nothing asks
abbrev pub nothing : Asks
nothing = record { exit = false; invariant = false; end = false }

-- what either asks
abbrev pub either : Asks → Asks → Asks
either one other = record {
  exit = one.exit || other.exit;
  invariant = one.invariant || other.invariant;
  end = one.end || other.end;
}

-- whether both ask the same
abbrev pub is_same : Asks → Asks → Bool
is_same one other = beq one.exit other.exit && (beq one.invariant other.invariant && beq one.end other.end)

-- what stands there for a node
abbrev pub asks_at : List Asks → ℕ → Asks
asks_at asks node = slice_index_or asks node nothing
