-- When two ask the same.
use Rattle.std.proofs.Common.{◌≡◌, ℕ, Bool, true, ◌&&◌, List, Option, Some, None, refl}
use Rattle.std.specs.Cmp.{booleans_Decides}
use Rattle.std.proofs.Math.Bool.{beq}
use Rattle.std.proofs.lemmas.Bool.{and_parts}
use Rattle.px_told.specs.declared.asks.Asks.{Asks}
use Rattle.px_told.specs.Asking.{either, is_same, asks_at}
use Rattle.px_told.specs.Told.{asked_under}

pub same_asks : (one other : Asks) → is_same one other ≡ true → one ≡ other
same_asks one other is =
    let first = and_parts (beq one.exit other.exit) (beq one.invariant other.invariant && beq one.end other.end) is in
    let rest = and_parts (beq one.invariant other.invariant) (beq one.end other.end) first.1 in
    λ i. record {
      exit = (booleans_Decides one.exit other.exit).0 first.0 i;
      invariant = (booleans_Decides one.invariant other.invariant).0 rest.0 i;
      end = (booleans_Decides one.end other.end).0 rest.1 i;
    }

pub asks_same : (one : Asks) → is_same one one ≡ true
asks_same one = rw (itself one.exit, itself one.invariant, itself one.end) refl
  where
    itself : (bit : Bool) → beq bit bit ≡ true
    itself bit = (booleans_Decides bit bit).1 refl

-- what a node is to be told stays where what its parent asks or is told stays
pub same_under : (own told own_then told_then : List Asks) (found : Option ℕ)
    → ((parent : ℕ) → found ≡ Some parent
    → either (asks_at own parent) (asks_at told parent) ≡ either (asks_at own_then parent) (asks_at told_then parent))
    → asked_under own told found ≡ asked_under own_then told_then found
same_under own told own_then told_then None same = refl
same_under own told own_then told_then (Some parent) same = same parent refl
