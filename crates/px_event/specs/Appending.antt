-- What a call means that appends bytes to a list.
use Rattle.std.specs.Prelude.{◌≡◌, ◌≤◌, ◌+◌, ◌++◌, List, ℕ, length, take, Result, OnOk, OnErr, IsOk, vec_len, vec_capacity, Vec}

-- at Ok the bytes stand behind what was there, and it is Ok where they have room; after an Err the list still begins
-- with what it had, and room is never lost
pub record Appends {Z E : Type 0} (bytes : List ℕ) (old new : Vec ℕ Z) (result : Result Unit E) : Type 0 where
  pub ok : OnOk result (new.items ≡ old.items ++ bytes)
  pub succeeds : vec_len old + length bytes ≤ vec_capacity old → IsOk result
  pub err : OnErr result (take (length old.items) new.items ≡ old.items)
  pub capacity : vec_capacity old ≤ vec_capacity new
