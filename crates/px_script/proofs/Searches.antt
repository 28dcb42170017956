-- The search for a row goes on behind one that it isn't.
use Rattle.std.proofs.Common.{◌≡◌, ◌-◌, ◌≤◌, Bool, false, List, [], ◌∷◌, length, get_or, take, drop, refl, arith}
use Rattle.std.specs.List.{find}
use Rattle.std.proofs.lemmas.List.{take_rest}

pub find_rest : {X : Type 0} (p : X → Bool) (xs : List X) (d : X) → 1 ≤ length xs → p (get_or xs 0 d) ≡ false
    → find p (take (length xs - 1) (drop 1 xs)) ≡ find p xs
find_rest p [] d some isnt = absurd (omega arith)
find_rest p (x ∷ xs) d some isnt = rw (take_rest (x ∷ xs) 1, isnt) refl
