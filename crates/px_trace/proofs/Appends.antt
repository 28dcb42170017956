-- What a failure leaves of a text that was appended to.
use Rattle.std.proofs.Common.{◌≡◌, ℕ, List, ◌++◌, Result, OnOk, OnErr}
use Rattle.std.proofs.Transfers.{starts_with_of_append}
use Rattle.std.proofs.lemmas.Result.{IfOk-equal, on_err_weaker}
use Rattle.px_value.proofs.General.{begins_further}
use Rattle.px_trace.specs.Appending.{Keeps}

-- what was there stays
pub keeps_on : (old more new : List ℕ) → new ≡ old ++ more → Keeps old new
keeps_on old more new e = starts_with_of_append new old more e

-- where a call has failed
pub err_further : {T E : Type 0} (r : Result T E) (old mid new : List ℕ) → Keeps old mid → OnErr r (Keeps mid new)
    → OnErr r (Keeps old new)
err_further r old mid new h k = on_err_weaker r (begins_further old mid new h) k

pub err_unchanged : {T E : Type 0} (r : Result T E) (old mid new : List ℕ) → Keeps old mid → OnErr r (new ≡ mid)
    → OnErr r (Keeps old new)
err_unchanged r old mid new h e = on_err_weaker r (λ (same : new ≡ mid). rw same h) e

pub ok_along : {T E : Type 0} (r : Result T E) (x a b : List ℕ) → a ≡ b → OnOk r (x ≡ a) → OnOk r (x ≡ b)
ok_along r x a b e h = IfOk-equal r x a b h e
