-- What a failure leaves of bytes that were appended to.
use Rattle.std.proofs.Common.{◌≡◌, ℕ, List, ◌++◌, take, length, ap, ◌∙◌}
use Rattle.std.proofs.Math.Seq.{take-append_seam}
use Rattle.px_value.proofs.General.{begins_further}

-- bytes that begin with what was there and more begin with what was there
pub begins_with : (old more mid new : List ℕ) → mid ≡ old ++ more → take (length mid) new ≡ mid → take (length old) new ≡ old
begins_with old more mid new longer begins =
    begins_further old mid new (ap (take (length old)) longer ∙ take-append_seam old more) begins
