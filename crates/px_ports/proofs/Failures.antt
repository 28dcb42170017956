-- How a failed fetch moves the counts of the names.
use Rattle.std.proofs.Common.{◌≡◌, ◌≢◌, ◌+◌, ℕ, List, [], ◌∷◌, ◌++◌, true, false, cond, refl, add-zero, sym, arith}
use Rattle.std.specs.Prelude.{Err}
use Rattle.std.specs.Str.{bytes_eq}
use Rattle.std.proofs.lemmas.Slice.Eq.{bytes_eq-Decides}
use Rattle.std.proofs.lemmas.List.Sums.{sum_by-append}
use Rattle.px_ports.specs.Host.{CountsReads}
use Rattle.px_ports.specs.FailedFetches.{failures_in}
use Rattle.px_ports.specs.declared.host.HostFault.TheVariants.{Failed}

failures_in-append : (failed : List (List ℕ)) (name other : List ℕ) → failures_in (failed ++ name ∷ []) other ≡ failures_in failed other + cond (bytes_eq name other) 1 0
failures_in-append failed name other =
    omega (arith, sum_by-append (λ failure. cond (bytes_eq failure other) 1 0) failed (name ∷ []))

failures_in-same : (failed : List (List ℕ)) (name : List ℕ) → failures_in (failed ++ name ∷ []) name ≡ failures_in failed name + 1
failures_in-same failed name = rw (failures_in-append failed name name, (bytes_eq-Decides name name).1 refl) refl

failures_in-other : (failed : List (List ℕ)) (name other : List ℕ) → other ≢ name → failures_in (failed ++ name ∷ []) other ≡ failures_in failed other
failures_in-other failed name other differs =
    rw failures_in-append
    (elim (bytes_eq name other) as (λ hit. (hit ≡ true → name ≡ other) → failures_in failed other + cond hit 1 0 ≡ failures_in failed other)
    [ true ↦ λ same. absurd (differs (sym (same refl))) | false ↦ λ same. add-zero _ ]
    (bytes_eq-Decides name other).0)

-- one more failure of a name is what a failed fetch of it counts
pub counts_failure : (name : List ℕ) (failed now : List (List ℕ)) → now ≡ failed ++ name ∷ [] → CountsReads name (failures_in failed) (failures_in now) (Err Failed)
counts_failure name failed now is = rw is record {
  later = λ other. omega (arith, failures_in-append failed name other);
  others = λ other differs. failures_in-other failed name other differs;
  failed = λ _. omega (arith, failures_in-same failed name);
}
