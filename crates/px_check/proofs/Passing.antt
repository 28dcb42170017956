-- The cells pass their limit where they were counted to.
use Rattle.std.proofs.Common.{◌≡◌, ℕ, ◌+◌, Bool, true, false, nat_lt, List, [], ◌∷◌, Some, None, if◌then◌else◌, refl, ap}
use Rattle.std.proofs.lemmas.List.Folds.{fold_stays}
use Rattle.px_syntax.specs.Fault.{fault_at}
use Rattle.px_syntax.specs.PlanFaults.{Cells, passing_fault}
use Rattle.px_syntax.specs.declared.fault.FaultKind.TheVariants.{TooLarge}
use Rattle.px_check.specs.Cells.{Count, count_one, counted}
use Rattle.px_check.specs.Found.{passed_fault}

passed_stays : (before token : ℕ) (cells : List Cells)
    → passed_fault (counted (record { before = before; passed = Some token }) cells).passed ≡ fault_at TooLarge token
passed_stays before token cells =
    ap (λ (count : Count). passed_fault count.passed) (fold_stays count_one (record { before = before; passed = Some token }) (λ variable. refl) cells)

pub passed_counted : (before : ℕ) (cells : List Cells)
    → passed_fault (counted (record { before = before; passed = None }) cells).passed ≡ passing_fault before cells
passed_counted before [] = refl
passed_counted before (variable ∷ variables) =
    by (nat_lt 65536 (before + variable.count)) (passed_stays before variable.token variables)
    (passed_counted (before + variable.count) variables)
  where
    by : (passes : Bool)
        → passed_fault (counted (record { before = before; passed = Some variable.token }) variables).passed
        ≡ fault_at TooLarge variable.token
        → passed_fault (counted (record { before = before + variable.count; passed = None }) variables).passed
        ≡ passing_fault (before + variable.count) variables
        → passed_fault (counted (if passes then record { before = before; passed = Some variable.token }
        else record { before = before + variable.count; passed = None }) variables).passed
        ≡ (if passes then fault_at TooLarge variable.token else passing_fault (before + variable.count) variables)
    by true stays rest = stays
    by false stays rest = rest
