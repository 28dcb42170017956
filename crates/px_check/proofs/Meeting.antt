-- The distinct tolerances, one after another.
use Rattle.std.proofs.Common.{◌≡◌, ℕ, ◌+◌, Bool, true, false, nat_eq, nat_lt, ◌==◌, List, [], ◌∷◌, ◌++◌, length, Option, Some, None, is_some, if◌then◌else◌, ◌≤◌, ◌||◌, ◌⊎◌, inl, inr, refl, ap, ◌∙◌, arith}
use Rattle.std.proofs.lemmas.Bool.Decides.{nat_tests}
use Rattle.std.proofs.lemmas.List.Folds.{fold_stays}
use Rattle.std.specs.Cmp.{nat_eq_equiv}
use Rattle.std.specs.List.{list_any}
use Rattle.px_syntax.specs.declared.expr.Tolerance.{Tolerance}
use Rattle.px_syntax.specs.declared.fault.FaultKind.TheVariants.{TooLarge}
use Rattle.px_syntax.specs.Fault.{fault_at}
use Rattle.px_syntax.specs.Tolerances.{passing_tolerance}
use Rattle.px_check.specs.Found.{passed_fault}
use Rattle.px_check.specs.Tolerances.{Met, meet_one, met_all}

passed_stays : (before : List ℕ) (token : ℕ) (tolerances : List Tolerance)
    → passed_fault (met_all (record { before = before; passed = Some token }) tolerances).passed ≡ fault_at TooLarge token
passed_stays before token tolerances =
    ap (λ (met : Met). passed_fault met.passed) (fold_stays meet_one (record { before = before; passed = Some token }) (λ tolerance. refl) tolerances)

pub passed_met : (before : List ℕ) (tolerances : List Tolerance)
    → passed_fault (met_all (record { before = before; passed = None }) tolerances).passed ≡ passing_tolerance before tolerances
passed_met before [] = refl
passed_met before (tolerance ∷ tolerances) =
    by (list_any (nat_eq tolerance.distance) before) (nat_lt 16 (length before + 1)) (passed_met before tolerances)
    (passed_stays before tolerance.token tolerances) (passed_met (before ++ tolerance.distance ∷ []) tolerances)
  where
    by : (known passes : Bool)
        → passed_fault (met_all (record { before = before; passed = None }) tolerances).passed ≡ passing_tolerance before tolerances
        → passed_fault (met_all (record { before = before; passed = Some tolerance.token }) tolerances).passed
        ≡ fault_at TooLarge tolerance.token
        → passed_fault (met_all (record { before = before ++ tolerance.distance ∷ []; passed = None }) tolerances).passed
        ≡ passing_tolerance (before ++ tolerance.distance ∷ []) tolerances
        → passed_fault (met_all (if known then record { before = before; passed = None }
        else if passes then record { before = before; passed = Some tolerance.token }
        else record { before = before ++ tolerance.distance ∷ []; passed = None }) tolerances).passed
        ≡ (if known then passing_tolerance before tolerances
        else if passes then fault_at TooLarge tolerance.token
        else passing_tolerance (before ++ tolerance.distance ∷ []) tolerances)
    by true passes again stays rest = again
    by false true again stays rest = stays
    by false false again stays rest = rest

-- ---- one more

known_either : (distance : ℕ) (before : List ℕ)
    → list_any (nat_eq distance) before ≡ list_any (λ other. nat_eq other distance) before
known_either distance [] = refl
known_either distance (first ∷ rest) = λ i. nat_eq_equiv.symm distance first i || known_either distance rest i

abbrev met : List ℕ → Option ℕ → Met
met before passed = record { before = before; passed = passed }

module _ (before : List ℕ) (tolerance : Tolerance) where
  -- the limit is passed, or the tolerance is no new one
  pub stays : (passed : Option ℕ)
      → (is_some passed ≡ true) ⊎ (list_any (λ other. nat_eq other tolerance.distance) before ≡ true)
      → met before passed ≡ meet_one (met before passed) tolerance
  stays (Some token) h = refl
  stays None (inl h) = absurd (let e : false ≡ true = h in cc)
  stays None (inr h) = rw (known_either tolerance.distance before ∙ h) refl

  module _ (is_new : list_any (λ other. nat_eq other tolerance.distance) before ≡ false) where
    pub passes : (passed : Option ℕ) → is_some passed ≡ false → (length before == 16) ≡ true
        → met before (Some tolerance.token) ≡ meet_one (met before passed) tolerance
    passes (Some token) none full = absurd (let e : true ≡ false = none in cc)
    passes None none full =
        let over : nat_lt 16 (length before + 1) ≡ true = grind (arith, nat_tests) in
        rw (known_either tolerance.distance before ∙ is_new, over) refl

    pub adds : (passed : Option ℕ) → is_some passed ≡ false → (length before == 16) ≡ false → length before ≤ 16
        → (items : List ℕ) → items ≡ before ++ tolerance.distance ∷ []
        → met items passed ≡ meet_one (met before passed) tolerance
    adds (Some token) none not_full within items is = absurd (let e : true ≡ false = none in cc)
    adds None none not_full within items is =
        let under : nat_lt 16 (length before + 1) ≡ false = grind (arith, nat_tests) in
        rw (is, known_either tolerance.distance before ∙ is_new, under) refl
