-- What stands behind a sign.
use Rattle.std.proofs.Common.{◌≡◌, ◌≢◌, ℕ, List, [], ◌∷◌, ◌==◌, Option, Some, None, refl, ap, inl, inr}
use Rattle.std.specs.Borrow.{Bor}
use Rattle.std.specs.Option.{option_copied, MatchOption}
use Rattle.std.proofs.lemmas.Bool.{cases_Bool, eqb-true, eq-eqb}
use Rattle.px_script.specs.Place.{behind_sign}

is_none : (sign : ℕ) (text : List ℕ) → ((rest : List ℕ) → text ≢ sign ∷ rest) → None ≡ behind_sign sign text
is_none sign [] other = refl
is_none sign (c ∷ cs) other = elim (cases_Bool (c == sign)) [
  | inl is ↦ absurd (other cs (ap (λ c. c ∷ cs) (eqb-true c sign is)))
  | inr isnt ↦ rw isnt refl
]

pub sign_stripped : (sign : ℕ) (text : List ℕ) (found : Option (Bor (List ℕ)))
    → MatchOption found ((rest : List ℕ) → text ≢ sign ∷ rest) (λ rest. text ≡ sign ∷ rest.now)
    → option_copied found ≡ behind_sign sign text
sign_stripped sign text None other = is_none sign text other
sign_stripped sign text (Some rest) is = rw (is, eq-eqb sign sign refl) refl
