-- The byte that tells a version.
use Rattle.std.proofs.Common.{◌≡◌, ◌≢◌, ◌⊎◌, inl, inr, ℕ, refl, arith}
use Rattle.std.proofs.lemmas.Bool.{cases_eq}
use Rattle.px_journal.specs.Layout.{digit}
use Rattle.px_journal.specs.declared.version.Version.{Version}
use Rattle.px_journal.specs.declared.version.Version.TheVariants as versions

-- no byte tells two versions
pub one_digit : (a b : Version) → digit a ≡ digit b → a ≡ b
one_digit versions.One versions.One same = refl
one_digit versions.One versions.Two same = absurd (omega (arith, same))
one_digit versions.Two versions.One same = absurd (omega (arith, same))
one_digit versions.Two versions.Two same = refl

pub no_digit : (byte : ℕ) → byte ≢ 49 → byte ≢ 50 → (version : Version) → byte ≢ digit version
no_digit byte not_one not_two versions.One = not_one
no_digit byte not_one not_two versions.Two = not_two

pub told_version : (byte : ℕ) → ((version : Version) × (byte ≡ digit version)) ⊎ ((version : Version) → byte ≢ digit version)
told_version byte = elim (cases_eq byte 49) [
  | inl one ↦ inl (versions.One, one)
  | inr not_one ↦ elim (cases_eq byte 50) [
    | inl two ↦ inl (versions.Two, two)
    | inr not_two ↦ inr (no_digit byte not_one not_two)
  ]
]
