-- The longest front of a list whose elements pass: what is taken by its length passes, and what is left begins with no
-- element that passes.
use Rattle.std.proofs.Common.{◌≡◌, ℕ, ◌<◌, Bool, true, false, List, length, take, drop, ap, ◌∙◌, arith, inl, inr}
use Rattle.std.specs.List.{list_all, prefix_len}
use Rattle.std.proofs.lemmas.Bool.{cases_lt}
use Rattle.std.proofs.lemmas.List.{get_or-take, drop_all, drop_more}
use Rattle.std.proofs.lemmas.List.Folds.{length-prefix_len}
use Rattle.std.proofs.lemmas.List.Sums.{list_all-from_AllPass, prefix_len_passes, prefix_len_stops}
use Rattle.px_lex.specs.Gap.{begins}

pub taken_pass : (p : ℕ → Bool) (xs front : List ℕ) → front ≡ take (prefix_len p xs) xs → list_all p front ≡ true
taken_pass p xs front e = ap (list_all p) e ∙ list_all-from_AllPass p (take (prefix_len p xs) xs) (λ k d below.
    let within : k < prefix_len p xs = omega (arith, below, length-prefix_len p xs) in
    ap p (get_or-take (prefix_len p xs) xs k d within) ∙ prefix_len_passes p xs k d within)

pub left_stops : (p : ℕ → Bool) (xs rest : List ℕ) → rest ≡ drop (prefix_len p xs) xs → begins p rest ≡ false
left_stops p xs rest e = ap (begins p) e ∙ elim (cases_lt (prefix_len p xs) (length xs)) [
  | inl inside ↦ ap (begins p) (drop_more xs (prefix_len p xs) 0 inside) ∙ prefix_len_stops p xs 0 inside
  | inr past ↦ ap (begins p) (drop_all (prefix_len p xs) xs past)
]
