-- Fronts of lists.
use Rattle.std.proofs.Common.{◌≡◌, ◌≤◌, List, [], ◌∷◌, ◌++◌, length, refl, sym, ap, ◌∙◌, append_assoc, append-nil, arith, length-append}
use Rattle.std.proofs.iter.runs.Sources.{no_more}
use Rattle.px_turn.specs.Histories.{IsFront}

module _ {A : Type 0} where
  pub front_self : (xs : List A) → IsFront xs xs
  front_self xs = ([], sym (append-nil xs))

  pub front_none : (xs : List A) → IsFront [] xs
  front_none xs = (xs, refl)

  pub front_trans : (xs ys zs : List A) → IsFront xs ys → IsFront ys zs → IsFront xs zs
  front_trans xs ys zs one other =
      (one.0 ++ other.0, other.1 ∙ ap (λ l. l ++ other.0) one.1 ∙ append_assoc xs one.0 other.0)

  pub front_more : (xs ys zs : List A) → IsFront xs ys → IsFront xs (ys ++ zs)
  front_more xs ys zs front = front_trans xs ys (ys ++ zs) front (zs, refl)

  pub front_length : (xs ys : List A) → IsFront xs ys → length xs ≤ length ys
  front_length xs ys front = omega (arith, ap (λ (l : List A). length l) front.1, length-append xs front.0)

  -- a front that is no shorter is the whole
  pub front_whole : (xs ys : List A) → IsFront xs ys → length ys ≤ length xs → ys ≡ xs
  front_whole xs ys front short =
      front.1 ∙ no_more xs front.0 (omega (arith, ap (λ (l : List A). length l) front.1, length-append xs front.0))

  -- of two fronts of a list the shorter is one of the longer
  of_both : (xs ys rest more : List A) → xs ++ rest ≡ ys ++ more → length xs ≤ length ys → IsFront xs ys
  of_both [] ys rest more same short = front_none ys
  of_both (x ∷ xs) [] rest more same short = absurd (omega arith)
  of_both (x ∷ xs) (y ∷ ys) rest more same short =
      let tails : xs ++ rest ≡ ys ++ more = cc in
      let heads : x ≡ y = cc in
      let front = of_both xs ys rest more tails (omega arith) in
      (front.0, λ i. sym heads i ∷ front.1 i)

  pub front_of_front : (xs ys whole : List A) → IsFront xs whole → IsFront ys whole → length xs ≤ length ys
      → IsFront xs ys
  front_of_front xs ys whole one other short = of_both xs ys one.0 other.0 (sym one.1 ∙ other.1) short
