-- Lists of parts are printed.
use Rattle.std.proofs.Common.{ℕ, List, [], ◌∷◌, ◌++◌, map, refl, sym, subst, append_assoc}
use Rattle.std.specs.Prelude.{codes}
use Rattle.std.specs.List.{flat_map, join_by}
use Rattle.px_lex.specs.declared.sign.Sign.TheVariants as signs
use Rattle.px_lex.specs.declared.token.Token.{Token}
use Rattle.px_syntax.specs.Form.{Form, sign, ◌then◌, each, with_commas}
use Rattle.px_print.proofs.Exprs.{Alike}
use Rattle.px_print.proofs.Printing.{Prints, follow, prints_as, prints_then, prints_nothing, prints_behind}
use Rattle.px_print.proofs.Tokens.{Stops, prints_any}

-- each part that is spelled among given tokens is printed before what may follow it
abbrev pub PrintsPart : {A : Type 0} → List ℕ → List Token → (A → Form) → (A → A) → (A → List ℕ) → (List ℕ → Type 0) → Type 0
PrintsPart {A} source given form plain text Next =
    (part : A) (from to : ℕ) → form part given from to → (rest : List ℕ) → Next rest → Prints source (Alike form plain part) (text part) rest

module _ {A : Type 0} {source : List ℕ} (given : List Token) (form : A → Form) (plain : A → A) (text : A → List ℕ) (Next : List ℕ → Type 0)
    (one : PrintsPart source given form plain text Next) (starts : (part : A) (rest : List ℕ) → Next (text part ++ rest)) where
  pub next_each : (parts : List A) (rest : List ℕ) → Next rest → Next (flat_map text parts ++ rest)
  next_each [] rest next = next
  next_each (part ∷ parts) rest next =
      subst Next (sym (append_assoc (text part) (flat_map text parts) rest)) (starts part (flat_map text parts ++ rest))

  pub prints_each : (parts : List A) (from to : ℕ) → each form parts given from to → (rest : List ℕ) → Next rest
      → Prints source (Alike (each form) (map plain) parts) (flat_map text parts) rest
  prints_each [] from to h rest next = prints_as (prints_nothing rest) (λ tokens from to r. ([], refl, r))
  prints_each (part ∷ parts) from to h rest next =
      let behind = prints_each parts h.0 to h.2 rest next in
      prints_as (prints_then behind (one part from h.0 h.1 (follow behind) (next_each parts rest next)))
      (λ tokens from to r. (r.1.0 ∷ r.2.0, (λ i. r.1.1 i ∷ r.2.1 i), (r.0, r.1.2, r.2.2)))

-- with commas between them
module _ {A : Type 0} {source : List ℕ} (given : List Token) (form : A → Form) (plain : A → A) (text : A → List ℕ)
    (one : PrintsPart source given form plain text Stops) where
  further : PrintsPart source given (λ part. sign signs.Comma then form part) plain (λ part. codes ", " ++ text part) Stops
  further part from to h rest stops =
      let next = prints_behind (codes " ") refl (one part h.0 to h.2 rest stops) in
      prints_as (prints_then next (prints_any signs.Comma (codes ",") (follow next) refl (λ c cs. refl)))
      (λ tokens from to r. (r.2.0, r.2.1, (r.0, r.1, r.2.2)))

  pub prints_commas : (parts : List A) (from to : ℕ) → with_commas form parts given from to → (rest : List ℕ) → Stops rest
      → Prints source (Alike (with_commas form) (map plain) parts) (join_by text (codes ", ") parts) rest
  prints_commas [] from to h rest stops = absurd h
  prints_commas (part ∷ parts) from to h rest stops =
      let behind = prints_each given (λ part. sign signs.Comma then form part) plain (λ part. codes ", " ++ text part) Stops further
      (λ part rest. (refl, refl)) parts h.0 to h.2 rest stops in
      let goes_on = next_each given (λ part. sign signs.Comma then form part) plain (λ part. codes ", " ++ text part) Stops further
      (λ part rest. (refl, refl)) parts rest stops in
      prints_as (prints_then behind (one part from h.0 h.1 (follow behind) goes_on))
      (λ tokens from to r. (r.1.0 ∷ r.2.0, (λ i. r.1.1 i ∷ r.2.1 i), (r.0, r.1.2, r.2.2)))
