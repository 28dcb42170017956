-- What is read of all the bytes, of whatever is spelled by bytes and read of their front.
use Rattle.std.proofs.Common.{◌≡◌, ℕ, Bool, true, cond, eqb, List, [], ◌++◌, length, Option, Some, None, sym, ap, subst, refl, ◌∙◌}
use Rattle.std.specs.Prelude.{IsTrue, Result, Ok, Err, IfOk, IsErrOf}
use Rattle.std.proofs.lemmas.Bool.{eqb-true}
use Rattle.std.proofs.lemmas.List.{append-nil, nil_from_length}
use Rattle.std.proofs.lemmas.Option.{cond_some, same_Some}
use Rattle.px_event.specs.Reading.{Read, whole, Gives}
use Rattle.px_event.specs.declared.fault.DecodeFault.{DecodeFault}
use Rattle.px_event.specs.declared.fault.DecodeFault.TheVariants.{Bad, NoMemory}
use Rattle.px_event.proofs.Fields.{IsBytes, Takes, bind_some, after}

abbrev if_all : {X : Type 0} → X × List ℕ → Option X
if_all read = cond (eqb (length read.1) 0) (Some read.0) None

module _ {X : Type 0} (read_at : List ℕ → Read X) (spelled : X → List ℕ) (fits : X → Bool) where
  pub all_takes : ((bytes : List ℕ) (read : X × List ℕ) → IsBytes bytes → read_at bytes ≡ Some read → Takes bytes (spelled read.0) read.1 × (fits read.0 ≡ true))
      → (bytes : List ℕ) (x : X) → IsBytes bytes → whole (read_at bytes) ≡ Some x → (fits x ≡ true) × (bytes ≡ spelled x)
  all_takes takes bytes x are_bytes e =
      let b = bind_some (read_at bytes) if_all x e in
      let t = takes bytes b.0 are_bytes b.1 in
      let o = cond_some (eqb (length b.0.1) 0) b.0.0 x b.2 in
      let none : b.0.1 ≡ [] = nil_from_length b.0.1 (eqb-true (length b.0.1) 0 o.0) in
      let all : bytes ≡ spelled b.0.0 = t.0.parts ∙ ap (λ (l : List ℕ). spelled b.0.0 ++ l) none ∙ append-nil (spelled b.0.0) in
      subst (λ (y : X). (fits y ≡ true) × (bytes ≡ spelled y)) o.1 (t.1, all)

  pub all_again : ((x : X) (rest : List ℕ) → fits x ≡ true → read_at (spelled x ++ rest) ≡ Some (x, rest))
      → (x : X) → fits x ≡ true → whole (read_at (spelled x)) ≡ Some x
  all_again again x fit = after (read_at (spelled x)) if_all (x, []) _ (ap read_at (sym (append-nil (spelled x))) ∙ again x [] fit) refl

-- what decoding answers, where it goes as reading does
module _ {X : Type 0} (decoded : List ℕ → Option X) (spelled : X → List ℕ) (fits : X → Bool) where
  pub answers : ((bytes : List ℕ) (x : X) → IsBytes bytes → decoded bytes ≡ Some x → (fits x ≡ true) × (bytes ≡ spelled x))
      → (bytes : List ℕ) (result : Result X DecodeFault) → IsBytes bytes → Gives (λ (x : X). x) (decoded bytes) result
      → IfOk result (λ x. IsTrue (fits x) × (bytes ≡ spelled x))
  answers takes bytes (Ok x) are_bytes gives = takes bytes x are_bytes gives
  answers takes bytes (Err fault) are_bytes gives = tt

  pub answers_bad : ((x : X) → fits x ≡ true → decoded (spelled x) ≡ Some x)
      → (bytes : List ℕ) (result : Result X DecodeFault) → Gives (λ (x : X). x) (decoded bytes) result → IsErrOf result Bad
      → (x : X) → IsTrue (fits x) → bytes ≡ spelled x → ⊥
  answers_bad again bytes (Ok found) gives bad x fit is = cc
  answers_bad again bytes (Err Bad) gives bad x fit is =
      let some : decoded bytes ≡ Some x = ap decoded is ∙ again x fit in
      cc
  answers_bad again bytes (Err NoMemory) gives bad x fit is = cc

  -- no bytes are those of two
  pub one_spelled : ((x : X) → fits x ≡ true → decoded (spelled x) ≡ Some x)
      → (a b : X) → fits a ≡ true → fits b ≡ true → spelled a ≡ spelled b → a ≡ b
  one_spelled again a b fit_a fit_b same = same_Some a b (sym (again a fit_a) ∙ ap decoded same ∙ again b fit_b)
