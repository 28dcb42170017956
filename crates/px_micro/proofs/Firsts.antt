-- Of the writes of one variable the first counts.
use Rattle.std.proofs.Common.{◌≡◌, ℕ, Bool, true, false, cond, List, [], ◌∷◌, ◌++◌, get_or, fold, nat_eq, refl, ap, sym, ◌∙◌, arith, Option, Some, None, All, AllPairs, if◌then◌else◌}
use Rattle.std.specs.Cmp.{nat_eq_equiv}
use Rattle.std.specs.List.{find}
use Rattle.std.specs.Option.{option_or}
use Rattle.std.proofs.lemmas.Bool.{cond_both, eqb-true, false_from_ne_true}
use Rattle.std.proofs.lemmas.Grind.{common_steps}
use Rattle.std.proofs.lemmas.List.Elements.{All-nil, All-push}
use Rattle.std.proofs.lemmas.List.Folds.{find-append, list_any_none}
use Rattle.std.proofs.lemmas.List.Quantifiers.{all_pairs_push}
use Rattle.px_value.proofs.General.{none_found}
use Rattle.px_flat.proofs.Subtrees.{one_fails}
use Rattle.px_micro.specs.declared.effects.CellWrite.{CellWrite}
use Rattle.px_micro.specs.Turns.{is_written, with_write, first_writes}
use Rattle.px_micro.proofs.Hits.{fold_keeps}

-- a write of this variable
abbrev pub writes_to : ℕ → CellWrite → Bool
writes_to variable write = nat_eq write.variable variable

-- what holds of all holds of the first ones
all_with : (P : CellWrite → Type 0) (before : List CellWrite) (write : CellWrite) → P write → All P before
    → All P (with_write before write)
all_with P before write one all =
    cond_both (is_written before write.variable) before (before ++ write ∷ []) (All P) (λ _. all) (λ _. All-push P before write all one)

pub firsts_all : (P : CellWrite → Type 0) (writes : List CellWrite) → All P writes → All P (first_writes writes)
firsts_all P writes all = fold_keeps with_write (All P) P (all_with P) writes [] all (All-nil P)

-- one variable is written once
abbrev AreApart : ℕ → List CellWrite → Type 0
AreApart variable writes = AllPairs (λ a b. writes_to variable a ≡ true → writes_to variable b ≡ false) writes

apart_with : (variable : ℕ) (before : List CellWrite) (write : CellWrite) → AreApart variable before
    → AreApart variable (with_write before write)
apart_with variable before write apart =
    cond_both (is_written before write.variable) before (before ++ write ∷ []) (AreApart variable) (λ _. apart) (λ fresh.
    all_pairs_push (λ a b. writes_to variable a ≡ true → writes_to variable b ≡ false) before write apart
    (λ k d within to. false_from_ne_true (writes_to variable write) (λ same.
    let one : (get_or before k d).variable ≡ variable = eqb-true (get_or before k d).variable variable to in
    let other : write.variable ≡ variable = eqb-true write.variable variable same in
    let missed : nat_eq write.variable (get_or before k d).variable ≡ false =
    one_fails (λ (other : CellWrite). nat_eq write.variable other.variable) before k d fresh within in
    absurd (cc (sym missed ∙ (λ i. nat_eq (other i) (one i)) ∙ nat_eq_equiv.refl variable)))))

pub firsts_apart : (variable : ℕ) (writes : List CellWrite) → AreApart variable (first_writes writes)
firsts_apart variable writes =
    fold_keeps with_write (AreApart variable) (λ write. Unit {0}) (λ before write fit. apart_with variable before write) writes []
    (λ k d within. tt) (λ i j d before within. absurd (omega arith))

-- it is the first of those writes
find_from : (variable : ℕ) (writes before : List CellWrite)
    → find (writes_to variable) (fold with_write before writes)
    ≡ option_or (find (writes_to variable) before) (find (writes_to variable) writes)
find_from variable [] before = grind (arith, common_steps)
find_from variable (write ∷ writes) before =
    find_from variable writes (with_write before write) ∙ by (is_written before write.variable) refl
  where
    rest : Option CellWrite
    rest = find (writes_to variable) writes

    -- a write that is known, of a variable that was found
    known : (found : Option CellWrite) (to : Bool) → (found ≡ None → to ≡ true → ⊥)
        → option_or found rest ≡ option_or found (cond to (Some write) rest)
    known (Some first) to some = refl
    known None true some = absurd (some refl refl)
    known None false some = refl

    fresh : (found : Option CellWrite) (to : Bool)
        → option_or (option_or found (cond to (Some write) None)) rest ≡ option_or found (cond to (Some write) rest)
    fresh (Some first) to = refl
    fresh None true = refl
    fresh None false = refl

    by : (b : Bool) → is_written before write.variable ≡ b
        → option_or (find (writes_to variable) (if b then before else before ++ write ∷ [])) rest
        ≡ option_or (find (writes_to variable) before) (cond (writes_to variable write) (Some write) rest)
    by true is =
        known (find (writes_to variable) before) (writes_to variable write) (λ none to.
        let same : write.variable ≡ variable = eqb-true write.variable variable to in
        let never : is_written before write.variable ≡ false =
        list_any_none (λ (other : CellWrite). nat_eq write.variable other.variable) before (λ k d within.
        let missed : nat_eq (get_or before k d).variable variable ≡ false =
        none_found (writes_to variable) before none k d within in
        nat_eq_equiv.symm write.variable (get_or before k d).variable
        ∙ ap (nat_eq (get_or before k d).variable) same ∙ missed) in
        absurd (cc (sym is ∙ never)))
    by false is =
        ap (λ found. option_or found rest) (find-append (writes_to variable) before (write ∷ []))
        ∙ fresh (find (writes_to variable) before) (writes_to variable write)

pub firsts_find : (variable : ℕ) (writes : List CellWrite)
    → find (writes_to variable) (first_writes writes) ≡ find (writes_to variable) writes
firsts_find variable writes = find_from variable writes []
