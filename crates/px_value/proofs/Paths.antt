-- The pieces of a path: a name is one piece, and a child's path has the pieces of its parent's and its name.
use Rattle.std.proofs.Common.{◌≡◌, ℕ, ◌+◌, ◌<◌, Bool, true, false, ◌||◌, List, [], ◌∷◌, ◌++◌, length, refl, ap, ◌∙◌, inl, inr, arith, length-append, ◌==◌}
use Rattle.std.specs.Prelude.{nat_le, not}
use Rattle.std.specs.List.{list_all}
use Rattle.std.proofs.lemmas.Bool.{and_parts, cases_Bool, and_from, not-true, le-leb}
use Rattle.std.proofs.lemmas.Bool.Decides.{nat_tests}
use Rattle.std.proofs.lemmas.List.Elements.{All-weaker}
use Rattle.std.proofs.lemmas.List.Folds.{list_all-append}
use Rattle.std.proofs.lemmas.List.Splits.{slice_split_none}
use Rattle.std.proofs.lemmas.List.Sums.{AllPass-from_list_all}
use Rattle.px_value.specs.Name.{continues_identifier, is_identifier, is_generated, is_name}
use Rattle.px_value.specs.Path.{below, pieces, is_path}
use Rattle.px_value.proofs.Ascii.{name_all}

-- none of the bytes is a dot
abbrev pub is_dotless : List ℕ → Bool
is_dotless bytes = list_all (λ c. not (c == 46)) bytes

goes_on_dotless : (c : ℕ) → continues_identifier c ≡ true → not (c == 46) ≡ true
goes_on_dotless c h = grind (arith, nat_tests)

hash_dotless : (c : ℕ) → (c == 35) ≡ true → not (c == 46) ≡ true
hash_dotless c h = grind (arith, nat_tests)

-- a name is one piece
pub name_dotless : (bytes : List ℕ) → is_name bytes ≡ true → is_dotless bytes ≡ true
name_dotless = name_all (λ c. not (c == 46)) goes_on_dotless hash_dotless

pub pieces_dotless : (bytes : List ℕ) → is_dotless bytes ≡ true → pieces bytes ≡ bytes ∷ []
pieces_dotless bytes h =
    slice_split_none (λ c. c == 46) bytes
    (All-weaker (λ c. not (c == 46) ≡ true) (λ c. (c == 46) ≡ false) (λ c. not-true (c == 46)) bytes
    (AllPass-from_list_all (λ c. not (c == 46)) bytes h))

-- there is a first piece
some_piece : (bytes : List ℕ) → (first : List ℕ) × (more : List (List ℕ)) × (pieces bytes ≡ first ∷ more)
some_piece [] = ([], [], refl)
some_piece (c ∷ cs) =
    let found : (first : List ℕ) × (more : List (List ℕ)) × (pieces cs ≡ first ∷ more) = some_piece cs in
    elim (cases_Bool (c == 46)) [
      | inl dot ↦ ([], pieces cs, rw dot)
      | inr other ↦ (c ∷ found.0, found.1, rw (other, found.2))
    ]

-- the pieces of a child's path are its parent's and its name's
pub pieces-below : (parent bytes : List ℕ) → pieces (below parent bytes) ≡ pieces parent ++ pieces bytes
pieces-below [] bytes = refl
pieces-below (c ∷ cs) bytes =
    let found : (first : List ℕ) × (more : List (List ℕ)) × (pieces cs ≡ first ∷ more) = some_piece cs in
    let rest : pieces (cs ++ (46 ∷ bytes)) ≡ (found.0 ∷ found.1) ++ pieces bytes = pieces-below cs bytes ∙ ap (λ front. front ++ pieces bytes) found.2 in
    elim (cases_Bool (c == 46)) [
      | inl dot ↦ rw (dot, rest, found.2)
      | inr other ↦ rw (other, rest, found.2)
    ]

pub root_is_path : (name : List ℕ) → is_name name ≡ true → is_path name ≡ true
root_is_path name h =
    let one : pieces name ≡ name ∷ [] = pieces_dotless name (name_dotless name h) in
    let short : nat_le (length name) 64 ≡ true = (and_parts (is_identifier name || is_generated name) (nat_le (length name) 64) h).1 in
    rw (one, h) (grind (arith, nat_tests))

pub child_is_path : (parent name : List ℕ) → is_path parent ≡ true → is_name name ≡ true → length parent + length name < 5000 → is_path (below parent name) ≡ true
child_is_path parent name h g room =
    let above : (list_all is_name (pieces parent) ≡ true) × (nat_le (length parent) 5000 ≡ true) = and_parts (list_all is_name (pieces parent)) (nat_le (length parent) 5000) h in
    let one : pieces name ≡ name ∷ [] = pieces_dotless name (name_dotless name g) in
    let long : nat_le (length (below parent name)) 5000 ≡ true = rw length-append (le-leb _ _ (omega arith)) in
    and_from (list_all is_name (pieces (below parent name))) (nat_le (length (below parent name)) 5000)
    (rw (pieces-below parent name, list_all-append is_name (pieces parent) (pieces name), above.0, one, g)) long
