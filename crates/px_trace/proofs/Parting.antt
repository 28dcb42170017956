-- The first of the things that are parted by commas, and then the others, each after a comma.
use Rattle.std.proofs.Common.{◌≡◌, ℕ, List, [], ◌∷◌, ◌++◌, ◌⊎◌, codes, ap, refl, ◌∙◌, sym, append_assoc, append-nil, inl, inr}
use Rattle.std.specs.List.{flat_map, join_by, zip}

-- the first stands there, and the others are left
pub parted_begun : {X : Type 0} (f : X → List ℕ) (xs : List X) (x : X) (rest : List X) (old out : List ℕ)
    → xs ≡ x ∷ rest → out ≡ old ++ f x → out ++ flat_map (λ y. codes ", " ++ f y) rest ≡ old ++ join_by f (codes ", ") xs
parted_begun {X} f xs x rest old out is here =
    let others : List ℕ = flat_map (λ (y : X). codes ", " ++ f y) rest in
    ap (λ front. front ++ others) here ∙ append_assoc old (f x) others
    ∙ ap (λ ys. old ++ join_by f (codes ", ") ys) (sym is)

pub pairs_begun : {A B : Type 0} (f : A × B → List ℕ) (ks : List A) (vs : List B) (k : A) (v : B)
    (ks' : List A) (vs' : List B) (old out : List ℕ) → ks ≡ k ∷ ks' → vs ≡ v ∷ vs' → out ≡ old ++ f (k, v)
    → out ++ flat_map (λ p. codes ", " ++ f p) (zip ks' vs') ≡ old ++ join_by f (codes ", ") (zip ks vs)
pairs_begun f ks vs k v ks' vs' old out is_k is_v here =
    parted_begun f (zip ks vs) (k, v) (zip ks' vs') old out (rw (is_k, is_v) refl) here

-- where one list of two is at its end, no pairs are left
zip_ended : {A B : Type 0} (ks : List A) (vs : List B) → (ks ≡ []) ⊎ (vs ≡ []) → zip ks vs ≡ []
zip_ended [] vs ended = refl
zip_ended (k ∷ ks) [] ended = refl
zip_ended (k ∷ ks) (v ∷ vs) (inl none) = cc
zip_ended (k ∷ ks) (v ∷ vs) (inr none) = cc

pub no_pairs : {A B : Type 0} (f : A × B → List ℕ) (ks : List A) (vs : List B) (out : List ℕ) → (ks ≡ []) ⊎ (vs ≡ [])
    → out ≡ out ++ join_by f (codes ", ") (zip ks vs)
no_pairs f ks vs out ended = rw (zip_ended ks vs ended) (sym (append-nil out))

pub pairs_ended : {A B : Type 0} (f : A × B → List ℕ) (ks : List A) (vs : List B) (out whole : List ℕ)
    → (ks ≡ []) ⊎ (vs ≡ []) → out ++ flat_map f (zip ks vs) ≡ whole → out ≡ whole
pairs_ended f ks vs out whole ended e =
    sym (append-nil out) ∙ sym (ap (λ pairs. out ++ flat_map f pairs) (zip_ended ks vs ended)) ∙ e
