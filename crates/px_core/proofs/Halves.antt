-- Terms joined in halves: the term that joins them is there, and it is one; what is said of paths, by the halves of them.
use Rattle.std.proofs.Common.{◌≡◌, Bool, ℕ, zero, suc, ◌+◌, ◌/◌, ◌<◌, ◌≤◌, List, [], ◌∷◌, ◌++◌, length, map, take, drop, slice_index_or, refl, sym, ap, ◌∙◌, subst, arith, length-append}
use Rattle.std.proofs.Math.Nat.{div-le_self}
use Rattle.std.proofs.Math.Seq.{take-append_seam, drop-append_seam}
use Rattle.std.proofs.lemmas.List.{length-map, length-take-le, length-drop, take-map, drop-map, take-append-drop}
use Rattle.px_value.proofs.General.{only_one}
use Rattle.px_core.specs.declared.expr.BinaryOp.{BinaryOp}
use Rattle.px_core.specs.Expr.{Term, Binary}
use Rattle.px_core.specs.Joined.{truth, Joins, joined_within, joined}

pub front_half : (terms : List Term) → length (take (length terms / 2) terms) ≡ length terms / 2
front_half terms = length-take-le (length terms / 2) terms (div-le_self (length terms) 2)

-- joined halves of several terms
pub joins_halves : (op : BinaryOp) (none : Bool) (terms : List Term) (left right : Term) → 2 ≤ length terms
    → Joins op none (take (length terms / 2) terms) left → Joins op none (drop (length terms / 2) terms) right
    → Joins op none terms (Binary op left right)
joins_halves op none terms left right two f r =
    let half : ℕ = length terms / 2 in
    let whole : take half terms ++ drop half terms ≡ terms = take-append-drop half terms in
    subst (λ all. Joins op none all (Binary op left right)) whole
    (Joins.halves (take half terms) (drop half terms) left right (omega (arith, front_half terms)) (rw whole (front_half terms)) f r)

-- what is found within any bound that suffices joins the terms
joins_within : (op : BinaryOp) (none : Bool) (bound : ℕ) (terms : List Term) → length terms ≤ bound
    → Joins op none terms (joined_within op none bound terms)
joins_within op none bound [] h = Joins.no_term
joins_within op none bound (term ∷ []) h = Joins.one_term term
joins_within op none zero (one ∷ other ∷ more) h = absurd (omega arith)
joins_within op none (suc bound) (one ∷ other ∷ more) h =
    let terms : List Term = one ∷ other ∷ more in
    let half : ℕ = length terms / 2 in
    joins_halves op none terms (joined_within op none bound (take half terms)) (joined_within op none bound (drop half terms))
    (omega arith)
    (joins_within op none bound (take half terms) (omega (arith, front_half terms)))
    (joins_within op none bound (drop half terms) (omega (arith, length-drop half terms)))

pub joins : (op : BinaryOp) (none : Bool) (terms : List Term) → Joins op none terms (joined op none terms)
unfolding joined
joins op none terms = joins_within op none (length terms) terms (omega arith)

by_halves : (op : BinaryOp) (none : Bool) (bound : ℕ) (terms : List Term) → 2 ≤ length terms
    → joined_within op none (suc bound) terms
    ≡ Binary op (joined_within op none bound (take (length terms / 2) terms)) (joined_within op none bound (drop (length terms / 2) terms))
by_halves op none bound [] two = absurd (omega arith)
by_halves op none bound (term ∷ []) two = absurd (omega arith)
by_halves op none bound (one ∷ other ∷ more) two = refl

-- and it is the only one
same_within : (op : BinaryOp) (none : Bool) (bound : ℕ) (terms : List Term) (whole : Term) → length terms ≤ bound
    → Joins op none terms whole → whole ≡ joined_within op none bound terms
same_within op none bound _ _ h Joins.no_term = refl
same_within op none bound _ _ h (Joins.one_term term) = refl
same_within op none zero _ _ h (Joins.halves front rest left right some half f r) =
    absurd (omega (arith, length-append front rest))
same_within op none (suc bound) _ _ h (Joins.halves front rest left right some half f r) =
    let terms : List Term = front ++ rest in
    let long : length terms ≡ length front + length rest = length-append front rest in
    let first : take (length terms / 2) terms ≡ front = ap (λ n. take n terms) (sym half) ∙ take-append_seam front rest in
    let last : drop (length terms / 2) terms ≡ rest = ap (λ n. drop n terms) (sym half) ∙ drop-append_seam front rest in
    ap (λ left. Binary op left right) (same_within op none bound front left (omega (arith, half, long)) f)
    ∙ ap (λ right. Binary op (joined_within op none bound front) right) (same_within op none bound rest right (omega (arith, half, long)) r)
    ∙ sym (by_halves op none bound terms (omega (arith, half, long)) ∙ rw (first, last))

pub one_joined : (op : BinaryOp) (none : Bool) (terms : List Term) (whole : Term) → Joins op none terms whole → whole ≡ joined op none terms
unfolding joined
one_joined op none terms whole j = same_within op none (length terms) terms whole (omega arith) j

-- ---- what is said of paths, by the halves of them

module _ (op : BinaryOp) (none : Bool) (say : List ℕ → Term) where
  pub none_joined : (paths : List (List ℕ)) → length paths < 1 → joined op none (map say paths) ≡ truth none
  none_joined [] h = sym (one_joined op none [] (truth none) Joins.no_term)
  none_joined (path ∷ paths) h = absurd (omega arith)

  pub one_of : (paths : List (List ℕ)) (path : List ℕ) → length paths < 2 → slice_index_or paths 0 path ≡ path → 1 ≤ length paths
      → joined op none (map say paths) ≡ say path
  one_of paths path short is some =
      ap (λ paths. joined op none (map say paths)) (only_one paths path (omega (arith, short, some)) (sym is))
      ∙ sym (one_joined op none (say path ∷ []) (say path) (Joins.one_term (say path)))

  -- two halves are joined
  pub halves_joined : (paths : List (List ℕ)) → 2 ≤ length paths
      → joined op none (map say paths)
      ≡ Binary op (joined op none (map say (take (length paths / 2) paths))) (joined op none (map say (drop (length paths / 2) paths)))
  halves_joined paths two =
      let half : ℕ = length paths / 2 in
      let terms : List Term = map say paths in
      let many : length terms ≡ length paths = length-map paths say in
      let front : Term = joined op none (map say (take half paths)) in
      let back : Term = joined op none (map say (drop half paths)) in
      let fronts : map say (take half paths) ≡ take (length terms / 2) terms =
      sym (take-map say half paths) ∙ ap (λ n. take (n / 2) terms) (sym many) in
      let backs : map say (drop half paths) ≡ drop (length terms / 2) terms =
      sym (drop-map say half paths) ∙ ap (λ n. drop (n / 2) terms) (sym many) in
      sym (one_joined op none terms (Binary op front back)
      (joins_halves op none terms front back (omega (arith, many))
      (subst (λ some. Joins op none some front) fronts (joins op none (map say (take half paths))))
      (subst (λ rest. Joins op none rest back) backs (joins op none (map say (drop half paths))))))
