-- How entries that know which they shadow answer what a name means.
use Rattle.std.proofs.Common.{◌≡◌, ℕ, ◌+◌, ◌-◌, ◌<◌, Bool, true, false, cond, List, [], ◌∷◌, ◌++◌, reverse, length, get_or, drop}
use Rattle.std.proofs.Common.{Some, None, IsSome, refl, sym, ap, ◌∙◌, subst, arith}
use Rattle.std.specs.Str.{bytes_eq}
use Rattle.std.specs.Cmp.Lexicographic.{bytes_decides, nat_list_eq_equiv}
use Rattle.std.proofs.lemmas.List.{drop-drop, reverse-append, length-drop, length-reverse, get_or_append_left}
use Rattle.std.proofs.Math.Seq.{get_or-append_seam}
use Rattle.indexmap.specs.IndexMap.{IndexMap, get}
use Rattle.px_check.specs.Scoped.{meanings, meaning_of, nearest_of, IsLinked, IsIndex}
use Rattle.px_check.specs.declared.scoped.Shadowing.{Shadowing}

-- one nearest name less is one step on the way down to so many
pub dropped_one : {X : Type 0} (xs : List X) (n : ℕ) → n < length xs
    → drop (length (drop 1 xs) - n) (drop 1 xs) ≡ drop (length xs - n) xs
dropped_one xs n h =
    let more : 1 + (length (drop 1 xs) - n) ≡ length xs - n = omega (arith, h, length-drop 1 xs) in
    drop-drop (length (drop 1 xs) - n) 1 xs ∙ ap (λ k. drop k xs) more

module _ {T : Type 0} where
  pub nearest_within : (name : List ℕ) (es : List (Shadowing T)) (i : ℕ) → nearest_of name es ≡ Some i → i < length es
  nearest_within name [] i is = absurd (cc)
  nearest_within name (e ∷ es) i is = by (bytes_eq name e.name) is (nearest_within name es i)
    where
      by : (same : Bool) → cond same (Some (length es)) (nearest_of name es) ≡ Some i
          → (nearest_of name es ≡ Some i → i < length es) → i < length (e ∷ es)
      by true here rest = let place : length es ≡ i = cc in omega arith
      by false there rest = let within : i < length es = rest there in omega arith

  pub nowhere : (name : List ℕ) (es : List (Shadowing T)) → nearest_of name es ≡ None → meaning_of name (meanings es) ≡ None
  nowhere name [] is = refl
  nowhere name (e ∷ es) is = by (bytes_eq name e.name) is refl (nowhere name es)
    where
      by : (same : Bool) → cond same (Some (length es)) (nearest_of name es) ≡ None → bytes_eq name e.name ≡ same
          → (nearest_of name es ≡ None → meaning_of name (meanings es) ≡ None)
          → meaning_of name (meanings (e ∷ es)) ≡ None
      by true here test rest = absurd (cc)
      by false there test rest = rw test (rest there)

  -- the entry at the place of the nearest one has the meaning
  pub nearest_means : (name : List ℕ) (es : List (Shadowing T)) (i : ℕ) (x : Shadowing T) → nearest_of name es ≡ Some i
      → x ≡ get_or (reverse es) i x → Some x.meaning ≡ meaning_of name (meanings es)
  nearest_means name [] i x is at = absurd (cc)
  nearest_means name (e ∷ es) i x is at = by (bytes_eq name e.name) is refl (nearest_means name es i x)
    where
      there : x ≡ get_or (reverse es ++ e ∷ []) i x
      there = at ∙ ap (λ xs. get_or xs i x) (reverse-append (e ∷ []) es)

      by : (same : Bool) → cond same (Some (length es)) (nearest_of name es) ≡ Some i → bytes_eq name e.name ≡ same
          → (nearest_of name es ≡ Some i → x ≡ get_or (reverse es) i x → Some x.meaning ≡ meaning_of name (meanings es))
          → Some x.meaning ≡ meaning_of name (meanings (e ∷ es))
      by true here test rest =
          let place : i ≡ length (reverse es) = (let p : i ≡ length es = cc in p ∙ sym (length-reverse es)) in
          let is_e : x ≡ e =
          there ∙ ap (λ k. get_or (reverse es ++ e ∷ []) k x) place ∙ get_or-append_seam (reverse es) e [] x in
          rw test (ap (λ (y : Shadowing T). Some y.meaning) is_e)
      by false below test rest =
          let within : i < length (reverse es) = subst (λ n. i < n) (sym (length-reverse es)) (nearest_within name es i below) in
          rw test (rest below (there ∙ get_or_append_left (reverse es) (e ∷ []) x i within))

  -- one entry more
  pub linked_push : (items news : List (Shadowing T)) (e : Shadowing T) → news ≡ items ++ e ∷ []
      → e.shadowed ≡ nearest_of e.name (reverse items) → IsLinked (reverse items) → IsLinked (reverse news)
  linked_push items news e is shadows linked =
      let turned : reverse news ≡ e ∷ reverse items = ap reverse is ∙ reverse-append items (e ∷ []) in
      subst IsLinked (sym turned) (shadows, linked)

  pub index_push : {S : Type 0} (old new : IndexMap (List ℕ) ℕ S) (items news : List (Shadowing T)) (e : Shadowing T)
      → news ≡ items ++ e ∷ [] → IsIndex old (reverse items)
      → ((name : List ℕ) → get bytes_eq new name
      ≡ cond (bytes_eq e.name name) (Some (length items)) (get bytes_eq old name))
      → IsIndex new (reverse news)
  index_push old new items news e is index updated name =
      let turned : reverse news ≡ e ∷ reverse items = ap reverse is ∙ reverse-append items (e ∷ []) in
      updated name
      ∙ ap (λ same. cond same (Some (length items)) (get bytes_eq old name)) (nat_list_eq_equiv.symm e.name name)
      ∙ ap (λ n. cond (bytes_eq name e.name) (Some n) (get bytes_eq old name)) (sym (length-reverse items))
      ∙ ap (cond (bytes_eq name e.name) (Some (length (reverse items)))) (index name)
      ∙ ap (nearest_of name) (sym turned)

  pub meanings_push : (items news : List (Shadowing T)) (e : Shadowing T) → news ≡ items ++ e ∷ []
      → meanings (reverse news) ≡ (e.name, e.meaning) ∷ meanings (reverse items)
  meanings_push items news e is = ap meanings (ap reverse is ∙ reverse-append items (e ∷ []))

  -- one entry less
  pub linked_pop : (items olds : List (Shadowing T)) (e : Shadowing T) → olds ≡ items ++ e ∷ [] → IsLinked (reverse olds)
      → (e.shadowed ≡ nearest_of e.name (reverse items)) × IsLinked (reverse items)
  linked_pop items olds e is linked =
      let turned : reverse olds ≡ e ∷ reverse items = ap reverse is ∙ reverse-append items (e ∷ []) in
      subst IsLinked turned linked

  index_before : {S : Type 0} (old : IndexMap (List ℕ) ℕ S) (items olds : List (Shadowing T)) (e : Shadowing T)
      → olds ≡ items ++ e ∷ [] → IsIndex old (reverse olds) → IsIndex old (e ∷ reverse items)
  index_before old items olds e is index name =
      index name ∙ ap (nearest_of name) (ap reverse is ∙ reverse-append items (e ∷ []))

  pub index_has : {S : Type 0} (old : IndexMap (List ℕ) ℕ S) (items olds : List (Shadowing T)) (e : Shadowing T)
      → olds ≡ items ++ e ∷ [] → IsIndex old (reverse olds) → IsSome (get bytes_eq old e.name)
  index_has old items olds e is index =
      let found : get bytes_eq old e.name ≡ Some (length (reverse items)) =
      index_before old items olds e is index e.name
      ∙ ap (λ same. cond same (Some (length (reverse items))) (nearest_of e.name (reverse items)))
      (nat_list_eq_equiv.refl e.name) in
      rw found refl

  pub index_pop : {S : Type 0} (old new : IndexMap (List ℕ) ℕ S) (items olds : List (Shadowing T)) (e : Shadowing T)
      → olds ≡ items ++ e ∷ [] → IsLinked (reverse olds) → IsIndex old (reverse olds)
      → ((name : List ℕ) → get bytes_eq new name ≡ cond (bytes_eq e.name name) e.shadowed (get bytes_eq old name))
      → IsIndex new (reverse items)
  index_pop old new items olds e is linked index updated name = updated name ∙ by (bytes_eq e.name name) refl
    where
      by : (same : Bool) → bytes_eq e.name name ≡ same
          → cond same e.shadowed (get bytes_eq old name) ≡ nearest_of name (reverse items)
      by true test =
          (linked_pop items olds e is linked).0
          ∙ ap (λ n. nearest_of n (reverse items)) ((bytes_decides e.name name).0 test)
      by false test =
          index_before old items olds e is index name
          ∙ ap (λ same. cond same (Some (length (reverse items))) (nearest_of name (reverse items)))
          (nat_list_eq_equiv.symm name e.name ∙ test)
