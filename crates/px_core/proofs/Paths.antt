-- Texts that are the same or not, and sites whose paths differ.
use Rattle.std.proofs.Common.{◌≡◌, ◌≢◌, ℕ, suc, ◌<◌, true, false, List, ◌∷◌, length, get_or, slice_get, find, Some, ap, sym, ◌∙◌, arith}
use Rattle.std.specs.Cmp.Lexicographic.{same_text}
use Rattle.std.specs.List.{position_or_len}
use Rattle.std.proofs.lemmas.Bool.{false_from_ne_true}
use Rattle.std.proofs.lemmas.Cmp.{nat_list_eq_equiv}
use Rattle.std.proofs.lemmas.List.Folds.{find_at}
use Rattle.std.proofs.lemmas.List.Sums.{position_or_len_is}
use Rattle.std.proofs.lemmas.Option.{slice_get-get_or}
use Rattle.px_core.specs.Fit.{AreDistinct}
use Rattle.px_core.specs.Plan.{Site, no_site, is_same}

pub same-self : (a : List ℕ) → is_same a a ≡ true
same-self a = nat_list_eq_equiv.refl a

pub same-other : (a b : List ℕ) → a ≢ b → is_same a b ≡ false
same-other a b differ = false_from_ne_true (is_same a b) (λ same. differ (same_text a b (sym same)))

-- the sites behind the first differ too
pub distinct_behind : (site : Site) (plan : List Site) → AreDistinct (site ∷ plan) → AreDistinct plan
distinct_behind site plan distinct i j hi hj same =
    let e : suc i ≡ suc j = distinct (suc i) (suc j) (omega arith) (omega arith) same in omega arith

-- and have other paths than the first
pub head_apart : (site : Site) (plan : List Site) (i : ℕ) → AreDistinct (site ∷ plan) → i < length plan
    → site.path ≢ (get_or plan i no_site).path
head_apart site plan i distinct within = λ same.
    let e : 0 ≡ suc i = distinct 0 (suc i) (omega arith) (omega arith) same in absurd (omega arith)

pub head_differs : (site : Site) (plan : List Site) (i : ℕ) → AreDistinct (site ∷ plan) → i < length plan
    → is_same site.path (get_or plan i no_site).path ≡ false
head_differs site plan i distinct within = same-other _ _ (head_apart site plan i distinct within)

-- a site stands first where its path is looked for
pub place_is : (plan : List Site) (i : ℕ) → AreDistinct plan → i < length plan
    → position_or_len (λ site. is_same site.path (get_or plan i no_site).path) plan ≡ i
place_is plan i distinct within =
    let own : List ℕ = (get_or plan i no_site).path in
    position_or_len_is (λ (site : Site). is_same site.path own) plan i no_site (omega (arith, within))
    (λ k before. same-other (get_or plan k no_site).path own
    (λ same. absurd (omega (arith, before, distinct k i (omega (arith, before, within)) within same))))
    (λ inside. same-self own)

-- each site is the one at its path
pub found_itself : (plan : List Site) (i : ℕ) → AreDistinct plan → i < length plan
    → find (λ site. is_same site.path (get_or plan i no_site).path) plan ≡ Some (get_or plan i no_site)
found_itself plan i distinct within =
    find_at (λ (site : Site). is_same site.path (get_or plan i no_site).path) plan
    ∙ ap (slice_get plan) (place_is plan i distinct within) ∙ slice_get-get_or plan i no_site within
