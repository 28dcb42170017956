-- Nodes that stand among those of a whole plan.
use Rattle.std.proofs.Common.{◌≡◌, ℕ, Bool, true, List, [], ◌∷◌, ◌++◌, sym, ap, ◌∙◌, subst}
use Rattle.std.specs.Prelude.{◌&&◌}
use Rattle.std.specs.List.{list_any}
use Rattle.std.proofs.lemmas.Bool.{and_from, and_parts, or_left, or_right}
use Rattle.std.proofs.lemmas.List.{append-nil}
use Rattle.std.proofs.lemmas.List.Folds.{list_any-append}
use Rattle.px_value.proofs.General.{list_any-weaker}
use Rattle.px_core.specs.Fit.{has_site}
use Rattle.px_core.specs.Plan.{Head, Site, Tree, NoNode, Branch, is_same, path_under, site_under, sites_under}
use Rattle.px_core.proofs.Paths.{same-self}

-- what one of some nodes passes, one of the whole plan passes
pub record IsWithin (part whole : List Site) : Type 0 where
  pub any : (holds : Site → Bool) → list_any holds part ≡ true → list_any holds whole ≡ true

pub within_itself : (whole : List Site) → IsWithin whole whole
within_itself whole = record { any = λ holds passes. passes }

pub front_within : (front back whole : List Site) → IsWithin (front ++ back) whole → IsWithin front whole
front_within front back whole within = record {
  any = λ holds passes. within.any holds (list_any-append holds front back ∙ or_left (list_any holds front) _ passes);
}

pub back_within : (front back whole : List Site) → IsWithin (front ++ back) whole → IsWithin back whole
back_within front back whole within = record {
  any = λ holds passes. within.any holds (list_any-append holds front back ∙ or_right (list_any holds front) _ passes);
}

-- ---- of a node, its children and what stands beside it

module _ (above : List (List ℕ)) (head : Head) (children rest : Tree) (whole : List Site)
    (within : IsWithin (sites_under above (Branch head children rest)) whole) where
  pub own_within : (holds : Site → Bool) → holds (site_under above head) ≡ true
      → has_site holds (path_under above head.name) whole ≡ true
  own_within holds passes =
      within.any (λ site. is_same site.path (path_under above head.name) && holds site)
      (or_left _ _ (and_from _ _ (same-self (path_under above head.name)) passes))

  -- where its name is known
  pub named_within : (name : List ℕ) → head.name ≡ name → (holds : Site → Bool) → holds (site_under above head) ≡ true
      → has_site holds (path_under above name) whole ≡ true
  named_within name is holds passes =
      subst (λ text. has_site holds (path_under above text) whole ≡ true) is (own_within holds passes)

  pub children_within : IsWithin (sites_under (path_under above head.name ∷ above) children) whole
  children_within =
      let inside = sites_under (path_under above head.name ∷ above) children in
      front_within inside (sites_under above rest) whole
      (back_within (site_under above head ∷ []) (inside ++ sites_under above rest) whole within)

  pub others_within : IsWithin (sites_under above rest) whole
  others_within =
      back_within (site_under above head ∷ sites_under (path_under above head.name ∷ above) children)
      (sites_under above rest) whole within

-- a node is within without what stands beside it
pub alone_within : (above : List (List ℕ)) (head : Head) (children rest : Tree) (whole : List Site)
    → IsWithin (sites_under above (Branch head children rest)) whole
    → IsWithin (sites_under above (Branch head children NoNode)) whole
alone_within above head children rest whole within =
    let inside = sites_under (path_under above head.name ∷ above) children in
    let split = front_within (site_under above head ∷ inside) (sites_under above rest) whole within in
    subst (λ part. IsWithin part whole) (ap (λ part. site_under above head ∷ part) (sym (append-nil inside))) split

-- a node that passes a test passes a weaker one
pub site_weaker : (strong weak : Site → Bool) → ((site : Site) → strong site ≡ true → weak site ≡ true)
    → (path : List ℕ) (plan : List Site) → has_site strong path plan ≡ true → has_site weak path plan ≡ true
site_weaker strong weak weaker path plan =
    list_any-weaker (λ (site : Site). is_same site.path path && strong site) (λ site. is_same site.path path && weak site)
    (λ site own.
    let parts = and_parts (is_same site.path path) (strong site) own in
    and_from _ _ parts.0 (weaker site parts.1))
    plan
