-- The paths of a tree are all different where the names of siblings are names and differ.
use Rattle.std.proofs.Common.{◌≡◌, ◌≢◌, ℕ, zero, suc, Bool, true, false, not, ◌&&◌, ◌||◌, ◌==◌, List, [], ◌∷◌}
use Rattle.std.proofs.Common.{◌++◌, length, refl, ap, sym, ◌∙◌, subst, arith, ◌⊎◌, inl, inr, append_assoc}
use Rattle.std.proofs.Common.{append-nil, length-append}
use Rattle.std.proofs.lemmas.Bool.{and_parts, not_from_false, not-true, or_parts}
use Rattle.std.specs.List.{list_all, list_any, AllByRecursion as Each}
use Rattle.std.proofs.lemmas.List.{append_cancel_left}
use Rattle.std.proofs.lemmas.List.Elements.{All-from_recursion, recursion_from_All}
use Rattle.std.proofs.lemmas.List.Sums.{AllPass-from_list_all}
use Rattle.std.proofs.Permutation.{every_append as each-append}
use Rattle.px_value.specs.Name.{is_name}
use Rattle.px_value.proofs.General.{each_front, each_back, each_map}
use Rattle.px_value.proofs.Paths.{is_dotless, name_dotless}
use Rattle.px_core.specs.Plan.{Tree, NoNode, Branch, Site, no_site, is_same, path_under, sites_under, sites}
use Rattle.px_core.specs.Fit.{names_of, siblings_differ, has_name, AreDistinct}
use Rattle.px_core.proofs.Differing.{Differ}
use Rattle.px_core.proofs.Paths.{same-self}

each_pass : (p : Site → Bool) (xs : List Site) → list_all p xs ≡ true → Each (λ site. p site ≡ true) xs
each_pass p xs all = recursion_from_All (λ site. p site ≡ true) xs (AllPass-from_list_all p xs all)

differ-append : (xs ys : List Site) → Differ xs → Differ ys → Each (λ (x : Site). Each (λ y. x.path ≢ y.path) ys) xs
    → Differ (xs ++ ys)
differ-append [] ys hx hy apart = hy
differ-append (x ∷ xs) ys hx hy apart =
    (each-append (λ (other : Site). x.path ≢ other.path) xs ys hx.0 apart.0, differ-append xs ys hx.1 hy apart.1)

are_distinct : (sites : List Site) → Differ sites → AreDistinct sites
are_distinct [] differ i j hi hj same = absurd (omega arith)
are_distinct (site ∷ sites) differ zero zero hi hj same = refl
are_distinct (site ∷ sites) differ zero (suc j) hi hj same =
    absurd (All-from_recursion (λ (other : Site). site.path ≢ other.path) sites differ.0 j no_site (omega arith) same)
are_distinct (site ∷ sites) differ (suc i) zero hi hj same =
    absurd (All-from_recursion (λ (other : Site). site.path ≢ other.path) sites differ.0 i no_site (omega arith) (sym same))
are_distinct (site ∷ sites) differ (suc i) (suc j) hi hj same =
    ap suc (are_distinct sites differ.1 i j (omega arith) (omega arith) same)

-- ---- texts with dots

-- nothing, or what begins with a dot
abbrev StartsDot : List ℕ → Type 0
StartsDot [] = Unit {0}
StartsDot (c ∷ cs) = c ≡ 46

-- a path is this one or stands below it
abbrev Under : List ℕ → List ℕ → Type 0
Under top path = (rest : List ℕ) × (path ≡ top ++ rest) × StartsDot rest

not_dot : (c : ℕ) (cs : List ℕ) → is_dotless (c ∷ cs) ≡ true → c ≡ 46 → ⊥
not_dot c cs dotless dot = absurd (cc (subst (λ x. (not (x == 46) && is_dotless cs) ≡ true) dot dotless))

-- two names that texts with dots go on from are one where the texts are
same_name : (a b r s : List ℕ) → is_dotless a ≡ true → is_dotless b ≡ true → StartsDot r → StartsDot s → a ++ r ≡ b ++ s
    → a ≡ b
same_name [] [] r s da db dr ds same = refl
same_name [] (c ∷ b) [] s da db dr ds same = absurd (cc)
same_name [] (c ∷ b) (e ∷ r) s da db dr ds same = absurd (not_dot c b db (let heads : e ≡ c = (cc) in sym heads ∙ dr))
same_name (c ∷ a) [] r [] da db dr ds same = absurd (cc)
same_name (c ∷ a) [] r (e ∷ s) da db dr ds same = absurd (not_dot c a da (let heads : c ≡ e = (cc) in heads ∙ ds))
same_name (c ∷ a) (d ∷ b) r s da db dr ds same =
    let heads : c ≡ d = (cc) in
    let tails : a ++ r ≡ b ++ s = (cc) in
    ap (λ x. x ∷ a) heads ∙ ap (λ xs. d ∷ xs) (same_name a b r s (and_parts (not (c == 46)) (is_dotless a) da).1 (and_parts (not (d == 46)) (is_dotless b) db).1 dr ds tails)

-- paths under siblings of other names differ
apart : (above : List (List ℕ)) (a b p q : List ℕ) → is_name a ≡ true → is_name b ≡ true → a ≢ b
    → Under (path_under above a) p → Under (path_under above b) q → p ≢ q
apart [] a b p q na nb differ under_a under_b same =
    differ (same_name a b under_a.0 under_b.0 (name_dotless a na) (name_dotless b nb) under_a.2 under_b.2
    (sym under_a.1 ∙ same ∙ under_b.1))
apart (parent ∷ above) a b p q na nb differ under_a under_b same =
    differ (same_name a b under_a.0 under_b.0 (name_dotless a na) (name_dotless b nb) under_a.2 under_b.2
    (append_cancel_left (46 ∷ []) (a ++ under_a.0) (b ++ under_b.0)
    (append_cancel_left parent (46 ∷ (a ++ under_a.0)) (46 ∷ (b ++ under_b.0))
    (sym (append_assoc parent (46 ∷ a) under_a.0) ∙ sym under_a.1 ∙ same ∙ under_b.1
    ∙ append_assoc parent (46 ∷ b) under_b.0))))

-- ---- trees

abbrev Named : Site → Type 0
Named site = has_name site ≡ true

not_or : (a b : Bool) → not (a || b) ≡ true → not b ≡ true
not_or a b h = not_from_false b (or_parts a b (not-true (a || b) h)).1

-- one of the names
abbrev Among : List ℕ → List (List ℕ) → Type 0
Among name [] = ⊥
Among name (first ∷ names) = (name ≡ first) ⊎ Among name names

-- a path under one of the names
abbrev UnderOne : List (List ℕ) → List (List ℕ) → Site → Type 0
UnderOne above names site =
    (name : List ℕ) × Among name names × (is_name name ≡ true) × Under (path_under above name) site.path

under_one : (above : List (List ℕ)) (tree : Tree) → Each Named (sites_under above tree)
    → Each (UnderOne above (names_of tree)) (sites_under above tree)
under_one above NoNode named = tt
under_one above (Branch head children rest) named = (
  (head.name, inl refl, named.0, ([], sym (append-nil own), tt)),
  each-append (UnderOne above (names_of (Branch head children rest))) inner outer
      (each_map (UnderOne (own ∷ above) (names_of children)) (UnderOne above (names_of (Branch head children rest)))
      inner below_own
      (under_one (own ∷ above) children (each_front Named inner outer named.1)))
      (each_map (UnderOne above (names_of rest)) (UnderOne above (names_of (Branch head children rest))) outer
      (λ site under. (under.0, inr under.1, under.2, under.3))
      (under_one above rest (each_back Named inner outer named.1))),
)
  where
    own : List ℕ
    own = path_under above head.name

    inner : List Site
    inner = sites_under (own ∷ above) children

    outer : List Site
    outer = sites_under above rest

    below_own : (site : Site) → UnderOne (own ∷ above) (names_of children) site
        → UnderOne above (names_of (Branch head children rest)) site
    below_own site under = (
      head.name,
      inl refl,
      named.0,
      (46 ∷ (under.0 ++ under.3.0), under.3.1 ∙ append_assoc own (46 ∷ under.0) under.3.0, refl),
    )

differ_tree : (above : List (List ℕ)) (tree : Tree) → siblings_differ tree ≡ true
    → Each Named (sites_under above tree) → Differ (sites_under above tree)
differ_tree above NoNode siblings named = tt
differ_tree above (Branch head children rest) siblings named = (
  each-append (λ (other : Site). own ≢ other.path) inner outer
      (each_map (UnderOne (own ∷ above) (names_of children)) (λ other. own ≢ other.path) inner own_is_shorter
      (under_one (own ∷ above) children (each_front Named inner outer named.1)))
      (each_map (UnderOne above (names_of rest)) (λ other. own ≢ other.path) outer
      (λ site under. apart above head.name under.0 own site.path named.0 under.2
      (other_name under.0 (names_of rest) head_differs under.1) ([], sym (append-nil own), tt) under.3)
      under_rest),
  differ-append inner outer
      (differ_tree (own ∷ above) children tests.1.0 (each_front Named inner outer named.1))
      (differ_tree above rest tests.1.1 (each_back Named inner outer named.1))
      (each_map (UnderOne (own ∷ above) (names_of children)) (λ x. Each (λ y. x.path ≢ y.path) outer) inner
      (λ x under. each_map (UnderOne above (names_of rest)) (λ y. x.path ≢ y.path) outer
      (λ y under_y. apart above head.name under_y.0 x.path y.path named.0 under_y.2
      (other_name under_y.0 (names_of rest) head_differs under_y.1)
      (46 ∷ (under.0 ++ under.3.0), under.3.1 ∙ append_assoc own (46 ∷ under.0) under.3.0, refl) under_y.3)
      under_rest)
      (under_one (own ∷ above) children (each_front Named inner outer named.1))),
)
  where
    own : List ℕ
    own = path_under above head.name

    inner : List Site
    inner = sites_under (own ∷ above) children

    outer : List Site
    outer = sites_under above rest

    under_rest : Each (UnderOne above (names_of rest)) outer
    under_rest = under_one above rest (each_back Named inner outer named.1)

    tests : (not (list_any (is_same head.name)
        (names_of rest)) ≡ true) × ((siblings_differ children ≡ true) × (siblings_differ rest ≡ true))
    tests = let outer_two = and_parts (not (list_any (is_same head.name) (names_of rest)) && siblings_differ children)
        (siblings_differ rest) siblings in
        let inner_two =
        and_parts (not (list_any (is_same head.name) (names_of rest))) (siblings_differ children) outer_two.0 in
        (inner_two.0, (inner_two.1, outer_two.1))

    head_differs : not (list_any (is_same head.name) (names_of rest)) ≡ true
    head_differs = tests.0

    other_name : (name : List ℕ) (names : List (List ℕ)) → not (list_any (is_same head.name) names) ≡ true
        → Among name names → head.name ≢ name
    other_name name [] none among same = among
    other_name name (first ∷ names) none (inl is) same =
        absurd (cc (subst (λ b. not (b || list_any (is_same head.name) names) ≡ true)
        (ap (is_same head.name) (sym (same ∙ is)) ∙ same-self head.name) none))
    other_name name (first ∷ names) none (inr among) same =
        other_name name names (not_or (is_same head.name first) (list_any (is_same head.name) names) none) among same

    own_is_shorter : (site : Site) → UnderOne (own ∷ above) (names_of children) site → own ≢ site.path
    own_is_shorter site under same = absurd (omega (
      arith,
      ap length (same ∙ under.3.1),
      length-append
          (own ++ (46 ∷ under.0)) under.3.0,
      length-append own (46 ∷ under.0),
    ))

pub paths_differ : (tree : Tree) → siblings_differ tree ≡ true → list_all has_name (sites tree) ≡ true
    → AreDistinct (sites tree)
paths_differ tree siblings named =
    are_distinct (sites tree) (differ_tree [] tree siblings (each_pass has_name (sites tree) named))
