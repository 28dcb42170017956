-- The nodes below a node are those behind it, up to the number after its last descendant.
use Rattle.std.proofs.Common.{◌≡◌, ◌≢◌, ℕ, zero, suc, ◌+◌, ◌-◌, ◌<◌, ◌≤◌, Bool, true, false, ◌&&◌, nat_lt, List, [], ◌∷◌, ◌++◌, length, get_or, drop, take_while, refl, ap, sym, ◌∙◌, subst, arith, ◌⊎◌, inl, inr, append_assoc, length-append, rules}
use Rattle.std.specs.List.{list_all, list_any, AllByRecursion as Each}
use Rattle.std.proofs.lemmas.Bool.{cases_lt, lt-ltb, le-ltb, or_parts, or_from, false_from_ne_true, true≢false}
use Rattle.std.proofs.lemmas.List.{get_or_append_left, get_or-append-add, drop_at}
use Rattle.std.proofs.lemmas.List.Elements.{All-from_get_or, recursion_from_All}
use Rattle.std.proofs.lemmas.List.Folds.{length-prefix_len, list_any-append, list_any_at}
use Rattle.std.proofs.lemmas.List.Sums.{AllPass-from_list_all}
use Rattle.std.proofs.Math.Seq.{get_or-append_seam}
use Rattle.std.proofs.Permutation.{every_append as each-append}
use Rattle.px_value.proofs.General.{each_front, each_back, each_map, prefix_run}
use Rattle.px_core.specs.Fit.{AreDistinct}
use Rattle.px_core.specs.Plan.{Tree, NoNode, Branch, Site, no_site, is_same, count_of, path_under, site_under, sites_under, sites}
use Rattle.px_core.proofs.Differing.{Differ}
use Rattle.px_core.proofs.Paths.{same-other, distinct_behind, head_apart}
use Rattle.px_flat.specs.Extents.{AreBelow}
use Rattle.px_flat.specs.FitPlan.{IsFitPlan}
use Rattle.px_flat.specs.Row.{site_in, is_below, after_last}
use Rattle.px_flat.proofs.Descendants.{Shorter, shorter_more, depth, own_long, not_among, all_below, self_among, FirstFails, run_none}
use Rattle.px_flat.proofs.Trees.{length-sites_under}

-- ---- nodes of different paths

differ_front : (xs ys : List Site) → Differ (xs ++ ys) → Differ xs
differ_front [] ys differ = tt
differ_front (x ∷ xs) ys differ = (each_front (λ (other : Site). x.path ≢ other.path) xs ys differ.0, differ_front xs ys differ.1)

differ_back : (xs ys : List Site) → Differ (xs ++ ys) → Differ ys
differ_back [] ys differ = differ
differ_back (x ∷ xs) ys differ = differ_back xs ys differ.1

-- those of the first list differ from those of the second
differ_apart : (xs ys : List Site) → Differ (xs ++ ys) → Each (λ (x : Site). Each (λ y. x.path ≢ y.path) ys) xs
differ_apart [] ys differ = tt
differ_apart (x ∷ xs) ys differ = (each_back (λ (other : Site). x.path ≢ other.path) xs ys differ.0, differ_apart xs ys differ.1)

differ_from : (plan : List Site) → AreDistinct plan → Differ plan
differ_from [] distinct = tt
differ_from (site ∷ plan) distinct = (
  recursion_from_All (λ (other : Site). site.path ≢ other.path) plan
      (All-from_get_or (λ (other : Site). site.path ≢ other.path) plan no_site (λ i within. head_apart site plan i distinct within)),
  differ_from plan (distinct_behind site plan distinct),
)

-- ---- a plan, split at a node

-- a node stands neither above the tree nor in it: none of the tree is below it
none_below : (own : List ℕ) (above : List (List ℕ)) (tree : Tree) → list_any (is_same own) above ≡ false
    → Each (λ site. own ≢ site.path) (sites_under above tree) → list_any (is_below own) (sites_under above tree) ≡ false
none_below own above NoNode free apart = refl
none_below own above (Branch head children rest) free apart =
    let next : List ℕ = path_under above head.name in
    let inner : List Site = sites_under (next ∷ above) children in
    let outer : List Site = sites_under above rest in
    let deeper : list_any (is_same own) (next ∷ above) ≡ false =
    or_from (is_same own next) (list_any (is_same own) above) (same-other own next apart.0) free in
    or_from (list_any (is_same own) above) (list_any (is_below own) (inner ++ outer)) free
    (list_any-append (is_below own) inner outer
    ∙ or_from (list_any (is_below own) inner) (list_any (is_below own) outer)
    (none_below own (next ∷ above) children deeper (each_front (λ (site : Site). own ≢ site.path) inner outer apart.1))
    (none_below own above rest free (each_back (λ (site : Site). own ≢ site.path) inner outer apart.1)))

-- each path of a tree is longer than those above it
long_paths : (n : ℕ) (above : List (List ℕ)) (tree : Tree) → n ≤ depth above
    → Each (λ site. n ≤ length site.path) (sites_under above tree)
long_paths n above NoNode le = tt
long_paths n above (Branch head children rest) le =
    let own : List ℕ = path_under above head.name in
    let long : depth above ≤ length own = own_long above head.name in (
      omega (arith, long),
      each-append (λ (site : Site). n ≤ length site.path) (sites_under (own ∷ above) children) (sites_under above rest)
          (long_paths n (own ∷ above) children (omega (arith, long))) (long_paths n above rest le),
    )

-- A plan split at the node with a number: none before it and none behind the inner ones stands below it, nor does it itself.
pub record IsSplit (plan : List Site) (i : ℕ) : Type 0 where
  pub front : List Site
  pub site : Site
  pub inner : List Site
  pub behind : List Site
  pub is : plan ≡ front ++ site ∷ (inner ++ behind)
  pub long : length front ≡ i
  pub none_before : list_any (is_below site.path) front ≡ false
  pub not_itself : is_below site.path site ≡ false
  pub all_inner : list_all (is_below site.path) inner ≡ true
  pub none_behind : list_any (is_below site.path) behind ≡ false

-- the node of a split is one of the plan's
split_each : (P : Site → Type 0) (plan : List Site) (i : ℕ) (split : IsSplit plan i) → Each P plan → P split.site
split_each P plan i split each =
    (each_back P split.front (split.site ∷ (split.inner ++ split.behind)) (subst (Each P) split.is each)).0

-- none above a tree is a node of it
split_free : (above : List (List ℕ)) (top : List (List ℕ)) (tree : Tree) (i : ℕ) (split : IsSplit (sites_under above tree) i)
    → Shorter (depth top) top → depth top ≤ depth above → list_any (is_same split.site.path) top ≡ false
split_free above top tree i split stem le =
    not_among split.site.path top (shorter_more (depth top) (length split.site.path) top
    (split_each (λ site. depth top ≤ length site.path) (sites_under above tree) i split (long_paths (depth top) above tree le))
    stem)

split_at : (above : List (List ℕ)) (tree : Tree) (i : ℕ) → Shorter (depth above) above → Differ (sites_under above tree)
    → i < count_of tree → IsSplit (sites_under above tree) i
split_at above NoNode i stem differ within = absurd (omega arith)
split_at above (Branch head children rest) i stem differ within =
    by i within
    (λ k inside. split_at (own ∷ above) children k deep (differ_front inner outer differ.1) inside)
    (λ k inside. split_at above rest k stem (differ_back inner outer differ.1) inside)
  where
    own : List ℕ
    own = path_under above head.name

    first : Site
    first = site_under above head

    inner : List Site
    inner = sites_under (own ∷ above) children

    outer : List Site
    outer = sites_under above rest

    long : depth above ≤ length own
    long = own_long above head.name

    many : length inner ≡ count_of children
    many = length-sites_under (own ∷ above) children

    deep : Shorter (depth (own ∷ above)) (own ∷ above)
    deep = (omega arith, shorter_more (depth above) (suc (length own)) above (omega (arith, long)) stem)

    own_free : list_any (is_same own) above ≡ false
    own_free = not_among own above (shorter_more (depth above) (length own) above long stem)

    in_children : (k : ℕ) → IsSplit inner k → IsSplit (first ∷ (inner ++ outer)) (suc k)
    in_children k split =
        let free = split_free (own ∷ above) above children k split stem (omega (arith, long)) in
        record {
          front = first ∷ split.front;
          site = split.site;
          inner = split.inner;
          behind = split.behind ++ outer;
          is = ap (λ nodes. first ∷ (nodes ++ outer)) split.is
              ∙ ap (λ nodes. first ∷ nodes) (append_assoc split.front (split.site ∷ (split.inner ++ split.behind)) outer)
              ∙ ap (λ nodes. first ∷ (split.front ++ split.site ∷ nodes)) (append_assoc split.inner split.behind outer);
          long = omega (arith, split.long);
          none_before = or_from (list_any (is_same split.site.path) above) (list_any (is_below split.site.path) split.front) free split.none_before;
          not_itself = split.not_itself;
          all_inner = split.all_inner;
          none_behind = list_any-append (is_below split.site.path) split.behind outer
              ∙ or_from (list_any (is_below split.site.path) split.behind) (list_any (is_below split.site.path) outer)
              split.none_behind
              (none_below split.site.path above rest free
              (split_each (λ x. Each (λ y. x.path ≢ y.path) outer) inner k split (differ_apart inner outer differ.1)));
        }

    in_rest : (k : ℕ) → IsSplit outer k → IsSplit (first ∷ (inner ++ outer)) (suc (count_of children + k))
    in_rest k split =
        let path : List ℕ = split.site.path in
        let free = split_free above above rest k split stem (omega arith) in
        let other : path ≢ own = λ same. split_each (λ site. own ≢ site.path) outer k split
        (each_back (λ (site : Site). own ≢ site.path) inner outer differ.0) (sym same) in
        record {
          front = first ∷ (inner ++ split.front);
          site = split.site;
          inner = split.inner;
          behind = split.behind;
          is = ap (λ nodes. first ∷ (inner ++ nodes)) split.is
              ∙ ap (λ nodes. first ∷ nodes) (sym (append_assoc inner split.front (split.site ∷ (split.inner ++ split.behind))));
          long = omega (arith, split.long, many, length-append inner split.front);
          none_before = or_from (list_any (is_same path) above) (list_any (is_below path) (inner ++ split.front)) free
              (list_any-append (is_below path) inner split.front
              ∙ or_from (list_any (is_below path) inner) (list_any (is_below path) split.front)
              (none_below path (own ∷ above) children
              (or_from (is_same path own) (list_any (is_same path) above) (same-other path own other) free)
              (each_map (λ (x : Site). Each (λ y. x.path ≢ y.path) outer) (λ x. path ≢ x.path) inner
              (λ x apart same. split_each (λ y. x.path ≢ y.path) outer k split apart (sym same))
              (differ_apart inner outer differ.1)))
              split.none_before);
          not_itself = split.not_itself;
          all_inner = split.all_inner;
          none_behind = split.none_behind;
        }

    by : (i : ℕ) → i < 1 + count_of children + count_of rest → ((k : ℕ) → k < count_of children → IsSplit inner k)
        → ((k : ℕ) → k < count_of rest → IsSplit outer k) → IsSplit (first ∷ (inner ++ outer)) i
    by zero within children_split rest_split = record {
      front = [];
      site = first;
      inner = inner;
      behind = outer;
      is = refl;
      long = refl;
      none_before = refl;
      not_itself = own_free;
      all_inner = all_below own (own ∷ above) children (self_among own above);
      none_behind = none_below own above rest own_free (each_back (λ (site : Site). own ≢ site.path) inner outer differ.0);
    }
    by (suc i) within children_split rest_split = elim (cases_lt i (count_of children)) [
      | inl inside ↦ in_children i (children_split i inside)
      | inr past ↦
          let k : ℕ = i - count_of children in
          let there : suc (count_of children + k) ≡ suc i = omega arith in
          subst (IsSplit (first ∷ (inner ++ outer))) there (in_rest k (rest_split k (omega arith)))
    ]

-- ---- those below a node

pub one_fails : {X : Type 0} (p : X → Bool) (xs : List X) (i : ℕ) (d : X) → list_any p xs ≡ false → i < length xs
    → p (get_or xs i d) ≡ false
one_fails p xs i d none within =
    false_from_ne_true (p (get_or xs i d)) (λ is. true≢false (sym (list_any_at p xs i d within is) ∙ none))

first_of_none : (p : Site → Bool) (sites : List Site) → list_any p sites ≡ false → FirstFails p sites
first_of_none p [] none = tt
first_of_none p (site ∷ sites) none = (or_parts (p site) (list_any p sites) none).0

-- where a plan is split at a node, its inner nodes are those below it
below_split : (plan : List Site) (node other : ℕ) → IsSplit plan node → other < length plan
    → is_below (site_in plan node).path (site_in plan other) ≡ (nat_lt node other && nat_lt other (after_last plan node))
below_split plan node other split within =
    by (cases_lt other node) (cases_lt node other) (cases_lt other (after_last plan node))
  where
    p : Site → Bool
    p = is_below split.site.path

    more : List Site
    more = split.inner ++ split.behind

    here : site_in plan node ≡ split.site
    here = ap (λ nodes. get_or nodes node no_site) split.is
        ∙ ap (λ n. get_or (split.front ++ split.site ∷ more) n no_site) (sym split.long)
        ∙ get_or-append_seam split.front split.site more no_site

    rest : drop (suc node) plan ≡ more
    rest = ap (drop (suc node)) (split.is ∙ sym (append_assoc split.front (split.site ∷ []) more))
        ∙ drop_at (split.front ++ split.site ∷ []) more (suc node)
        (omega (arith, split.long, length-append split.front (split.site ∷ [])))

    end : after_last plan node ≡ suc node + length split.inner
    end = ap (λ n. suc node + n)
        ((λ i. length (take_while (is_below (here i).path) (rest i)))
        ∙ length-prefix_len p more
        ∙ prefix_run p split.inner split.behind split.all_inner (run_none p split.behind (first_of_none p split.behind split.none_behind)))

    all : length plan ≡ node + (1 + (length split.inner + length split.behind))
    all = ap length split.is ∙ omega (
      arith,
      split.long,
      length-append split.front (split.site ∷ more),
      length-append split.inner split.behind,
    )

    asked : is_below (site_in plan node).path (site_in plan other) ≡ p (get_or (split.front ++ split.site ∷ more) other no_site)
    asked = λ i. is_below (here i).path (get_or (split.is i) other no_site)

    behind_it : (k : ℕ) → other ≡ suc node + k → get_or (split.front ++ split.site ∷ more) other no_site ≡ get_or more k no_site
    behind_it k is =
        let far : other ≡ length (split.front ++ split.site ∷ []) + k =
        omega (arith, is, split.long, length-append split.front (split.site ∷ [])) in
        ap (λ nodes. get_or nodes other no_site) (sym (append_assoc split.front (split.site ∷ []) more))
        ∙ ap (λ n. get_or ((split.front ++ split.site ∷ []) ++ more) n no_site) far
        ∙ get_or-append-add (split.front ++ split.site ∷ []) more k no_site

    Answer : Bool → Type 0
    Answer b = is_below (site_in plan node).path (site_in plan other) ≡ b

    by : (other < node) ⊎ (node ≤ other) → (node < other) ⊎ (other ≤ node)
        → (other < after_last plan node) ⊎ (after_last plan node ≤ other)
        → Answer (nat_lt node other && nat_lt other (after_last plan node))
    by (inl before) order last =
        asked
        ∙ ap p (get_or_append_left split.front (split.site ∷ more) no_site other (omega (arith, split.long)))
        ∙ one_fails p split.front other no_site split.none_before (omega (arith, split.long))
        ∙ sym (ap (λ b. b && nat_lt other (after_last plan node)) (le-ltb node other (omega arith)))
    by (inr from) (inr to) last =
        let same : other ≡ length split.front = omega (arith, split.long) in
        asked
        ∙ ap (λ n. p (get_or (split.front ++ split.site ∷ more) n no_site)) same
        ∙ ap p (get_or-append_seam split.front split.site more no_site)
        ∙ split.not_itself
        ∙ sym (ap (λ b. b && nat_lt other (after_last plan node)) (le-ltb node other (omega arith)))
    by (inr from) (inl past) (inl inside) =
        let k : ℕ = other - suc node in
        let small : k < length split.inner = omega (arith, end) in
        asked
        ∙ ap p (behind_it k (omega arith) ∙ get_or_append_left split.inner split.behind no_site k small)
        ∙ AllPass-from_list_all p split.inner split.all_inner k no_site small
        ∙ sym (λ i. lt-ltb node other past i && lt-ltb other (after_last plan node) inside i)
    by (inr from) (inl past) (inr outside) =
        let k : ℕ = other - suc node - length split.inner in
        let far : other ≡ suc node + (length split.inner + k) = omega (arith, end) in
        asked
        ∙ ap p (behind_it (length split.inner + k) far ∙ get_or-append-add split.inner split.behind k no_site)
        ∙ one_fails p split.behind k no_site split.none_behind (omega (arith, end, all))
        ∙ sym (λ i. lt-ltb node other past i && le-ltb other (after_last plan node) outside i)

-- in a fit plan whose paths differ
pub are_below : (plan : List Site) → IsFitPlan plan → AreDistinct plan → (node : ℕ) → node < length plan
    → AreBelow plan node (after_last plan node)
are_below plan fit distinct node within = search (rules, below_split, split_at, differ_from, length-sites_under)
