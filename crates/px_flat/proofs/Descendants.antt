-- The number after the last descendant, by the tree and by the list of nodes.
use Rattle.std.proofs.Common.{◌≡◌, ℕ, zero, suc, ◌+◌, ◌-◌, ◌<◌, ◌≤◌, Bool, true, false, ◌||◌, ◌&&◌, cond, List, [], ◌∷◌, ◌++◌, length, get_or, drop, refl, ap, sym, ◌∙◌, arith, inl, inr, append_assoc, append-nil, length-append}
use Rattle.std.specs.List.{list_all, list_any, prefix_len, AllByRecursion}
use Rattle.std.proofs.Math.Bool.{or-true}
use Rattle.std.proofs.lemmas.Bool.{cases_lt}
use Rattle.std.proofs.lemmas.Grind.{common_steps}
use Rattle.std.proofs.lemmas.List.{get_or_append_left, get_or-append-add, drop-drop, drop_at}
use Rattle.std.proofs.lemmas.List.Folds.{length-prefix_len, list_all-append}
use Rattle.px_value.proofs.General.{each_map, prefix_run}
use Rattle.px_core.specs.Plan.{Tree, NoNode, Branch, Site, no_site, is_same, count_of, path_under, site_under, sites_under, sites}
use Rattle.px_core.proofs.Paths.{same-self, same-other}
use Rattle.px_flat.specs.Laying.{ends_from}
use Rattle.px_flat.specs.Row.{site_in, is_below, after_last}
use Rattle.px_flat.proofs.Trees.{length-sites_under, length-ends_from}

-- ---- those that stand below a node

-- all nodes of a tree stand below each of their ancestors
pub all_below : (own : List ℕ) (above : List (List ℕ)) (tree : Tree) → list_any (is_same own) above ≡ true
    → list_all (is_below own) (sites_under above tree) ≡ true
all_below own above NoNode here = refl
all_below own above (Branch head children rest) here =
    let under : List (List ℕ) = path_under above head.name ∷ above in
    let deeper : list_any (is_same own) under ≡ true =
    ap (λ b. is_same own (path_under above head.name) || b) here ∙ or-true (is_same own (path_under above head.name)) in
    ap (λ b. b && list_all (is_below own) (sites_under under children ++ sites_under above rest)) here
    ∙ list_all-append (is_below own) (sites_under under children) (sites_under above rest)
    ∙ ap (λ b. b && list_all (is_below own) (sites_under above rest)) (all_below own under children deeper)
    ∙ all_below own above rest here

pub self_among : (own : List ℕ) (above : List (List ℕ)) → list_any (is_same own) (own ∷ above) ≡ true
self_among own above = ap (λ b. b || list_any (is_same own) above) (same-self own)

-- ---- those that don't, by the length of the paths above them

-- each path has fewer bytes
abbrev pub Shorter : ℕ → List (List ℕ) → Type 0
Shorter n paths = AllByRecursion (λ path. length path < n) paths

pub shorter_more : (n m : ℕ) (paths : List (List ℕ)) → n ≤ m → Shorter n paths → Shorter m paths
shorter_more n m paths le h =
    each_map (λ (path : List ℕ). length path < n) (λ path. length path < m) paths (λ path less. omega (arith, less, le)) h

pub not_among : (own : List ℕ) (paths : List (List ℕ)) → Shorter (length own) paths → list_any (is_same own) paths ≡ false
not_among own [] h = refl
not_among own (path ∷ paths) h =
    let less : length path < length own = h.0 in grind (arith, common_steps, same-other, not_among own paths h.1)

-- the least length of the paths under these ancestors
abbrev pub depth : List (List ℕ) → ℕ
depth [] = 0
depth (parent ∷ above) = suc (length parent)

pub own_long : (above : List (List ℕ)) (name : List ℕ) → depth above ≤ length (path_under above name)
own_long [] name = omega arith
own_long (parent ∷ above) name = omega (arith, length-append parent (46 ∷ name))

-- the first of these nodes has shorter paths above it
abbrev FirstShorter : ℕ → List Site → Type 0
FirstShorter n [] = Unit {0}
FirstShorter n (site ∷ sites) = Shorter n site.above

first_more : (n m : ℕ) (sites : List Site) → n ≤ m → FirstShorter n sites → FirstShorter m sites
first_more n m [] le h = tt
first_more n m (site ∷ sites) le h = shorter_more n m site.above le h

-- ---- the run of nodes below a node

-- the first fails the test
abbrev pub FirstFails : (Site → Bool) → List Site → Type 0
FirstFails p [] = Unit {0}
FirstFails p (site ∷ sites) = p site ≡ false

pub run_none : (p : Site → Bool) (sites : List Site) → FirstFails p sites → prefix_len p sites ≡ 0
run_none p [] h = refl
run_none p (site ∷ sites) h = ap (λ b. cond b (1 + prefix_len p sites) 0) h

first_fails : (own : List ℕ) (n : ℕ) (sites : List Site) → n ≤ length own → FirstShorter n sites
    → FirstFails (is_below own) sites
first_fails own n [] le h = tt
first_fails own n (site ∷ sites) le h = not_among own site.above (shorter_more n (length own) site.above le h)

-- ---- both ways

-- the number after the last descendant of the node at a place of the list, whose first node has this number
abbrev end_at : ℕ → List Site → ℕ → ℕ
end_at number nodes i =
    number + suc i + prefix_len (is_below (get_or nodes i no_site).path) (drop (suc i) nodes)

rest_first : (above : List (List ℕ)) (rest : Tree) (behind : List Site) → Shorter (depth above) above
    → FirstShorter (depth above) behind → FirstShorter (depth above) (sites_under above rest ++ behind)
rest_first above NoNode behind stem first = first
rest_first above (Branch head children rest) behind stem first = stem

ends_at : (number : ℕ) (above : List (List ℕ)) (tree : Tree) (behind : List Site) (i : ℕ) → Shorter (depth above) above
    → FirstShorter (depth above) behind → i < count_of tree
    → get_or (ends_from number tree) i 0 ≡ end_at number (sites_under above tree ++ behind) i
ends_at number above NoNode behind i stem first within = absurd (omega arith)
ends_at number above (Branch head children rest) behind i stem first within =
    by (λ i inside. ends_at (number + 1) (own ∷ above) children (outer ++ behind) i
    (omega arith, shorter_more (depth above) (suc (length own)) above (omega (arith, long)) stem)
    (first_more (depth above) (suc (length own)) (outer ++ behind) (omega (arith, long)) first_outer) inside)
    (λ k beyond. ends_at next above rest behind k stem first beyond) i within
  where
    own : List ℕ
    own = path_under above head.name

    inner : List Site
    inner = sites_under (own ∷ above) children

    outer : List Site
    outer = sites_under above rest

    next : ℕ
    next = number + 1 + count_of children

    long : depth above ≤ length own
    long = own_long above head.name

    first_outer : FirstShorter (depth above) (outer ++ behind)
    first_outer = rest_first above rest behind stem first

    InChildren : Type 0
    InChildren = (i : ℕ) → i < count_of children
        → get_or (ends_from (number + 1) children) i 0 ≡ end_at (number + 1) (inner ++ (outer ++ behind)) i

    InRest : Type 0
    InRest = (k : ℕ) → k < count_of rest → get_or (ends_from next rest) k 0 ≡ end_at next (outer ++ behind) k

    shifted : (i : ℕ) (nodes all : List Site) → nodes ≡ all
        → end_at (number + 1) nodes i ≡ end_at number (site_under above head ∷ all) (suc i)
    shifted i nodes all same =
        omega (arith, ap (λ ns. prefix_len (is_below (get_or ns i no_site).path) (drop (suc i) ns)) same)

    outside : InRest → (i k : ℕ) → i ≡ count_of children + k → k < count_of rest
        → get_or (ends_from (number + 1) children ++ ends_from next rest) i 0
        ≡ end_at number (site_under above head ∷ ((inner ++ outer) ++ behind)) (suc i)
    outside in_rest i k is within =
        let nodes : List Site = outer ++ behind in
        let many : length inner ≡ count_of children = length-sites_under (own ∷ above) children in
        let here : i ≡ length inner + k = omega arith in
        let there : i ≡ length (ends_from (number + 1) children) + k =
        omega (arith, length-ends_from (number + 1) children) in
        let same_node : get_or (inner ++ nodes) i no_site ≡ get_or nodes k no_site =
        ap (λ n. get_or (inner ++ nodes) n no_site) here ∙ get_or-append-add inner nodes k no_site in
        let far : suc i ≡ length inner + suc k = omega arith in
        let same_rest : drop (suc i) (inner ++ nodes) ≡ drop (suc k) nodes =
        ap (λ n. drop n (inner ++ nodes)) far
        ∙ sym (drop-drop (suc k) (length inner) (inner ++ nodes))
        ∙ ap (drop (suc k)) (drop_at inner nodes (length inner) refl) in
        let run : prefix_len (is_below (get_or (inner ++ nodes) i no_site).path) (drop (suc i) (inner ++ nodes))
        ≡ prefix_len (is_below (get_or nodes k no_site).path) (drop (suc k) nodes) =
        λ j. prefix_len (is_below (same_node j).path) (same_rest j) in
        ap (λ n. get_or (ends_from (number + 1) children ++ ends_from next rest) n 0) there
        ∙ get_or-append-add (ends_from (number + 1) children) (ends_from next rest) k 0
        ∙ in_rest k within
        ∙ omega (arith, run)
        ∙ shifted i (inner ++ nodes) ((inner ++ outer) ++ behind) (sym (append_assoc inner outer behind))

    by : InChildren → InRest → (i : ℕ) → i < 1 + count_of children + count_of rest
        → get_or (next ∷ (ends_from (number + 1) children ++ ends_from next rest)) i 0
        ≡ end_at number (site_under above head ∷ ((inner ++ outer) ++ behind)) i
    by in_children in_rest zero within =
        let run : prefix_len (is_below own) ((inner ++ outer) ++ behind) ≡ count_of children =
        ap (prefix_len (is_below own)) (append_assoc inner outer behind)
        ∙ prefix_run (is_below own) inner (outer ++ behind) (all_below own (own ∷ above) children (self_among own above))
        (run_none (is_below own) (outer ++ behind) (first_fails own (depth above) (outer ++ behind) long first_outer))
        ∙ length-sites_under (own ∷ above) children in
        omega (arith, run)
    by in_children in_rest (suc i) within = elim (cases_lt i (count_of children)) [
      | inl inside ↦
          get_or_append_left (ends_from (number + 1) children) (ends_from next rest) 0 i
          (omega (arith, length-ends_from (number + 1) children))
          ∙ in_children i inside
          ∙ shifted i (inner ++ (outer ++ behind)) ((inner ++ outer) ++ behind) (sym (append_assoc inner outer behind))
      | inr past ↦ outside in_rest i (i - count_of children) (omega arith) (omega arith)
    ]

-- the number after the last descendant
pub end_is : (tree : Tree) (i : ℕ) → i < count_of tree → get_or (ends_from 0 tree) i 0 ≡ after_last (sites tree) i
end_is tree i within =
    ends_at 0 [] tree [] i tt tt within
    ∙ ap (λ nodes. end_at 0 nodes i) (append-nil (sites tree))
    ∙ omega (arith, length-prefix_len (is_below (site_in (sites tree) i).path) (drop (suc i) (sites tree)))
