-- Nodes laid out one after another, each with all that is below it.
use Rattle.std.proofs.Common.{◌≡◌, ℕ, zero, suc, ◌+◌, ◌<◌, ◌≤◌, true, List, [], ◌∷◌, ◌++◌, length}
use Rattle.std.proofs.Common.{get_or, refl, ap, sym, ◌∙◌, subst, arith, Some, None, take}
use Rattle.std.proofs.Common.{append_assoc, append-nil, length-append, rules}
use Rattle.std.proofs.lemmas.Bool.{and_parts}
use Rattle.std.specs.Prelude.{nat_le}
use Rattle.std.specs.List.{list_all}
use Rattle.std.proofs.lemmas.Bool.{leb-true}
use Rattle.std.proofs.lemmas.Bool.Decides.{eqb_tells}
use Rattle.std.proofs.lemmas.List.{get_or_append_left, take_more}
use Rattle.std.proofs.lemmas.List.Folds.{list_all-append}
use Rattle.std.proofs.lemmas.List.Sums.{list_all-from_AllPass}
use Rattle.std.proofs.Math.Seq.{get_or-append_seam}
use Rattle.std.proofs.lemmas.Grind.{common_steps}
use Rattle.px_value.specs.Name.{is_name}
use Rattle.px_value.specs.Path.{below}
use Rattle.px_core.proofs.Trees.{node_tree}
use Rattle.px_core.specs.declared.node.CoreNode.{CoreNode}
use Rattle.px_core.specs.declared.node.CoreNode.TheViews.{out-CoreNode}
use Rattle.px_core.specs.declared.node.CoreNode.TheFolds.{fold-CoreNode}
use Rattle.px_core.specs.Plan.{Tree, Branch, NoNode, Head, count_of, Site, no_site, branch, head_of, path_under, below_it}
use Rattle.px_core.specs.Plan.{site_under, sites_under, sites, trees_of}
use Rattle.px_core.specs.Fit.{siblings_differ, has_short_path, has_name, AreDistinct}
use Rattle.px_flat.specs.declared.row.Row.{Row}
use Rattle.px_flat.specs.Row.{head_data}
use Rattle.px_flat.specs.Rows.{above_in, site_of, sites_of, path_at, IsBefore, IsLaid, IsLinked, IsNamed}
use Rattle.px_flat.specs.Laying.{ends_from, IsRowUnder, IsRootRow}
use Rattle.px_core.proofs.SitePaths.{paths_differ}
use Rattle.px_flat.proofs.Sites.{length-sites_of, site_at_linked, grown-push}

-- a node's head
abbrev pub node_head : CoreNode → Head
node_head node = head_of (out-CoreNode node)

-- the sites of nodes side by side are those of the first ones and those of the rest
pub sites_of_more : (above : List (List ℕ)) (nodes more : List CoreNode)
    → sites_under above (trees_of (nodes ++ more)) ≡ sites_under above (trees_of nodes) ++ sites_under above (trees_of more)
sites_of_more above [] more = refl
sites_of_more above (node ∷ nodes) more =
    grind (arith, common_steps, node_tree, append_assoc, sites_of_more above nodes more)

-- one node: its own site, and those below it
pub sites_of_one : (above : List (List ℕ)) (node : CoreNode)
    → sites_under above (trees_of (node ∷ []))
    ≡ site_under above (node_head node) ∷ sites_under (path_under above (node_head node).name ∷ above) (below_it node)
sites_of_one above node = grind (arith, common_steps, node_tree, append-nil)

-- the first nodes are laid
pub record LaidSoFar (old rows : List Row) (parent : ℕ) (done : List CoreNode) : Type 0 where
  pub sites : sites_of rows ≡ sites_of old ++ sites_under (above_in (sites_of old) (Some parent)) (trees_of done)
  pub linked : IsLinked rows
  pub named : IsNamed rows

-- the parent is where it was
parent_stays : (old rows : List Row) (parent : ℕ) (done : List CoreNode) → parent < length old
    → LaidSoFar old rows parent done
    → get_or (sites_of rows) parent no_site ≡ get_or (sites_of old) parent no_site
parent_stays old rows parent done h so_far =
    ap (λ all. get_or all parent no_site) so_far.sites
    ∙ get_or_append_left (sites_of old) _ no_site parent (omega (arith, length-sites_of old))

pub long_enough : (old rows : List Row) (parent : ℕ) (done : List CoreNode) → parent < length old
    → LaidSoFar old rows parent done → parent < length rows
long_enough old rows parent done h so_far = grind (arith, common_steps, length-append, length-sites_of)

-- the path of the parent, which the next node's path goes on from
pub parent_path : (old rows : List Row) (parent : ℕ) (done : List CoreNode) → parent < length old
    → LaidSoFar old rows parent done
    → path_at rows parent ≡ (get_or (sites_of old) parent no_site).path
parent_path old rows parent done h so_far = ap (λ site. site.path) (parent_stays old rows parent done h so_far)

-- the site of these parts
abbrev site_with : List ℕ → List (List ℕ) → Head → Site
site_with path above head = record { path = path; above = above; head = head }

-- the next node's row is its site
pub row_is_site : (old rows : List Row) (parent : ℕ) (done : List CoreNode) (node : CoreNode) (row : Row)
    → parent < length old → LaidSoFar old rows parent done
    → IsRowUnder rows parent node row
    → site_of (sites_of rows) row ≡ site_under (above_in (sites_of old) (Some parent)) (node_head node)
row_is_site old rows parent done node row h so_far is =
    ap (λ path. site_with path (above_in (sites_of rows) row.parent) (head_data row.head))
    (is.path_is ∙ ap (λ path. below path (node_head node).name) (parent_path old rows parent done h so_far))
    ∙ ap (λ parent. site_with own (above_in (sites_of rows) parent) (head_data row.head)) is.parent_is
    ∙ ap (λ head. site_with own (above_in (sites_of rows) (Some parent)) head) is.head_is
    ∙ ap (λ parent. site_with own (parent.path ∷ parent.above) (node_head node)) (parent_stays old rows parent done h so_far)
  where
    own : List ℕ
    own = below (get_or (sites_of old) parent no_site).path (node_head node).name

-- all can be laid: the next node, and those below it
pub record NextIsShort (above : List (List ℕ)) (node : CoreNode) : Type 0 where
  pub own : has_short_path (site_under above (node_head node)) ≡ true
  pub inner : list_all has_short_path (sites_under (path_under above (node_head node).name ∷ above) (below_it node)) ≡ true

-- the first node's part, and that of the nodes behind it
short_parts : (above : List (List ℕ)) (node : CoreNode) (nodes : List CoreNode)
    → list_all has_short_path (sites_under above (trees_of (node ∷ nodes))) ≡ true
    → NextIsShort above node × (list_all has_short_path (sites_under above (trees_of nodes)) ≡ true)
short_parts above node nodes short = grind (arith, common_steps, and_parts, node_tree, list_all-append)

pub next_is_short : (above : List (List ℕ)) (nodes : List CoreNode) (i : ℕ) (d : CoreNode) → i < length nodes
    → list_all has_short_path (sites_under above (trees_of nodes)) ≡ true → NextIsShort above (get_or nodes i d)
next_is_short above [] i d h short = absurd (omega arith)
next_is_short above (node ∷ nodes) zero d h short = (short_parts above node nodes short).0
next_is_short above (node ∷ nodes) (suc i) d h short =
    next_is_short above nodes i d (omega arith) (short_parts above node nodes short).1

-- after the next node is put in its row
pub record IsPut (old rows put : List Row) (parent : ℕ) (node : CoreNode) : Type 0 where
  pub sites : sites_of put ≡ sites_of rows ++ site_under (above_in (sites_of old) (Some parent)) (node_head node) ∷ []
  pub linked : IsLinked put
  pub named : IsNamed put
  pub above : above_in (sites_of put) (Some (length rows))
      ≡ path_under (above_in (sites_of old) (Some parent)) (node_head node).name ∷ above_in (sites_of old) (Some parent)
  pub long : length put ≡ length rows + 1

-- what holds of each by its number holds with one more
pub each_put : {X : Type 0} (P : ℕ → X → Type 0) (rows : List X) (row : X)
    → ((i : ℕ) (d : X) → i < length rows → P i (get_or rows i d))
    → P (length rows) row → (i : ℕ) (d : X) → i < length (rows ++ row ∷ [])
    → P i (get_or (rows ++ row ∷ []) i d)
each_put P rows row each here i d h =
    grind (arith, common_steps, eqb_tells, get_or-append_seam, length-append, get_or_append_left)

pub put_next : (old rows : List Row) (parent : ℕ) (done : List CoreNode) (node : CoreNode) → parent < length old
    → LaidSoFar old rows parent done
    → (row : Row) → IsRowUnder rows parent node row → IsPut old rows (rows ++ row ∷ []) parent node
put_next old rows parent done node h so_far row is = record {
  sites = put_sites;
  linked = each_put IsBefore rows row so_far.linked (λ j e.
      let same : Some parent ≡ Some j = sym is.parent_is ∙ e in
      let number : parent ≡ j = (cc) in
      subst (λ n. n < length rows) number (long_enough old rows parent done h so_far));
  named = each_put (λ i p. is_name p.head.name ≡ true) rows row so_far.named
      (ap (λ (head : Head). is_name head.name) is.head_is ∙ is.named);
  above = ap (λ site. site.path ∷ site.above)
      (ap (λ all. get_or all (length rows) no_site) put_sites
      ∙ ap (λ n. get_or (sites_of rows ++ site_under (above_in (sites_of old) (Some parent)) (node_head node) ∷ []) n
      no_site) (sym (length-sites_of rows))
      ∙ get_or-append_seam (sites_of rows) (site_under (above_in (sites_of old) (Some parent)) (node_head node)) []
      no_site);
  long = length-append rows (row ∷ []);
}
  where
    put_sites : sites_of (rows ++ row ∷ [])
        ≡ sites_of rows ++ site_under (above_in (sites_of old) (Some parent)) (node_head node) ∷ []
    put_sites = grown-push [] rows row
        ∙ ap (λ site. sites_of rows ++ site ∷ []) (row_is_site old rows parent done node row h so_far is)

-- after those below it are laid too
pub laid_next : (old rows put rows' : List Row) (parent : ℕ) (done : List CoreNode) (node : CoreNode)
    → LaidSoFar old rows parent done → IsPut old rows put parent node
    → sites_of rows' ≡ sites_of put ++ sites_under (above_in (sites_of put) (Some (length rows))) (below_it node)
    → IsLinked rows' → IsNamed rows' → LaidSoFar old rows' parent (done ++ node ∷ [])
laid_next old rows put rows' parent done node so_far is_put inner linked named =
    grind (arith, common_steps, append_assoc, sites_of_more, sites_of_one)

-- the loop's step
pub laid_more : (old rows : List Row) (parent : ℕ) (nodes : List CoreNode) (i : ℕ) (d : CoreNode) → i < length nodes
    → LaidSoFar old rows parent (take i nodes ++ get_or nodes i d ∷ [])
    → LaidSoFar old rows parent (take (i + 1) nodes)
laid_more old rows parent nodes i d h so_far =
    subst (LaidSoFar old rows parent) (sym (take_more nodes i d h)) so_far

pub laid_none : (rows : List Row) (parent : ℕ) → IsLinked rows → IsNamed rows
    → LaidSoFar rows rows parent []
laid_none rows parent linked named =
    record { sites = sym (append-nil (sites_of rows)); linked = linked; named = named }

-- room for the next name
pub short_room : (path name : List ℕ) → nat_le (length (below path name)) 5000 ≡ true → length path + length name < 5000
short_room path name h = let le : length (below path name) ≤ 5000 = leb-true (length (below path name)) 5000 h in
    omega (arith, length-append path (46 ∷ name))

pub next_room : (old rows : List Row) (parent : ℕ) (done : List CoreNode) (node : CoreNode) → parent < length old
    → LaidSoFar old rows parent done
    → NextIsShort (above_in (sites_of old) (Some parent)) node
    → length (path_at rows parent) + length (node_head node).name < 5000
next_room old rows parent done node h so_far is_short = grind (arith, common_steps, parent_path, short_room)

-- ---- how many they are

pub length-sites_under : (above : List (List ℕ)) (tree : Tree) → length (sites_under above tree) ≡ count_of tree
length-sites_under above NoNode = refl
length-sites_under above (Branch head children rest) =
    let inner : List Site = sites_under (path_under above head.name ∷ above) children in
    omega (
      arith,
      length-append inner (sites_under above rest),
      length-sites_under (path_under above head.name ∷ above) children,
      length-sites_under above rest,
    )

-- the first nodes, the next one and those below it are no more than all
pub count_next : (nodes : List CoreNode) (i : ℕ) (d : CoreNode) → i < length nodes
    → count_of (trees_of (take i nodes)) + (1 + count_of (below_it (get_or nodes i d))) ≤ count_of (trees_of nodes)
count_next [] i d h = absurd (omega arith)
count_next (node ∷ nodes) zero d h = omega (arith, ap count_of (node_tree node (trees_of nodes)))
count_next (node ∷ nodes) (suc i) d h = grind (arith, common_steps, node_tree, count_next nodes i d (omega arith))

-- so a child has fewer nodes below it than its parent
pub child_smaller : (node : CoreNode) (children : List CoreNode) (i : ℕ) (child : CoreNode)
    → children ≡ (out-CoreNode node).children.items → i < length children → child ≡ get_or children i child
    → count_of (below_it child) < count_of (below_it node)
child_smaller node children i child are within is =
    let fewer : count_of (below_it (get_or children i child)) < count_of (trees_of children) =
    omega (arith, count_next children i child within) in
    subst (λ children. count_of (below_it child) < count_of (trees_of children)) are
    (subst (λ child. count_of (below_it child) < count_of (trees_of children)) (sym is) fewer)

-- how many rows are laid
pub laid_count : (old rows : List Row) (parent : ℕ) (done : List CoreNode) → LaidSoFar old rows parent done
    → length rows ≡ length old + count_of (trees_of done)
laid_count old rows parent done so_far = search (rules, length-append, length-sites_under, length-sites_of)

-- ---- the ends

pub ends_of_more : (number : ℕ) (nodes more : List CoreNode)
    → ends_from number (trees_of (nodes ++ more))
    ≡ ends_from number (trees_of nodes) ++ ends_from (number + count_of (trees_of nodes)) (trees_of more)
ends_of_more number [] more = ap (λ n. ends_from n (trees_of more)) (omega arith)
ends_of_more number (node ∷ nodes) more =
    let inner : List ℕ = ends_from (number + 1) (below_it node) in
    let after : ℕ = number + 1 + count_of (below_it node) in
    let same : after + count_of (trees_of nodes) ≡ number + count_of (trees_of (node ∷ nodes)) =
    omega (arith, ap count_of (node_tree node (trees_of nodes))) in
    ap (ends_from number) (node_tree node (trees_of (nodes ++ more)))
    ∙ ap (λ rest. after ∷ (inner ++ rest)) (ends_of_more after nodes more)
    ∙ ap (λ all. after ∷ all) (sym (append_assoc inner (ends_from after (trees_of nodes))
    (ends_from (after + count_of (trees_of nodes)) (trees_of more))))
    ∙ ap (λ n. (after ∷ (inner ++ ends_from after (trees_of nodes))) ++ ends_from n (trees_of more)) same
    ∙ ap (λ tree. ends_from number tree ++ ends_from (number + count_of (trees_of (node ∷ nodes))) (trees_of more))
    (sym (node_tree node (trees_of nodes)))

pub ends_of_one : (number : ℕ) (node : CoreNode)
    → ends_from number (trees_of (node ∷ []))
    ≡ (number + 1 + count_of (below_it node)) ∷ ends_from (number + 1) (below_it node)
ends_of_one number node =
    ap (ends_from number) (node_tree node NoNode)
    ∙ ap (λ all. (number + 1 + count_of (below_it node)) ∷ all) (append-nil (ends_from (number + 1) (below_it node)))

pub count_of_one : (node : CoreNode) → count_of (trees_of (node ∷ [])) ≡ 1 + count_of (below_it node)
count_of_one node = omega (arith, ap count_of (node_tree node NoNode))

pub length-ends_from : (number : ℕ) (tree : Tree) → length (ends_from number tree) ≡ count_of tree
length-ends_from number NoNode = refl
length-ends_from number (Branch head children rest) =
    let inner : List ℕ = ends_from (number + 1) children in
    let outer : List ℕ = ends_from (number + 1 + count_of children) rest in
    omega (
      arith,
      length-append inner outer,
      length-ends_from (number + 1) children,
      length-ends_from (number + 1 + count_of children) rest,
    )

-- ---- a whole plan

-- a root and what is below it, before anything is laid below it
pub record IsRooted (rows : List Row) (root : CoreNode) : Type 0 where
  pub sites : sites_of rows ≡ site_under [] (node_head root) ∷ []
  pub linked : IsLinked rows
  pub named : IsNamed rows
  pub long : length rows ≡ 1

pub rooted : (front rows : List Row) (root : CoreNode) (row : Row) → front ≡ [] → rows ≡ front ++ row ∷ []
    → IsRootRow root row
    → IsRooted rows root
rooted front rows root row none is root_is = subst (λ ps. IsRooted ps root)
    (sym (is ∙ ap (λ ps. ps ++ row ∷ []) none)) (record {
      sites = ap (λ site. site ∷ [])
          (ap (λ path. site_with path (above_in [] row.parent) (head_data row.head)) root_is.path_is
          ∙ ap (λ parent. site_with (node_head root).name (above_in [] parent) (head_data row.head)) root_is.parent_is
          ∙ ap (λ head. site_with (node_head root).name [] head) root_is.head_is);
      linked = each_put IsBefore [] row (λ i d h. absurd (omega arith)) (λ j e.
          let none : None ≡ Some j = sym root_is.parent_is ∙ e in absurd (cc));
      named = each_put (λ i p. is_name p.head.name ≡ true) [] row (λ i d h. absurd (omega arith))
          (ap (λ (head : Head). is_name head.name) root_is.head_is ∙ root_is.named);
      long = refl;
    })

pub above_root : (rows : List Row) (root : CoreNode) → IsRooted rows root
    → above_in (sites_of rows) (Some 0) ≡ (node_head root).name ∷ []
above_root rows root is = ap (λ all. (get_or all 0 no_site).path ∷ (get_or all 0 no_site).above) is.sites

-- all is laid
pub all_laid : (rows rows' : List Row) (root : CoreNode) → IsRooted rows root
    → sites_of rows' ≡ sites_of rows ++ sites_under (above_in (sites_of rows) (Some 0)) (below_it root)
    → sites_of rows' ≡ sites (fold-CoreNode (Tree → Tree) branch root NoNode)
all_laid rows rows' root is inner = grind (arith, common_steps, above_root, sites_of_one [] root)

pub laid : (rows : List Row) (tree : Tree) (spare : Row) → sites_of rows ≡ sites tree
    → siblings_differ tree ≡ true → IsLinked rows → IsNamed rows → IsLaid rows
laid rows tree spare same siblings linked named = record {
  linked = linked;
  distinct =
      λ i j hi hj is. distinct i j (omega (arith, length-sites_of rows)) (omega (arith, length-sites_of rows)) is;
}
  where
    each_named : list_all has_name (sites_of rows) ≡ true
    each_named = list_all-from_AllPass has_name (sites_of rows) (λ i d h.
        let within : i < length rows = omega (arith, length-sites_of rows) in
        subst (λ site. has_name site ≡ true) (sym (site_at_linked rows linked i d spare within))
        (named i spare within))

    distinct : AreDistinct (sites_of rows)
    distinct = subst AreDistinct (sym same)
        (paths_differ tree siblings (subst (λ plan. list_all has_name plan ≡ true) same each_named))
