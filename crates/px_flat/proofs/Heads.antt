-- The heads of nodes in preorder.
use Rattle.std.proofs.Common.{◌≡◌, ℕ, ◌<◌, List, [], ◌∷◌, ◌++◌, length, get_or, map, refl, ap, sym, ◌∙◌, arith, append_assoc, append-nil}
use Rattle.std.proofs.lemmas.Grind.{common_steps}
use Rattle.std.specs.Borrow.{Bor}
use Rattle.std.proofs.lemmas.List.{get_or-map, length-map, map-append}
use Rattle.px_core.proofs.Trees.{node_tree}
use Rattle.px_core.specs.declared.node.CoreNode.{CoreNode}
use Rattle.px_core.specs.Plan.{Tree, NoNode, Branch, Site, no_site, path_under, sites, sites_under, trees_of, below_it}
use Rattle.px_flat.specs.Laying.{heads_in, heads_of}
use Rattle.px_flat.specs.Row.{site_in}
use Rattle.px_flat.proofs.Trees.{node_head}

pub heads_of_more : (nodes more : List CoreNode)
    → heads_in (trees_of (nodes ++ more)) ≡ heads_in (trees_of nodes) ++ heads_in (trees_of more)
heads_of_more [] more = refl
heads_of_more (node ∷ nodes) more = grind (arith, common_steps, node_tree, append_assoc, heads_of_more nodes more)

pub heads_of_one : (node : CoreNode) → heads_in (trees_of (node ∷ [])) ≡ node_head node ∷ heads_in (below_it node)
heads_of_one node =
    ap heads_in (node_tree node NoNode) ∙ ap (λ all. node_head node ∷ all) (append-nil (heads_in (below_it node)))

-- they are those of the sites
pub heads_of_sites : (above : List (List ℕ)) (tree : Tree)
    → map (λ site. site.head) (sites_under above tree) ≡ heads_in tree
heads_of_sites above NoNode = refl
heads_of_sites above (Branch head children rest) =
    let inner : List Site = sites_under (path_under above head.name ∷ above) children in
    ap (λ heads. head ∷ heads)
    (map-append (λ (site : Site). site.head) inner (sites_under above rest)
    ∙ ap (λ heads. heads ++ map (λ (site : Site). site.head) (sites_under above rest))
    (heads_of_sites (path_under above head.name ∷ above) children)
    ∙ ap (λ heads. heads_in children ++ heads) (heads_of_sites above rest))

-- ---- nodes that a plan lends

pub heads_are : (nodes : List (Bor CoreNode)) (tree : Tree) (plan : List Site) → heads_of nodes ≡ heads_in tree
    → plan ≡ sites tree → heads_of nodes ≡ map (λ site. site.head) plan
heads_are nodes tree plan lent same =
    lent ∙ sym (heads_of_sites [] tree) ∙ ap (map (λ (site : Site). site.head)) (sym same)

pub length-heads : (nodes : List (Bor CoreNode)) (plan : List Site) → heads_of nodes ≡ map (λ site. site.head) plan
    → length nodes ≡ length plan
length-heads nodes plan heads = grind (arith, common_steps, length-map)

pub head_at : (nodes : List (Bor CoreNode)) (plan : List Site) (i : ℕ) (node : Bor CoreNode)
    → heads_of nodes ≡ map (λ site. site.head) plan → i < length nodes → node ≡ get_or nodes i node
    → node_head node.now ≡ (site_in plan i).head
head_at nodes plan i node heads within is =
    ap (λ (node : Bor CoreNode). node_head node.now) is
    ∙ sym (get_or-map (λ (node : Bor CoreNode). node_head node.now) nodes i node no_site.head within)
    ∙ ap (λ heads. get_or heads i no_site.head) heads
    ∙ get_or-map (λ (site : Site). site.head) plan i no_site no_site.head
    (omega (arith, length-heads nodes plan heads))
