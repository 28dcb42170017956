-- The kinds of nodes that are told one after another.
use Rattle.std.proofs.Common.{◌≡◌, ℕ, ◌<◌, ◌++◌, true, false, List, [], ◌∷◌, length, get_or, refl, ap, sym, ◌∙◌, append-nil, append_assoc, Option, Some, None, is_some, if◌then◌else◌}
use Rattle.std.specs.Cmp.Lexicographic.{same_text}
use Rattle.std.specs.List.{list_all}
use Rattle.std.specs.Map.{lookup}
use Rattle.std.specs.Option.{option_or}
use Rattle.std.proofs.lemmas.Bool.{false_from_ne_true}
use Rattle.std.proofs.lemmas.List.{map-append, nil_from_length}
use Rattle.std.proofs.lemmas.List.Folds.{list_all-map}
use Rattle.px_value.proofs.General.{lookup-append}
use Rattle.px_value.specs.Path.{below}
use Rattle.px_core.proofs.Trees.{node_tree}
use Rattle.px_core.specs.declared.node.CoreNode.{CoreNode}
use Rattle.px_core.specs.declared.node.Kind.{Kind}
use Rattle.px_core.specs.Fit.{has_short_path}
use Rattle.px_core.specs.Plan.{Tree, NoNode, Branch, Site, sites_under, sites, tree_of_node, is_same, trees_of, below_it}
use Rattle.px_flat.proofs.Trees.{node_head, sites_of_more, sites_of_one, next_is_short}
use Rattle.px_script.specs.Telling.{TellKinds, all_kinds, kinds_under, has_short}

abbrev Told : Type 0
Told = List (List ℕ × Kind)

-- a node below a path, and those below it
abbrev path_of : List ℕ → CoreNode → List ℕ
path_of parent node = below parent (node_head node).name

abbrev own : List ℕ → CoreNode → List ℕ × Kind
own parent node = (path_of parent node, (node_head node).kind)

abbrev inner : List ℕ → CoreNode → Told
inner parent node = kinds_under (path_of parent node) (below_it node)

-- whatever stands above the parent
pub kinds_of_sites : (parent : List ℕ) (above : List (List ℕ)) (tree : Tree)
    → all_kinds (sites_under (parent ∷ above) tree) ≡ kinds_under parent tree
kinds_of_sites parent above NoNode = refl
kinds_of_sites parent above (Branch head children rest) =
    let path = below parent head.name in
    ap (λ all. (path, head.kind) ∷ all)
    (map-append (λ site. (site.path, site.head.kind)) (sites_under (path ∷ parent ∷ above) children) (sites_under (parent ∷ above) rest)
    ∙ (λ i. kinds_of_sites path (parent ∷ above) children i ++ kinds_of_sites parent above rest i))

-- ---- nodes side by side

more_kinds : (parent : List ℕ) (nodes more : List CoreNode)
    → kinds_under parent (trees_of (nodes ++ more)) ≡ kinds_under parent (trees_of nodes) ++ kinds_under parent (trees_of more)
more_kinds parent nodes more =
    sym (kinds_of_sites parent [] (trees_of (nodes ++ more)))
    ∙ ap all_kinds (sites_of_more (parent ∷ []) nodes more)
    ∙ map-append (λ (site : Site). (site.path, site.head.kind)) (sites_under (parent ∷ []) (trees_of nodes)) (sites_under (parent ∷ []) (trees_of more))
    ∙ (λ i. kinds_of_sites parent [] (trees_of nodes) i ++ kinds_of_sites parent [] (trees_of more) i)

one_kind : (parent : List ℕ) (node : CoreNode) → kinds_under parent (trees_of (node ∷ [])) ≡ own parent node ∷ inner parent node
one_kind parent node =
    ap (kinds_under parent) (node_tree node NoNode) ∙ ap (λ all. own parent node ∷ all) (append-nil (inner parent node))

-- the paths that are told are as short as those of the sites
short_as : (parent : List ℕ) (above : List (List ℕ)) (tree : Tree)
    → list_all has_short (kinds_under parent tree) ≡ list_all has_short_path (sites_under (parent ∷ above) tree)
short_as parent above tree =
    ap (list_all has_short) (sym (kinds_of_sites parent above tree))
    ∙ list_all-map has_short (λ (site : Site). (site.path, site.head.kind)) (sites_under (parent ∷ above) tree)

pub short_kinds : (parent : List ℕ) (above : List (List ℕ)) (tree : Tree)
    → list_all has_short_path (sites_under (parent ∷ above) tree) ≡ true → list_all has_short (kinds_under parent tree) ≡ true
short_kinds parent above tree short = short_as parent above tree ∙ short

-- the next child can be told, and what is below it
pub record IsShortChild (parent : List ℕ) (node : CoreNode) : Type 0 where
  pub own : has_short (own parent node) ≡ true
  pub inner : list_all has_short (inner parent node) ≡ true

pub short_child : (parent : List ℕ) (nodes : List CoreNode) (i : ℕ) (d : CoreNode) → i < length nodes
    → list_all has_short (kinds_under parent (trees_of nodes)) ≡ true → IsShortChild parent (get_or nodes i d)
short_child parent nodes i d within short =
    let child = get_or nodes i d in
    let next = next_is_short (parent ∷ []) nodes i d within (sym (short_as parent [] (trees_of nodes)) ∙ short) in
    record { own = next.own; inner = short_kinds (path_of parent child) (parent ∷ []) (below_it child) next.inner }

-- ---- what entries tell

-- entries that tell the same tell the same with more behind them
both_tell : (entries kinds behind : Told) → TellKinds entries kinds → TellKinds (entries ++ behind) (kinds ++ behind)
both_tell entries kinds behind same path =
    lookup-append (is_same path) entries behind ∙ ap (λ told. option_or told (lookup (is_same path) behind)) (same path)
    ∙ sym (lookup-append (is_same path) kinds behind)

-- a path of which something is told already
pub told_already : (entries : Told) (path : List ℕ) (kind : Kind) → is_some (lookup (is_same path) entries) ≡ true
    → TellKinds entries (entries ++ (path, kind) ∷ [])
told_already entries path kind there other = by (lookup (is_same other) entries) refl
  where
    none_else : (other : List ℕ) → lookup (is_same other) entries ≡ None → is_same other path ≡ false
    none_else other none = false_from_ne_true (is_same other path) (λ is.
        cc (sym there ∙ ap (λ p. is_some (lookup (is_same p) entries)) (sym (same_text other path (sym is))) ∙ ap is_some none))

    by : (told : Option Kind) → lookup (is_same other) entries ≡ told
        → lookup (is_same other) entries ≡ lookup (is_same other) (entries ++ (path, kind) ∷ [])
    by None is = is ∙ sym (lookup-append (is_same other) entries ((path, kind) ∷ []) ∙ ap (λ told. option_or told (lookup (is_same other) ((path, kind) ∷ []))) is
        ∙ ap (λ here. if here then Some kind else None) (none_else other is))
    by (Some first) is = is ∙ sym (lookup-append (is_same other) entries ((path, kind) ∷ []) ∙ ap (λ told. option_or told (lookup (is_same other) ((path, kind) ∷ []))) is)

-- one child more is told, and what is below it
pub told_next : (parent : List ℕ) (old before own_told now : Told) (done : List CoreNode) (node : CoreNode)
    → TellKinds before (old ++ kinds_under parent (trees_of done)) → TellKinds own_told (before ++ own parent node ∷ [])
    → TellKinds now (own_told ++ inner parent node) → TellKinds now (old ++ kinds_under parent (trees_of (done ++ node ∷ [])))
told_next parent old before own_told now done node front mine below path =
    below path
    ∙ both_tell own_told (before ++ own parent node ∷ []) (inner parent node) mine path
    ∙ ap (lookup (is_same path)) (append_assoc before (own parent node ∷ []) (inner parent node))
    ∙ both_tell before (old ++ kinds_under parent (trees_of done)) (own parent node ∷ inner parent node) front path
    ∙ ap (lookup (is_same path)) (append_assoc old (kinds_under parent (trees_of done)) (own parent node ∷ inner parent node)
    ∙ ap (λ more. old ++ more) (sym (more_kinds parent done (node ∷ []) ∙ ap (λ more. kinds_under parent (trees_of done) ++ more) (one_kind parent node))))

-- the root is told, and then what is below it
pub root_told : (root : CoreNode) (before own_told now : Told) (path copy : List ℕ) → length before ≡ 0
    → path ≡ (node_head root).name → copy ≡ path → TellKinds own_told (before ++ (copy, (node_head root).kind) ∷ [])
    → TellKinds now (own_told ++ kinds_under path (below_it root)) → TellKinds now (all_kinds (sites (tree_of_node root)))
root_told root before own_told now path copy none here same mine below other =
    below other
    ∙ both_tell own_told (before ++ (copy, kind) ∷ []) (kinds_under path (below_it root)) mine other
    ∙ ap (lookup (is_same other)) (ap (λ before. (before ++ (copy, kind) ∷ []) ++ kinds_under path (below_it root)) (nil_from_length before none)
    ∙ ap (λ copy. (copy, kind) ∷ kinds_under path (below_it root)) (same ∙ here)
    ∙ ap (λ path. (name, kind) ∷ kinds_under path (below_it root)) here
    ∙ sym (ap all_kinds (sites_of_one [] root) ∙ ap (λ all. (name, kind) ∷ all) (kinds_of_sites name [] (below_it root))))
  where
    name : List ℕ
    name = (node_head root).name

    kind : Kind
    kind = (node_head root).kind
