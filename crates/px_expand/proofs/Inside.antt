-- A block by itself: what its node has, and that it fits where its actions do.
use Rattle.std.proofs.Common.{◌≡◌, ℕ, suc, true, List, [], ◌∷◌, map, Option, Some, None, refl, sym, ap, ◌∙◌, subst}
use Rattle.std.specs.List.{flat_map}
use Rattle.std.specs.Option.{is_some}
use Rattle.std.proofs.lemmas.Bool.{and_from}
use Rattle.px_value.specs.Path.{below}
use Rattle.px_value.proofs.General.{neither}
use Rattle.px_syntax.specs.declared.expr.Identifier.{Identifier}
use Rattle.px_syntax.specs.declared.word.BlockForm.{BlockForm}
use Rattle.px_syntax.specs.declared.word.BlockForm.TheVariants as forms
use Rattle.px_syntax.specs.declared.word.TypeName.{TypeName}
use Rattle.px_syntax.specs.Block as text
use Rattle.px_syntax.specs.Block.{ItemData, Variables, Conditions, Priority, BlockTree, Braces, Actions, NoActions, More, Labelled, BodyTree, Inner, Assign, CallInto, Call, Update, If, While, For}
use Rattle.px_syntax.specs.BlockFaults.{action_labels, item_faults, actions_faults, body_faults, inside_block, visible_as, visible_in}
use Rattle.px_syntax.specs.Scope as seen
use Rattle.px_syntax.specs.Scope.{is_simple, own_action, is_command_block, children_of}
use Rattle.px_syntax.specs.ValueType.{named_type}
use Rattle.px_core.specs.declared.node.Kind.TheVariants as kinds
use Rattle.px_core.specs.Fit.{declares_in, is_there, is_command, is_update}
use Rattle.px_core.specs.Plan as plan
use Rattle.px_core.specs.Plan.{VariableData, Site, Tree, NoNode, path_under, sites_under}
use Rattle.px_forms.specs.Adding.{Added}
use Rattle.px_forms.specs.Conditions.{Given}
use Rattle.px_expand.specs.Core.{name_of, follows, formed, shaped, actions_seen, children_seen, block_scope, block_core, actions_core, body_core}
use Rattle.px_scope.specs.Items.{priority_of, variable_of, variables_in, variables_of}
use Rattle.px_expand.specs.Items.{given_by}
use Rattle.px_scope.specs.Actions.{kind_of, body_of}
use Rattle.px_expand.specs.Kinds.{Shape, Rest, OneAction, Children, shape_of}
use Rattle.px_forms.specs.Nodes.{Place, child, alone, leaf}
use Rattle.px_expand.specs.Children.{paths_of}
use Rattle.px_expand.specs.Labels.{are_identifiers}
use Rattle.px_scope.specs.Scope.{Scope, table, each_once}
use Rattle.px_expand.proofs.Declaring.{names_of_variables}
use Rattle.px_expand.proofs.Fitting.{at, LabelIs, AllFit, node_is, node_fits, nothing_said, entered_seen}
use Rattle.px_expand.proofs.Frames.{NamedHeads, head_within, actions_heads, block_command}
use Rattle.px_expand.proofs.Mentions.{items_there, assign_there, call_into_there, call_alone_there, update_there}
use Rattle.px_expand.proofs.Seen.{SameShown, shown-append, IsSeen}
use Rattle.px_expand.proofs.Sound.{View, view, block_named, body_named}
use Rattle.px_expand.proofs.Speaking.{are_nodes, finished_speaks, sequence_speaks, try_speaks, GivenSpeaks, AddedSpeaks}
use Rattle.px_expand.proofs.Tables.{names_in, children_named_so}
use Rattle.px_expand.proofs.Within.{IsWithin, own_within, named_within, children_within, others_within}

-- ---- the variables of items

variables_shown : (of_type : TypeName) (variables : List text.VariableData)
    → SameShown (map (visible_as (named_type of_type)) variables) (map (variable_of of_type) variables)
variables_shown of_type [] = tt
variables_shown of_type (first ∷ rest) = ((refl, refl), variables_shown of_type rest)

item_shown : (item : ItemData) → SameShown (visible_in item) (variables_in item)
item_shown (Variables of_type variables) = variables_shown of_type variables
item_shown (Conditions condition token test) = tt
item_shown (Priority token priority) = tt

items_shown : (items : List ItemData) → SameShown (flat_map visible_in items) (variables_of items)
items_shown [] = tt
items_shown (item ∷ items) =
    shown-append (visible_in item) (flat_map visible_in items) (variables_in item) (variables_of items) (item_shown item)
    (items_shown items)

shaped_variables : (place : Place) (shape : Shape) (scope : Scope) (form : BlockForm) (items : List ItemData)
    (paths : List (List ℕ)) (children : Tree)
    → (shaped place shape scope form items paths children).head.variables ≡ variables_of items
shaped_variables place Rest scope form items paths children = refl
shaped_variables place (OneAction body) scope form items paths children = refl
shaped_variables place Children scope form items paths children = refl

module _ (whole : List Site) where
  -- ---- an assignment, a command or an update

  pub leaf_fits : (above : List (List ℕ)) (name : List ℕ) (added : Added) (given : Given) (priority : ℕ)
      (variables : List VariableData) (entered : seen.Scope) (inner : Scope) (body : BodyTree)
      → is_simple body ≡ true → IsSeen whole (path_under above name ∷ above) entered inner
      → AddedSpeaks (is_there whole) added → GivenSpeaks (is_there whole) given
      → body_faults entered true None body ≡ []
      → IsWithin (sites_under above
      (alone (leaf (at above name added) (kind_of body) given priority variables (body_of inner body)))) whole
      → AllFit whole (sites_under above
      (alone (leaf (at above name added) (kind_of body) given priority variables (body_of inner body))))
  leaf_fits above name added given priority variables entered inner (Inner block) simple seen more own none within = cc
  leaf_fits above name added given priority variables entered inner (Assign target value) simple seen more own none within =
      let there = assign_there whole (path_under above name ∷ above) entered inner seen target value none in
      node_fits whole above name added kinds.Assignment [] given priority variables (body_of inner (Assign target value)) NoNode
      more own refl there.said there.owns refl
  leaf_fits above name added given priority variables entered inner (CallInto target call) simple seen more own none within =
      let there = call_into_there whole (path_under above name ∷ above) entered inner seen target call none in
      let node = leaf (at above name added) kinds.Command given priority variables (body_of inner (CallInto target call)) in
      node_fits whole above name added kinds.Command [] given priority variables (body_of inner (CallInto target call)) NoNode
      more own
      (and_from _ _
      (and_from _ _ (own_within above node.head NoNode NoNode whole within (λ site. is_command site.head.kind) refl) refl) refl)
      there.said there.owns refl
  leaf_fits above name added given priority variables entered inner (Call call) simple seen more own none within =
      let there = call_alone_there whole (path_under above name ∷ above) entered inner seen call none in
      let node = leaf (at above name added) kinds.Command given priority variables (body_of inner (Call call)) in
      node_fits whole above name added kinds.Command [] given priority variables (body_of inner (Call call)) NoNode
      more own
      (and_from _ _
      (and_from _ _ (own_within above node.head NoNode NoNode whole within (λ site. is_command site.head.kind) refl) refl) refl)
      there.said there.owns refl
  leaf_fits above name added given priority variables entered inner (Update token pairs) simple seen more own none within =
      let there = update_there whole (path_under above name ∷ above) entered inner seen token pairs none in
      let node = leaf (at above name added) kinds.Update given priority variables (body_of inner (Update token pairs)) in
      node_fits whole above name added kinds.Update [] given priority variables (body_of inner (Update token pairs)) NoNode
      more own
      (and_from _ _
      (and_from _ _ (own_within above node.head NoNode NoNode whole within (λ site. is_update site.head.kind) refl) refl) refl)
      there.said there.owns refl
  leaf_fits above name added given priority variables entered inner (If guarded others otherwise) simple seen more own none within = cc
  leaf_fits above name added given priority variables entered inner (While guarded) simple seen more own none within = cc
  leaf_fits above name added given priority variables entered inner (For variable first test step branch) simple seen more own none within = cc

  -- ---- blocks of each shape

  formed_speaks : (form : BlockForm) (paths : List (List ℕ)) (given : Given) → are_nodes (is_there whole) paths ≡ true
      → GivenSpeaks (is_there whole) given → GivenSpeaks (is_there whole) (formed form paths given)
  formed_speaks forms.Plain paths given are own = sequence_speaks (is_there whole) paths given are own
  formed_speaks forms.NodeList paths given are own = own
  formed_speaks forms.Sequence paths given are own = sequence_speaks (is_there whole) paths given are own
  formed_speaks forms.UncheckedSequence paths given are own = own
  formed_speaks forms.Concurrence paths given are own = own
  formed_speaks forms.Try paths given are own = try_speaks (is_there whole) paths given are own

  pub shaped_fits : (above : List (List ℕ)) (name : List ℕ) (added : Added) (shape : Shape) (action : Option BodyTree)
      (entered : seen.Scope) (inner : Scope) (form : BlockForm) (items : List ItemData) (paths : List (List ℕ)) (children : Tree)
      (all : Actions) → View shape action all → IsSeen whole (path_under above name ∷ above) entered inner
      → AddedSpeaks (is_there whole) added → flat_map (item_faults entered) items ≡ []
      → actions_faults entered (is_some action) all ≡ []
      → IsWithin (sites_under above (alone (shaped (at above name added) shape inner form items paths children))) whole
      → (IsWithin (sites_under (path_under above name ∷ above) children) whole → action ≡ None
      → (are_nodes (is_there whole) paths ≡ true) × AllFit whole (sites_under (path_under above name ∷ above) children))
      → AllFit whole (sites_under above (alone (shaped (at above name added) shape inner form items paths children)))
  shaped_fits above name added Rest action entered inner form items paths children all is seen more none faults within below =
      node_fits whole above name added kinds.Empty [] (given_by inner items) (priority_of items) (variables_of items)
      plan.Nothing NoNode more (items_there whole (path_under above name ∷ above) entered inner seen items none) refl
      (nothing_said whole) refl refl
  shaped_fits above name added (OneAction body) action entered inner form items paths children all is seen more none faults within below =
      leaf_fits above name added (given_by inner items) (priority_of items) (variables_of items) entered inner body is.2 seen more
      (items_there whole (path_under above name ∷ above) entered inner seen items none)
      (neither (body_faults entered true None body) []
      (subst (λ all. actions_faults entered true all ≡ []) is.1
      (subst (λ action. actions_faults entered (is_some action) all ≡ []) is.0 faults))).0
      within
  shaped_fits above name added Children action entered inner form items paths children all is seen more none faults within below =
      let node = shaped (at above name added) Children inner form items paths children in
      let inside = below (children_within above node.head children NoNode whole within) is in
      node_fits whole above name added kinds.List paths (formed form paths (given_by inner items)) (priority_of items)
      (variables_of items) plan.Nothing children more
      (formed_speaks form paths (given_by inner items) inside.0
      (items_there whole (path_under above name ∷ above) entered inner seen items none))
      (finished_speaks (is_there whole) paths inside.0) (nothing_said whole) refl inside.1

  shaped_heads : (above : List (List ℕ)) (name : List ℕ) (added : Added) (shape : Shape) (action : Option BodyTree)
      (scope : Scope) (form : BlockForm) (items : List ItemData) (paths : List (List ℕ)) (all : Actions)
      → View shape action all → are_identifiers (action_labels all) ≡ true
      → IsWithin (sites_under above (alone (shaped (at above name added) shape scope form items paths
      (actions_core scope (path_under above name) form None 1 all)))) whole
      → NamedHeads whole (below (path_under above name)) (children_of all) (names_in shape all)
  shaped_heads above name added Rest action scope form items paths all is labels within =
      subst (λ all. NamedHeads whole (below (path_under above name)) (children_of all) []) (sym is.1) tt
  shaped_heads above name added (OneAction body) action scope form items paths all is labels within =
      subst (λ all. NamedHeads whole (below (path_under above name)) (children_of all) []) (sym is.1) (refl, tt)
  shaped_heads above name added Children action scope form items paths all is labels within =
      let path = path_under above name in
      let children = actions_core scope path form None 1 all in
      let node = shaped (at above name added) Children scope form items paths children in
      actions_heads whole above scope path form None 1 all
      (children_within above node.head children NoNode whole within) labels

  -- the scope inside a block
  pub block_seen : (above : List (List ℕ)) (name : List ℕ) (added : Added) (outer : seen.Scope) (label : Option Identifier)
      (scope : Scope) (form : BlockForm) (items : List ItemData) (all : Actions)
      → IsSeen whole above outer scope → LabelIs label name → are_identifiers (action_labels all) ≡ true
      → IsWithin (sites_under above (alone (block_core scope (at above name added) (Braces form items all)))) whole
      → IsSeen whole (path_under above name ∷ above) (inside_block outer label (Braces form items all))
      (block_scope scope (at above name added) (Braces form items all))
  block_seen above name added outer label scope form items all seen is labels within =
      let block : BlockTree = Braces form items all in
      let place : Place = at above name added in
      let path = path_under above name in
      let node = block_core scope place block in
      let inner = block_scope scope place (Braces form items all) in
      let paths = paths_of (children_seen (shape_of block) path all) in
      let children = actions_core inner path form None 1 all in
      let named = block_named scope place block in
      subst
      (λ children. IsSeen whole (path ∷ above) (inside_block outer label block)
      (record { name = name; path = path; children = table children; variables = each_once (names_of_variables (variables_of items)) }
      ∷ scope))
      (sym (children_named_so (shape_of block) path all))
      (entered_seen whole above name path outer label (is_command_block block) scope (children_of all) (names_in (shape_of block) all)
      (flat_map visible_in items) (variables_of items) seen is
      (head_within whole above node NoNode name label (is_command_block block) within named (block_command scope place block))
      (shaped_heads above name added (shape_of block) (own_action block) inner form items paths all (view form items all)
      labels within)
      (items_shown items)
      (λ text as_array declares.
      named_within above node.head node.children NoNode whole within name named
      (λ site. declares_in as_array text site.head.variables)
      (ap (declares_in as_array text) (shaped_variables place (shape_of block) inner form items paths children) ∙ declares)))

  -- ---- the paths of actions

  pub actions_there : (above : List (List ℕ)) (scope : Scope) (path : List ℕ) (form : BlockForm) (behind : Option (List ℕ))
      (place : ℕ) (all : Actions)
      → IsWithin (sites_under (path ∷ above) (actions_core scope path form behind place all)) whole
      → are_nodes (is_there whole) (paths_of (actions_seen path place all)) ≡ true
  actions_there above scope path form behind place NoActions within = refl
  actions_there above scope path form behind place (More (Labelled label body) rest) within =
      let name = name_of place (Labelled label body) in
      let here : Place = child path name (follows form behind) in
      let node = body_core scope here body in
      and_from _ _
      (node_is whole (below path name)
      (named_within (path ∷ above) node.head node.children _ whole within name (body_named scope here body) (λ site. true) refl))
      (actions_there above scope path form (Some (below path name)) (suc place) rest
      (others_within (path ∷ above) node.head node.children _ whole within))

  -- a block that is one node has none
  pub children_there : (shape : Shape) (path : List ℕ) (all : Actions)
      → are_nodes (is_there whole) (paths_of (actions_seen path 1 all)) ≡ true
      → are_nodes (is_there whole) (paths_of (children_seen shape path all)) ≡ true
  children_there Rest path all are = refl
  children_there (OneAction body) path all are = refl
  children_there Children path all are = are
