-- ALL NODES OF A CORE PLAN FIT: what they speak of is there, and the owners of what they write stand above.
use Rattle.std.proofs.Common.{◌≡◌, ℕ, suc, Bool, true, false, List, [], ◌∷◌, ◌++◌, map, Option, Some, None, refl, sym, ap, subst}
use Rattle.std.specs.Option.{option_to_list, is_some}
use Rattle.std.proofs.lemmas.Bool.{and_from, or_left, or_right, false≢true}
use Rattle.std.proofs.lemmas.List.{append-nil}
use Rattle.px_value.specs.Name.{is_identifier}
use Rattle.px_value.specs.Path.{below}
use Rattle.px_value.proofs.General.{neither}
use Rattle.px_syntax.specs.declared.expr.Identifier.{Identifier}
use Rattle.px_syntax.specs.declared.value_type.ValueType.TheVariants.{Boolean, Integer}
use Rattle.px_syntax.specs.declared.word.BlockForm.{BlockForm}
use Rattle.px_syntax.specs.Block.{BlockTree, Braces, Actions, NoActions, More, Labelled, BranchTree, Branch, GuardedTree, Guarded, ElseIfs, NoElseIfs, ElseIf, ElseTree, NoElse, Else, BodyTree, Inner, Assign, CallInto, Call, Update, If, While, For}
use Rattle.px_syntax.specs.BlockFaults.{redeclared, items_faults, action_labels, actions_faults, block_faults, body_faults, guarded_faults, else_if_faults, else_faults, branch_faults, if_label_faults, inside_block, inside_list, inside_if, inside_last, inside_for, if_children, guarded_child, else_child}
use Rattle.px_syntax.specs.ExprFaults.{faults_as}
use Rattle.px_syntax.specs.Plan.{PlanTree}
use Rattle.px_syntax.specs.PlanFaults.{outermost}
use Rattle.px_syntax.specs.Scope as seen
use Rattle.px_syntax.specs.Scope.{Head, own_action, head_of, branch_child}
use Rattle.px_core.specs.declared.expr.BinaryOp.TheVariants.{And}
use Rattle.px_core.specs.declared.node.Kind.TheVariants as kinds
use Rattle.px_core.specs.Expr.{Binary}
use Rattle.px_core.specs.Fit.{declares_in, has_site, is_there}
use Rattle.px_core.specs.Plan.{Site, Tree, NoNode, Nothing, path_under, sites_under, sites, is_same}
use Rattle.px_core.proofs.Paths.{same-self}
use Rattle.px_forms.specs.Adding.{Added, nothing}
use Rattle.px_forms.specs.Conditions.{Given, none_given}
use Rattle.px_expand.specs.Core.{Otherwise, branch_name, follows, children_seen, block_scope, if_seen, loop_seen, if_scope, while_scope, for_scope, block_core, actions_core, body_core, if_core, chain_core, else_core, branch_core, core}
use Rattle.px_forms.specs.Forms.{done, test_of, not_found, set, step as forms_step, counter, conditional, repeated, counted, where_found, where_not_found, loop_path}
use Rattle.px_core.specs.Defaults.{default_priority}
use Rattle.px_expand.specs.Kinds.{shape_of}
use Rattle.px_expand.specs.Labels.{are_identifiers, block_labels, actions_labels, body_labels, guarded_labels, else_if_labels, else_labels, branch_labels, has_identifiers}
use Rattle.px_forms.specs.Names.{root_name, action_name, test_name, then_name, body_name, else_name, step_name, loop_name}
use Rattle.px_expand.specs.Names.{named}
use Rattle.px_forms.specs.Nodes.{Place, child, alone, before}
use Rattle.px_expand.specs.Children.{inside, paths_of, seen as seen_at}
use Rattle.px_scope.specs.Resolving.{resolved}
use Rattle.px_scope.specs.Scope.{Scope}
use Rattle.px_expand.proofs.Inside.{leaf_fits, shaped_fits, block_seen, actions_there, children_there}
use Rattle.px_expand.proofs.Declaring.{each_item_none}
use Rattle.px_expand.proofs.Fitting.{at, LabelIs, label_is, AllFit, node_is, node_fits, nothing_said, nothing_added, assignment_fits, not_found_speaks, before_fits, KeepsTest, where_found_speaks, where_not_found_speaks, tested_keeps, tested_fits, entered_seen, MayBe, follows_speaks}
use Rattle.px_expand.proofs.Frames.{LabelNamed, NamedHeads, head_within, block_command}
use Rattle.px_expand.proofs.Mentions.{scalar_is, judged_there}
use Rattle.px_expand.proofs.Seen.{HasHead, HasVariable, IsSeen, seen_further}
use Rattle.px_expand.proofs.Sound.{view, both_labels, own_labels, block_named, body_named, branch_named, if_named}
use Rattle.px_expand.proofs.Speaking.{both_speak, done_speaks, finished_speaks, are_nodes, none_speaks, GivenSpeaks, AddedSpeaks}
use Rattle.px_expand.proofs.Within.{IsWithin, own_within, named_within, children_within, others_within, alone_within, within_itself}

none_declares : (whole : List Site) (path text : List ℕ) (as_array : Bool) → declares_in as_array text [] ≡ true
    → HasVariable whole path text as_array
none_declares whole path text true declares = absurd (false≢true declares)
none_declares whole path text false declares = absurd (false≢true declares)

-- what the text has of what stands behind the branch of an `if`
abbrev chain_heads : ElseIfs → List Head → List Head
chain_heads NoElseIfs last = last
chain_heads (ElseIf next others) last = []

heads_of_if : (guarded : GuardedTree) (others : ElseIfs) (last : List Head)
    → if_children guarded others last ≡ guarded_child guarded ++ chain_heads others last
heads_of_if guarded NoElseIfs last = refl
heads_of_if guarded (ElseIf next others) last = sym (append-nil (guarded_child guarded))

module _ (whole : List Site) where
  -- a List that is no Command
  list_has : (path : List ℕ) (label : Option Identifier) → has_site (λ site. true) path whole ≡ true
      → HasHead whole path (head_of label false)
  list_has path label is = record { node = is; command = λ call. absurd (false≢true call) }

  -- ---- branches as children

  branch_named_so : (path unlabelled : List ℕ) (above : List (List ℕ)) (scope : Scope) (added : Added)
      (label : Option Identifier) (block : BlockTree) (rest : Tree) → is_identifier unlabelled ≡ false
      → are_identifiers (option_to_list label) ≡ true
      → IsWithin (sites_under (path ∷ above)
      (before (block_core scope (child path (named label unlabelled) added) block) rest)) whole
      → LabelNamed whole (below path) (head_of label (seen.is_command_block block))
      (head_of label (seen.is_command_block block)).label (named label unlabelled)
  branch_named_so path unlabelled above scope added None block rest none labels within = none
  branch_named_so path unlabelled above scope added (Some label) block rest none labels within =
      let here : Place = child path label.name added in (
        refl,
        (label_is (Some label) unlabelled labels none).1,
        head_within whole (path ∷ above) (block_core scope here block) rest label.name (Some label)
            (seen.is_command_block block) within (block_named scope here block) (block_command scope here block),
      )

  branch_heads : (path unlabelled : List ℕ) (above : List (List ℕ)) (scope : Scope) (added : Added) (branch : BranchTree)
      (rest : Tree) (heads : List Head) (names : List (List ℕ)) → is_identifier unlabelled ≡ false
      → are_identifiers (branch_labels branch) ≡ true
      → IsWithin (sites_under (path ∷ above)
      (before (branch_core scope (child path (branch_name unlabelled branch) added) branch) rest)) whole
      → NamedHeads whole (below path) heads names
      → NamedHeads whole (below path) (branch_child branch ++ heads) (branch_name unlabelled branch ∷ names)
  branch_heads path unlabelled above scope added (Branch label block) rest heads names none labels within more = (
    branch_named_so path unlabelled above scope added label block rest none
        (both_labels (option_to_list label) (block_labels block) labels).0 within,
    more,
  )

  branch_there : (path unlabelled : List ℕ) (above : List (List ℕ)) (scope : Scope) (added : Added) (branch : BranchTree)
      (rest : Tree)
      → IsWithin (sites_under (path ∷ above)
      (before (branch_core scope (child path (branch_name unlabelled branch) added) branch) rest)) whole
      → has_site (λ site. true) (below path (branch_name unlabelled branch)) whole ≡ true
  branch_there path unlabelled above scope added branch rest within =
      let here : Place = child path (branch_name unlabelled branch) added in
      let node = branch_core scope here branch in
      named_within (path ∷ above) node.head node.children rest whole within (branch_name unlabelled branch)
      (branch_named scope here branch) (λ site. true) refl

  -- ---- what stands after `else`

  record ElseChildren (path : List ℕ) (heads : List Head) (name : Option (List ℕ)) : Type 0 where
    pub named : NamedHeads whole (below path) heads (option_to_list name)
    pub there : are_nodes (is_there whole) (paths_of (map (seen_at path) (option_to_list name))) ≡ true

  record ElseFits (otherwise : Otherwise) (entered : seen.Scope) (heads : List Head) : Type 0 where
    pub children : (above : List (List ℕ)) (inner : Scope) (path : List ℕ)
        → IsWithin (sites_under (path ∷ above) (otherwise.nodes inner path)) whole → ElseChildren path heads otherwise.name
    pub fits : (above : List (List ℕ)) (inner : Scope) (path : List ℕ) → IsSeen whole (path ∷ above) entered inner
        → KeepsTest whole path → IsWithin (sites_under (path ∷ above) (otherwise.nodes inner path)) whole
        → AllFit whole (sites_under (path ∷ above) (otherwise.nodes inner path))

  repeat_speaks : (path : List ℕ) → KeepsTest whole path
      → GivenSpeaks (is_there whole) (record none_given { repeat = Some (test_of path) })
  repeat_speaks path keeps = record {
    start = tt;
    end = tt;
    exit = tt;
    skip = tt;
    repeat = and_from _ _ (scalar_is whole path test_name keeps.test) refl;
    pre = tt;
    post = tt;
    invariant = tt;
  }

  -- inside an action that is a node of its own
  simple_seen : (above : List (List ℕ)) (name : List ℕ) (added : Added) (outer : seen.Scope) (label : Option Identifier)
      (as_command : Bool) (scope : Scope) → IsSeen whole above outer scope → LabelIs label name
      → HasHead whole (path_under above name) (head_of label as_command)
      → IsSeen whole (path_under above name ∷ above)
      (seen.inside outer (record { head = head_of label as_command; children = [] }) []) (inside scope (at above name added) [] [])
  simple_seen above name added outer label as_command scope all is has =
      entered_seen whole above name (path_under above name) outer label as_command scope [] [] [] [] all is has tt tt
      (none_declares whole (path_under above name))

  -- what each of the lemmas below asks of a place: what is seen there, its name, and what is added to its conditions
  record IsPlace (above : List (List ℕ)) (name : List ℕ) (added : Added) (outer : seen.Scope) (label : Option Identifier)
      (scope : Scope) : Type 0 where
    pub seen : IsSeen whole above outer scope
    pub named : LabelIs label name
    pub more : AddedSpeaks (is_there whole) added

  mutual
    block_fits : (above : List (List ℕ)) (name : List ℕ) (added : Added) (outer : seen.Scope) (label : Option Identifier)
        (scope : Scope) (block : BlockTree) → IsPlace above name added outer label scope
        → block_faults outer label block ≡ [] → are_identifiers (block_labels block) ≡ true
        → IsWithin (sites_under above (alone (block_core scope (at above name added) block))) whole
        → AllFit whole (sites_under above (alone (block_core scope (at above name added) block)))
    block_fits above name added outer label scope (Braces form items actions) place none labels within =
        let block : BlockTree = Braces form items actions in
        let entered = inside_block outer label block in
        let inner : Scope = block_scope scope (at above name added) (Braces form items actions) in
        let path = path_under above name in
        let parts = neither (items_faults entered items ++ redeclared (action_labels actions))
        (actions_faults entered (is_some (own_action block)) actions) none in
        let front = neither (items_faults entered items) (redeclared (action_labels actions)) parts.0 in
        let all = block_seen whole above name added outer label scope form items actions place.seen place.named
        (own_labels actions labels) within in
        shaped_fits whole above name added (shape_of block) (own_action block) entered inner form items
        (paths_of (children_seen (shape_of block) path actions)) (actions_core inner path form None 1 actions) actions
        (view form items actions)
        all place.more (each_item_none entered items front.0) parts.1 within
        (λ within alone. (
          children_there whole (shape_of block) path actions (actions_there whole above inner path form None 1 actions within),
          actions_fits above path entered inner form None 1 actions all tt
              (subst (λ action. actions_faults entered (is_some action) actions ≡ []) alone parts.1) labels within,
        ))

    actions_fits : (above : List (List ℕ)) (path : List ℕ) (entered : seen.Scope) (inner : Scope) (form : BlockForm)
        (behind : Option (List ℕ)) (place : ℕ) (actions : Actions) → IsSeen whole (path ∷ above) entered inner
        → MayBe whole behind → actions_faults entered false actions ≡ [] → are_identifiers (actions_labels actions) ≡ true
        → IsWithin (sites_under (path ∷ above) (actions_core inner path form behind place actions)) whole
        → AllFit whole (sites_under (path ∷ above) (actions_core inner path form behind place actions))
    actions_fits above path entered inner form behind place NoActions all is none labels within = refl
    actions_fits above path entered inner form behind place (More (Labelled label body) rest) all is none labels within =
        let name = named label (action_name place) in
        let here : Place = child path name (follows form behind) in
        let node = body_core inner here body in
        let others = actions_core inner path form (Some (below path name)) (suc place) rest in
        let faults = neither (body_faults entered false label body) (actions_faults entered false rest) none in
        let parts = both_labels (option_to_list label ++ body_labels body) (actions_labels rest) labels in
        let own = both_labels (option_to_list label) (body_labels body) parts.0 in
        before_fits whole (path ∷ above) node others
        (body_fits (path ∷ above) name (follows form behind) entered label inner body
        (record {
          seen = all;
          named = label_is label (action_name place) own.0 refl;
          more = follows_speaks whole form behind is;
        })
        faults.0 own.1 (alone_within (path ∷ above) node.head node.children others whole within))
        (actions_fits above path entered inner form (Some (below path name)) (suc place) rest all
        (named_within (path ∷ above) node.head node.children others whole within name (body_named inner here body)
        (λ site. true) refl)
        faults.1 parts.1 (others_within (path ∷ above) node.head node.children others whole within))

    body_fits : (above : List (List ℕ)) (name : List ℕ) (added : Added) (outer : seen.Scope) (label : Option Identifier)
        (scope : Scope) (body : BodyTree) → IsPlace above name added outer label scope
        → body_faults outer false label body ≡ [] → are_identifiers (body_labels body) ≡ true
        → IsWithin (sites_under above (alone (body_core scope (at above name added) body))) whole
        → AllFit whole (sites_under above (alone (body_core scope (at above name added) body)))
    body_fits above name added outer label scope (Inner block) place none labels within =
        block_fits above name added outer label scope block place none labels within
    body_fits above name added outer label scope (Assign target value) place none labels within =
        let node = body_core scope (at above name added) (Assign target value) in
        let own = own_within above node.head NoNode NoNode whole within in
        leaf_fits whole above name added none_given default_priority [] _ _ (Assign target value) refl
        (simple_seen above name added outer label false scope place.seen place.named
        (list_has (path_under above name) label (own (λ site. true) refl)))
        place.more (none_speaks (is_there whole)) none within
    body_fits above name added outer label scope (CallInto target call) place none labels within =
        let node = body_core scope (at above name added) (CallInto target call) in
        leaf_fits whole above name added none_given default_priority [] _ _ (CallInto target call) refl
        (simple_seen above name added outer label true scope place.seen place.named
        (head_within whole above node NoNode name label true within refl (λ is. refl)))
        place.more (none_speaks (is_there whole)) none within
    body_fits above name added outer label scope (Call call) place none labels within =
        let node = body_core scope (at above name added) (Call call) in
        leaf_fits whole above name added none_given default_priority [] _ _ (Call call) refl
        (simple_seen above name added outer label true scope place.seen place.named
        (head_within whole above node NoNode name label true within refl (λ is. refl)))
        place.more (none_speaks (is_there whole)) none within
    body_fits above name added outer label scope (Update token pairs) place none labels within =
        let node = body_core scope (at above name added) (Update token pairs) in
        let own = own_within above node.head NoNode NoNode whole within in
        leaf_fits whole above name added none_given default_priority [] _ _ (Update token pairs) refl
        (simple_seen above name added outer label false scope place.seen place.named
        (list_has (path_under above name) label (own (λ site. true) refl)))
        place.more (none_speaks (is_there whole)) none within
    body_fits above name added outer label scope (If guarded others otherwise) place none labels within =
        let last = else_child otherwise in
        let entered = inside_if outer label guarded others last in
        let third = neither (if_label_faults guarded others otherwise ++ guarded_faults entered guarded
        ++ else_if_faults entered others last) (else_faults (inside_last entered others last) otherwise) none in
        let second = neither (if_label_faults guarded others otherwise ++ guarded_faults entered guarded)
        (else_if_faults entered others last) third.0 in
        let first = neither (if_label_faults guarded others otherwise) (guarded_faults entered guarded) second.0 in
        let behind = both_labels (guarded_labels guarded ++ else_if_labels others) (else_labels otherwise) labels in
        let front = both_labels (guarded_labels guarded) (else_if_labels others) behind.0 in
        if_fits above name added outer label scope (chain_core (else_core otherwise) others) guarded entered
        (chain_heads others last) (ap (λ heads. inside_list outer label heads []) (heads_of_if guarded others last)) place
        first.1 front.0
        (chain_fits entered others otherwise second.1 front.1
        (else_fits (inside_last entered others last) otherwise third.1 behind.1))
        within
    body_fits above name added outer label scope (While (Guarded test branch)) place none labels within =
        let path = path_under above name in
        let inner : Scope = while_scope scope (at above name added) branch in
        let entered = inside_list outer label (branch_child branch) [] in
        let faults = neither (faults_as (Boolean ∷ []) entered test) (branch_faults entered branch) none in
        let given : Given = record none_given { repeat = Some (test_of path) } in
        let term = resolved inner test in
        let paths = paths_of (loop_seen path branch) in
        let here : Place = child path (branch_name body_name branch) (where_found path) in
        let part = branch_core inner here branch in
        let node = repeated (at above name added) term paths (alone part) in
        let first = set path term in
        let in_it = others_within (path ∷ above) first.head NoNode (alone part) whole
        (children_within above node.head node.children NoNode whole within) in
        let keeps = tested_keeps whole above name added given term paths (alone part) within in
        let own = own_within above node.head node.children NoNode whole within (λ site. true) refl in
        let heads = branch_heads path body_name above inner (where_found path) branch NoNode [] [] refl labels in_it tt in
        let all : IsSeen whole (path ∷ above) entered inner =
        entered_seen whole above name path outer label false scope (branch_child branch) (branch_name body_name branch ∷ []) [] []
        place.seen place.named (list_has path label own)
        (subst (λ heads. NamedHeads whole (below path) heads (branch_name body_name branch ∷ [])) (append-nil (branch_child branch)) heads)
        tt (none_declares whole path) in
        tested_fits whole above name added given term paths (alone part) within place.more (repeat_speaks path keeps)
        (judged_there whole (path ∷ above) entered inner all (Boolean ∷ []) test faults.0)
        (and_from _ _
        (node_is whole (below path (branch_name body_name branch))
        (branch_there path body_name above inner (where_found path) branch NoNode in_it)) refl)
        (branch_fits (path ∷ above) body_name (where_found path) entered inner branch refl all
        (where_found_speaks whole path keeps) faults.1 labels in_it)
    body_fits above name added outer label scope (For variable first test step branch) place none labels within =
        let path = path_under above name in
        let loop : List ℕ = loop_path path in
        let below_it : List (List ℕ) = path ∷ above in
        let inner : Scope = for_scope scope (at above name added) variable.name branch in
        let entered = inside_for outer label variable branch in
        let faults = neither (faults_as (Boolean ∷ []) entered test ++ faults_as (Integer ∷ []) entered step)
        (branch_faults entered branch) none in
        let tests = neither (faults_as (Boolean ∷ []) entered test) (faults_as (Integer ∷ []) entered step) faults.0 in
        let given : Given = record none_given { repeat = Some (test_of loop) } in
        let term = resolved inner test in
        let next = resolved inner step in
        let body = below loop (branch_name body_name branch) in
        let here : Place = child loop (branch_name body_name branch) (where_found loop) in
        let part = branch_core inner here branch in
        let last = forms_step path body variable.name next in
        let paths = body ∷ below loop step_name ∷ [] in
        let loop_node = repeated (child path loop_name nothing) term paths (before part (alone last)) in
        let node = counted (at above name added) variable.name first term next body part in
        let set_first = set loop term in
        let in_loop = children_within above node.head node.children NoNode whole within in
        let in_it = others_within (loop ∷ below_it) set_first.head NoNode (before part (alone last)) whole
        (children_within below_it loop_node.head loop_node.children NoNode whole in_loop) in
        let in_last = others_within (loop ∷ below_it) part.head part.children (alone last) whole in_it in
        let keeps = tested_keeps whole below_it loop_name nothing given term paths (before part (alone last)) in_loop in
        let own = own_within above node.head node.children NoNode whole within in
        let heads = branch_heads loop body_name below_it inner (where_found loop) branch (alone last) [] [] refl labels in_it tt in
        let all : IsSeen whole below_it entered inner =
        entered_seen whole above name loop outer label false scope (branch_child branch) (branch_name body_name branch ∷ [])
        (record { name = variable.name; of_type = Integer; is_array = false } ∷ []) (counter variable.name first ∷ [])
        place.seen place.named (list_has path label (own (λ site. true) refl))
        (subst (λ heads. NamedHeads whole (below loop) heads (branch_name body_name branch ∷ [])) (append-nil (branch_child branch)) heads)
        ((refl, refl), tt)
        (λ text as_array declares. own (λ site. declares_in as_array text site.head.variables) declares) in
        let body_is = branch_there loop body_name below_it inner (where_found loop) branch (alone last) in_it in
        let counts : HasVariable whole path variable.name false =
        own (λ site. declares_in false variable.name site.head.variables)
        (or_left _ _ (and_from _ _ (same-self variable.name) refl)) in
        node_fits whole above name added kinds.List (loop ∷ []) none_given default_priority (counter variable.name first ∷ [])
        Nothing (alone loop_node) place.more (none_speaks (is_there whole))
        (finished_speaks (is_there whole) (loop ∷ [])
        (and_from _ _
        (node_is whole loop (own_within below_it loop_node.head loop_node.children NoNode whole in_loop (λ site. true) refl)) refl))
        (nothing_said whole) refl
        (tested_fits whole below_it loop_name nothing given term paths (before part (alone last)) in_loop (nothing_added whole)
        (repeat_speaks loop keeps) (judged_there whole below_it entered inner all (Boolean ∷ []) test tests.0)
        (and_from _ _ (node_is whole body body_is)
        (and_from _ _
        (node_is whole (below loop step_name)
        (own_within (loop ∷ below_it) last.head NoNode NoNode whole in_last (λ site. true) refl)) refl))
        (before_fits whole (loop ∷ below_it) part (alone last)
        (branch_fits (loop ∷ below_it) body_name (where_found loop) entered inner branch refl
        (seen_further whole below_it loop entered inner all) (where_found_speaks whole loop keeps) faults.1 labels
        (alone_within (loop ∷ below_it) part.head part.children (alone last) whole in_it))
        (assignment_fits whole below_it loop step_name
        (record none_given {
          start = Some (Binary And (done body) (test_of loop));
          skip = Some (not_found loop);
        })
        path variable.name next
        (record {
          start =
              both_speak (is_there whole) And (done body) (test_of loop)
              (done_speaks (is_there whole) body (node_is whole body body_is))
              (and_from _ _ (scalar_is whole loop test_name keeps.test) refl);
          end = tt;
          exit = tt;
          skip = not_found_speaks whole loop keeps;
          repeat = tt;
          pre = tt;
          post = tt;
          invariant = tt;
        })
        counts (judged_there whole below_it entered inner all (Integer ∷ []) step tests.1)
        (or_right (is_same path (below loop step_name)) _ (or_right (is_same path loop) _ (or_left _ _ (same-self path)))))))

    chain_fits : (entered : seen.Scope) (others : ElseIfs) (otherwise : ElseTree)
        → else_if_faults entered others (else_child otherwise) ≡ [] → are_identifiers (else_if_labels others) ≡ true
        → ElseFits (else_core otherwise) (inside_last entered others (else_child otherwise)) (else_child otherwise)
        → ElseFits (chain_core (else_core otherwise) others) entered (chain_heads others (else_child otherwise))
    chain_fits entered NoElseIfs otherwise none labels last = last
    chain_fits entered (ElseIf guarded others) otherwise none labels last =
        let second = inside_if entered None guarded others (else_child otherwise) in
        let faults = neither (guarded_faults second guarded) (else_if_faults second others (else_child otherwise)) none in
        let parts = both_labels (guarded_labels guarded) (else_if_labels others) labels in
        let more = chain_fits second others otherwise faults.1 parts.1 last in
        record {
          children =
              λ above inner path within.
              let here : Place = child path else_name (where_not_found path) in
              let node = if_core inner here (chain_core (else_core otherwise) others) guarded in
              record {
                named = (refl, tt);
                there =
                    and_from _ _
                    (node_is whole (below path else_name)
                    (named_within (path ∷ above) node.head node.children NoNode whole within else_name
                    (if_named inner here (chain_core (else_core otherwise) others) guarded) (λ site. true) refl)) refl;
              };
          fits =
              λ above inner path all keeps within.
              if_fits (path ∷ above) else_name (where_not_found path) entered None inner
              (chain_core (else_core otherwise) others) guarded second (chain_heads others (else_child otherwise))
              (ap (λ heads. inside_list entered None heads []) (heads_of_if guarded others (else_child otherwise)))
              (record { seen = all; named = refl; more = where_not_found_speaks whole path keeps })
              faults.0 parts.0 more within;
        }

    if_fits : (above : List (List ℕ)) (name : List ℕ) (added : Added) (outer : seen.Scope) (label : Option Identifier)
        (scope : Scope) (otherwise : Otherwise) (guarded : GuardedTree) (entered : seen.Scope) (heads : List Head)
        → entered ≡ inside_list outer label (guarded_child guarded ++ heads) []
        → IsPlace above name added outer label scope
        → guarded_faults entered guarded ≡ [] → are_identifiers (guarded_labels guarded) ≡ true
        → ElseFits otherwise entered heads
        → IsWithin (sites_under above (alone (if_core scope (at above name added) otherwise guarded))) whole
        → AllFit whole (sites_under above (alone (if_core scope (at above name added) otherwise guarded)))
    if_fits above name added outer label scope otherwise (Guarded test branch) entered heads is place none labels behind within =
        let path = path_under above name in
        let inner : Scope = if_scope scope (at above name added) branch otherwise in
        let faults = neither (faults_as (Boolean ∷ []) entered test) (branch_faults entered branch) none in
        let term = resolved inner test in
        let paths = paths_of (if_seen path branch otherwise) in
        let here : Place = child path (branch_name then_name branch) (where_found path) in
        let part = branch_core inner here branch in
        let rest = otherwise.nodes inner path in
        let node = conditional (at above name added) term paths (before part rest) in
        let first = set path term in
        let in_it = others_within (path ∷ above) first.head NoNode (before part rest) whole
        (children_within above node.head node.children NoNode whole within) in
        let in_rest = others_within (path ∷ above) part.head part.children rest whole in_it in
        let keeps = tested_keeps whole above name added none_given term paths (before part rest) within in
        let own = own_within above node.head node.children NoNode whole within (λ site. true) refl in
        let more = behind.children above inner path in_rest in
        let all : IsSeen whole (path ∷ above) entered inner =
        subst (λ entered. IsSeen whole (path ∷ above) entered inner) (sym is)
        (entered_seen whole above name path outer label false scope (branch_child branch ++ heads)
        (branch_name then_name branch ∷ option_to_list otherwise.name) [] [] place.seen place.named (list_has path label own)
        (branch_heads path then_name above inner (where_found path) branch rest heads (option_to_list otherwise.name) refl labels
        in_it more.named)
        tt (none_declares whole path)) in
        tested_fits whole above name added none_given term paths (before part rest) within place.more
        (none_speaks (is_there whole)) (judged_there whole (path ∷ above) entered inner all (Boolean ∷ []) test faults.0)
        (and_from _ _
        (node_is whole (below path (branch_name then_name branch))
        (branch_there path then_name above inner (where_found path) branch rest in_it)) more.there)
        (before_fits whole (path ∷ above) part rest
        (branch_fits (path ∷ above) then_name (where_found path) entered inner branch refl all
        (where_found_speaks whole path keeps) faults.1 labels
        (alone_within (path ∷ above) part.head part.children rest whole in_it))
        (behind.fits above inner path all keeps in_rest))

    else_fits : (entered : seen.Scope) (otherwise : ElseTree) → else_faults entered otherwise ≡ []
        → are_identifiers (else_labels otherwise) ≡ true → ElseFits (else_core otherwise) entered (else_child otherwise)
    else_fits entered NoElse none labels = record {
      children = λ above inner path within. record { named = tt; there = refl };
      fits = λ above inner path all keeps within. refl;
    }
    else_fits entered (Else branch) none labels = record {
      children =
          λ above inner path within.
          record {
            named =
                subst (λ heads. NamedHeads whole (below path) heads (branch_name else_name branch ∷ [])) (append-nil (branch_child branch))
                (branch_heads path else_name above inner (where_not_found path) branch NoNode [] [] refl labels within tt);
            there =
                and_from _ _
                (node_is whole (below path (branch_name else_name branch))
                (branch_there path else_name above inner (where_not_found path) branch NoNode within)) refl;
          };
      fits =
          λ above inner path all keeps within.
          branch_fits (path ∷ above) else_name (where_not_found path) entered inner branch refl all
          (where_not_found_speaks whole path keeps) none labels within;
    }

    branch_fits : (above : List (List ℕ)) (unlabelled : List ℕ) (added : Added) (entered : seen.Scope) (inner : Scope)
        (branch : BranchTree) → is_identifier unlabelled ≡ false → IsSeen whole above entered inner
        → AddedSpeaks (is_there whole) added → branch_faults entered branch ≡ [] → are_identifiers (branch_labels branch) ≡ true
        → IsWithin (sites_under above (alone (branch_core inner (at above (branch_name unlabelled branch) added) branch))) whole
        → AllFit whole (sites_under above (alone (branch_core inner (at above (branch_name unlabelled branch) added) branch)))
    branch_fits above unlabelled added entered inner (Branch label block) none all more faults labels within =
        let parts = both_labels (option_to_list label) (block_labels block) labels in
        block_fits above (named label unlabelled) added entered label inner block
        (record { seen = all; named = label_is label unlabelled parts.0 none; more = more }) faults parts.1 within

pub core_fits : (tree : PlanTree) → block_faults (outermost tree) tree.label tree.root ≡ [] → has_identifiers tree ≡ true
    → AllFit (sites (core tree)) (sites (core tree))
core_fits tree none labels =
    let whole = sites (core tree) in
    let parts = both_labels (option_to_list tree.label) (block_labels tree.root) labels in
    block_fits whole [] (named tree.label root_name) nothing (outermost tree) tree.label [] tree.root
    (record {
      seen = record { nodes = tt; variables = λ name. refl };
      named = label_is tree.label root_name parts.0 refl;
      more = nothing_added whole;
    })
    none parts.1 (within_itself whole)
