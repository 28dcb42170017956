-- The nodes of a core plan speak of what is there, and write variables of nodes above.
use Rattle.std.proofs.Common.{◌≡◌, ℕ, Bool, true, false, cond, List, [], ◌∷◌, ◌++◌, map, Option, Some, None, refl, sym, ap, ◌∙◌, subst}
use Rattle.std.specs.Prelude.{◌&&◌}
use Rattle.std.specs.List.{list_any, list_all, find}
use Rattle.std.specs.Option.{IfSome, option_to_list}
use Rattle.std.proofs.Math.Bool.{or-false}
use Rattle.std.proofs.lemmas.Bool.{and_from, and_parts, or_left, or_right}
use Rattle.std.proofs.lemmas.List.{append-nil}
use Rattle.std.proofs.lemmas.List.Folds.{list_all-append}
use Rattle.px_value.specs.Name.{is_identifier}
use Rattle.px_value.specs.Path.{below}
use Rattle.px_syntax.specs.declared.expr.Identifier.{Identifier}
use Rattle.px_syntax.specs.declared.word.BlockForm.{BlockForm}
use Rattle.px_syntax.specs.declared.word.BlockForm.TheVariants as forms
use Rattle.px_syntax.specs.Scope as seen
use Rattle.px_syntax.specs.Scope.{Head, Visible, head_of, is_named}
use Rattle.px_core.specs.declared.expr.BinaryOp.TheVariants.{And}
use Rattle.px_core.specs.declared.expr.UnaryOp.TheVariants.{IsKnown}
use Rattle.px_core.specs.declared.node.Kind.{Kind}
use Rattle.px_core.specs.declared.node.Kind.TheVariants as kinds
use Rattle.px_core.specs.Defaults.{default_end, default_priority}
use Rattle.px_core.specs.Expr.{Term, Unary, Binary}
use Rattle.px_core.specs.Fit.{declares_in, has_site, is_there, references_of_site, owns_its_targets, targets_of}
use Rattle.px_core.specs.Fit as ref
use Rattle.px_core.specs.Plan as plan
use Rattle.px_core.specs.Plan.{BodyData, VariableData, Site, Tree, NoNode, is_same, path_under, sites_under}
use Rattle.px_core.proofs.Paths.{same-self}
use Rattle.px_forms.specs.Adding.{Added, nothing}
use Rattle.px_forms.specs.Conditions.{Given, none_given}
use Rattle.px_expand.specs.Core.{follows}
use Rattle.px_forms.specs.Forms.{after, found, not_found, where_found, where_not_found, assignment, set, tested, test_variable}
use Rattle.px_forms.specs.Names.{test_name, set_name}
use Rattle.px_expand.specs.Names.{named}
use Rattle.px_forms.specs.Nodes.{Place, Node, before, alone, node_at}
use Rattle.px_expand.specs.Children.{seen as seen_at}
use Rattle.px_expand.specs.Labels.{are_identifiers}
use Rattle.px_scope.specs.Scope.{Scope, table, each_once}
use Rattle.px_expand.proofs.Actions.{standing}
use Rattle.px_expand.proofs.Declaring.{names_of_variables}
use Rattle.px_expand.proofs.Frames.{LabelNamed, NamedHeads, heads_agree}
use Rattle.px_expand.proofs.Mentions.{scalar_is}
use Rattle.px_expand.proofs.Seen.{SameShown, HasHead, HasVariable, AgreesOn, IsSeen, seen_inside}
use Rattle.px_expand.proofs.Speaking.{speaks, both_speak, are_nodes, done_speaks, finished_speaks, GivenSpeaks, none_speaks, AddedSpeaks, BodySpeaks, node_speaks}
use Rattle.px_expand.proofs.Tables.{child_found, variable_found}
use Rattle.px_expand.proofs.Within.{IsWithin, own_within, children_within}

-- a node's place below those above
abbrev pub at : List (List ℕ) → List ℕ → Added → Place
at above name added = standing (path_under above name) name added

-- a node has its label for a name, which is an identifier, or a name that is none
abbrev pub LabelIs : Option Identifier → List ℕ → Type 0
LabelIs None name = is_identifier name ≡ false
LabelIs (Some label) name = (name ≡ label.name) × (is_identifier label.name ≡ true)

pub label_is : (label : Option Identifier) (unlabelled : List ℕ) → are_identifiers (option_to_list label) ≡ true
    → is_identifier unlabelled ≡ false → LabelIs label (named label unlabelled)
label_is None unlabelled labels none = none
label_is (Some label) unlabelled labels none = (refl, (and_parts (is_identifier label.name) true labels).0)

module _ (whole : List Site) where
  -- what a node speaks of is there, and the owners of what it writes stand above
  abbrev pub fits : Site → Bool
  fits site = list_all (is_there whole) (references_of_site site) && owns_its_targets site

  abbrev pub AllFit : List Site → Type 0
  AllFit sites = list_all fits sites ≡ true

  pub node_is : (path : List ℕ) → has_site (λ site. true) path whole ≡ true → is_there whole (ref.Node path) ≡ true
  node_is path is = and_from _ _ is refl

  -- ---- nodes

  pub node_fits : (above : List (List ℕ)) (name : List ℕ) (added : Added) (kind : Kind) (paths : List (List ℕ)) (given : Given)
      (priority : ℕ) (variables : List VariableData) (body : BodyData) (children : Tree)
      → AddedSpeaks (is_there whole) added → GivenSpeaks (is_there whole) given
      → speaks (is_there whole) (default_end kind (path_under above name) paths) ≡ true
      → BodySpeaks (is_there whole) body
      → list_all (λ target. list_any (is_same target.owner) (path_under above name ∷ above)) (targets_of body) ≡ true
      → AllFit (sites_under (path_under above name ∷ above) children)
      → AllFit (sites_under above (alone (node_at (at above name added) kind paths given priority variables body children)))
  node_fits above name added kind paths given priority variables body children more own end said owns inside =
      and_from _ _
      (and_from _ _
      (node_speaks (is_there whole) (at above name added) kind paths given priority variables body above more own end said) owns)
      (list_all-append fits (sites_under (path_under above name ∷ above) children) [] ∙ and_from _ _ inside refl)

  pub before_fits : (above : List (List ℕ)) (node : Node) (rest : Tree) → AllFit (sites_under above (alone node))
      → AllFit (sites_under above rest) → AllFit (sites_under above (before node rest))
  before_fits above node rest own others =
      let inside = sites_under (path_under above node.head.name ∷ above) node.children in
      let parts = and_parts (fits (plan.site_under above node.head)) (list_all fits (inside ++ [])) own in
      and_from _ _ parts.0
      (list_all-append fits inside (sites_under above rest)
      ∙ and_from _ _ (ap (list_all fits) (sym (append-nil inside)) ∙ parts.1) others)

  pub nothing_said : BodySpeaks (is_there whole) plan.Nothing
  nothing_said = record { terms = refl; targets = refl }

  pub nothing_added : AddedSpeaks (is_there whole) nothing
  nothing_added = record { start = tt; skip = tt }

  -- an assignment to a scalar of a node above
  pub assignment_fits : (above : List (List ℕ)) (parent name : List ℕ) (given : Given) (owner variable : List ℕ) (value : Term)
      → GivenSpeaks (is_there whole) given → HasVariable whole owner variable false → speaks (is_there whole) value ≡ true
      → list_any (is_same owner) (below parent name ∷ parent ∷ above) ≡ true
      → AllFit (sites_under (parent ∷ above) (alone (assignment parent name given owner variable value)))
  assignment_fits above parent name given owner variable value own has said owns =
      node_fits (parent ∷ above) name nothing kinds.Assignment [] given default_priority []
      (plan.Assign (record { owner = owner; name = variable; index = None }) value) NoNode nothing_added own refl
      (record { terms = and_from _ _ said refl; targets = and_from _ _ (scalar_is whole owner variable has) refl })
      (and_from _ _ owns refl) refl

  -- ---- tests

  -- a List keeps a test, and has a node that sets it
  pub record KeepsTest (path : List ℕ) : Type 0 where
    pub set : has_site (λ site. true) (below path set_name) whole ≡ true
    pub test : HasVariable whole path test_name false

  found_speaks : (path : List ℕ) → KeepsTest path → speaks (is_there whole) (found path) ≡ true
  found_speaks path keeps =
      and_from _ _ (node_is (below path set_name) keeps.set) (and_from _ _ (scalar_is whole path test_name keeps.test) refl)

  pub not_found_speaks : (path : List ℕ) → KeepsTest path → speaks (is_there whole) (not_found path) ≡ true
  not_found_speaks = found_speaks

  pub where_found_speaks : (path : List ℕ) → KeepsTest path → AddedSpeaks (is_there whole) (where_found path)
  where_found_speaks path keeps = record { start = found_speaks path keeps; skip = not_found_speaks path keeps }

  pub where_not_found_speaks : (path : List ℕ) → KeepsTest path → AddedSpeaks (is_there whole) (where_not_found path)
  where_not_found_speaks path keeps = record { start = not_found_speaks path keeps; skip = found_speaks path keeps }

  pub tested_keeps : (above : List (List ℕ)) (name : List ℕ) (added : Added) (given : Given) (test : Term)
      (paths : List (List ℕ)) (children : Tree)
      → IsWithin (sites_under above (alone (tested (at above name added) given test paths children))) whole
      → KeepsTest (path_under above name)
  tested_keeps above name added given test paths children within =
      let path = path_under above name in
      let node = tested (at above name added) given test paths children in
      let first = set path test in
      record {
        set =
            own_within (path ∷ above) first.head first.children children whole
            (children_within above node.head node.children NoNode whole within) (λ site. true) refl;
        test =
            own_within above node.head node.children NoNode whole within
            (λ site. declares_in false test_name site.head.variables) refl;
      }

  pub tested_fits : (above : List (List ℕ)) (name : List ℕ) (added : Added) (given : Given) (test : Term)
      (paths : List (List ℕ)) (children : Tree)
      → IsWithin (sites_under above (alone (tested (at above name added) given test paths children))) whole
      → AddedSpeaks (is_there whole) added → GivenSpeaks (is_there whole) given → speaks (is_there whole) test ≡ true
      → are_nodes (is_there whole) paths ≡ true
      → AllFit (sites_under (path_under above name ∷ above) children)
      → AllFit (sites_under above (alone (tested (at above name added) given test paths children)))
  tested_fits above name added given test paths children within more own said are inside =
      let path = path_under above name in
      let keeps = tested_keeps above name added given test paths children within in
      node_fits above name added kinds.List (below path set_name ∷ paths) given default_priority (test_variable ∷ [])
      plan.Nothing (before (set path test) children) more own
      (finished_speaks (is_there whole) (below path set_name ∷ paths)
      (and_from _ _ (node_is (below path set_name) keeps.set) are))
      nothing_said refl
      (before_fits (path ∷ above) (set path test) children
      (assignment_fits above path set_name none_given path test_name (Binary And (Unary IsKnown test) test)
      (none_speaks (is_there whole)) keeps.test (both_speak (is_there whole) And (Unary IsKnown test) test said said)
      (or_right (is_same path (below path set_name)) _ (or_left _ _ (same-self path))))
      inside)

  -- ---- scopes

  label_named : (path name : List ℕ) (label : Option Identifier) (head : Head) → LabelIs label name → HasHead whole path head
      → LabelNamed whole (λ text. path) head (head_of label false).label name
  label_named path name None head is has = is
  label_named path name (Some label) head is has = (is.0, is.1, has)

  -- inside a node of the text, whose children stand below one of these paths
  pub entered_seen : (above : List (List ℕ)) (name parent : List ℕ) (outer : seen.Scope) (label : Option Identifier)
      (as_command : Bool) (scope : Scope) (heads : List Head) (names : List (List ℕ)) (visibles : List Visible)
      (variables : List VariableData)
      → IsSeen whole above outer scope → LabelIs label name
      → HasHead whole (path_under above name) (head_of label as_command)
      → NamedHeads whole (below parent) heads names → SameShown visibles variables
      → ((text : List ℕ) (as_array : Bool) → declares_in as_array text variables ≡ true
      → HasVariable whole (path_under above name) text as_array)
      → IsSeen whole (path_under above name ∷ above)
      (seen.inside outer (record { head = head_of label as_command; children = heads }) visibles)
      (record {
        name = name;
        path = path_under above name;
        children = table (map (seen_at parent) names);
        variables = each_once (names_of_variables variables);
      } ∷ scope)
  entered_seen above name parent outer label as_command scope heads names visibles variables seen is has children shown declares =
      let path = path_under above name in
      let head = head_of label as_command in
      seen_inside whole above outer scope (record { head = head; children = heads })
      (record {
        name = name;
        path = path;
        children = table (map (seen_at parent) names);
        variables = each_once (names_of_variables variables);
      })
      visibles variables seen
      (record {
        own = has;
        itself =
            λ text.
            subst (λ test. AgreesOn whole text (find (is_named text) (head ∷ [])) (cond test (Some path) None)) (or-false (is_same text name))
            (heads_agree whole (λ text. path) text (head ∷ []) (name ∷ []) (label_named path name label head is has, tt));
        children =
            λ text.
            subst (λ result. AgreesOn whole text (find (is_named text) heads) result) (sym (child_found parent text names))
            (heads_agree whole (below parent) text heads names children);
      })
      shown (λ text. variable_found text (names_of_variables variables)) declares

  -- ---- what the form of a block adds

  abbrev pub MayBe : Option (List ℕ) → Type 0
  MayBe behind = IfSome behind (λ path. has_site (λ site. true) path whole ≡ true)

  after_speaks : (behind : Option (List ℕ)) → MayBe behind → AddedSpeaks (is_there whole) (after behind)
  after_speaks None is = nothing_added
  after_speaks (Some path) is = record { start = done_speaks (is_there whole) path (node_is path is); skip = tt }

  pub follows_speaks : (form : BlockForm) (behind : Option (List ℕ)) → MayBe behind
      → AddedSpeaks (is_there whole) (follows form behind)
  follows_speaks forms.Plain behind is = after_speaks behind is
  follows_speaks forms.NodeList behind is = nothing_added
  follows_speaks forms.Sequence behind is = after_speaks behind is
  follows_speaks forms.UncheckedSequence behind is = after_speaks behind is
  follows_speaks forms.Concurrence behind is = nothing_added
  follows_speaks forms.Try behind is = after_speaks behind is
