-- Children by their names: what a name means among the children of a node of the text, and of its core plan.
use Rattle.std.proofs.Common.{◌≡◌, ℕ, suc, Bool, true, false, cond, List, [], ◌∷◌, Option, Some, None, refl, sym, ap, ◌∙◌, subst}
use Rattle.std.specs.Prelude.{◌||◌}
use Rattle.std.specs.List.{list_any, find}
use Rattle.std.specs.Option.{option_map_or}
use Rattle.std.specs.Str.{bytes_eq}
use Rattle.std.proofs.lemmas.Cmp.{nat_list_eq_equiv}
use Rattle.std.proofs.lemmas.Bool.{and_parts, false≢true}
use Rattle.std.proofs.lemmas.Slice.Eq.{bytes_eq-Decides}
use Rattle.px_value.specs.Name.{is_identifier}
use Rattle.px_value.specs.Path.{below}
use Rattle.px_syntax.specs.declared.expr.Identifier.{Identifier}
use Rattle.px_syntax.specs.declared.word.BlockForm.{BlockForm}
use Rattle.px_syntax.specs.Block.{ItemData, BlockTree, Braces, Actions, NoActions, More, Labelled, BodyTree, Inner, Assign, CallInto, Call, Update, If, While, For}
use Rattle.px_syntax.specs.BlockFaults.{action_labels}
use Rattle.px_syntax.specs.Scope.{Head, head_of, is_named, is_call, own_action, is_command_block, is_command_body, children_of}
use Rattle.px_core.specs.Fit.{is_command}
use Rattle.px_core.specs.Plan.{Site, Tree, is_same, path_under, sites_under}
use Rattle.px_expand.specs.Core.{name_of, follows, shaped, block_scope, block_core, actions_core, body_core}
use Rattle.px_scope.specs.Actions.{kind_of}
use Rattle.px_expand.specs.Kinds.{Shape, Rest, OneAction, Children, shape_of}
use Rattle.px_expand.specs.Labels.{are_identifiers}
use Rattle.px_forms.specs.Nodes.{Place, Node, child, before}
use Rattle.px_scope.specs.Scope.{Scope}
use Rattle.px_expand.proofs.Naming.{hash_differs, names_from}
use Rattle.px_expand.proofs.Seen.{HasHead, AgreesOn}
use Rattle.px_expand.proofs.Sound.{View, view, body_named}
use Rattle.px_expand.proofs.Within.{IsWithin, named_within, others_within}

-- ---- a block that is one node with a command

call_kind : (body : BodyTree) → is_call body ≡ true → is_command (kind_of body) ≡ true
call_kind (Inner block) call = cc
call_kind (Assign target value) call = cc
call_kind (CallInto target result) call = refl
call_kind (Call result) call = refl
call_kind (Update token pairs) call = cc
call_kind (If guarded others otherwise) call = cc
call_kind (While guarded) call = cc
call_kind (For variable first test step branch) call = cc

shaped_command : (place : Place) (shape : Shape) (own : Option BodyTree) (scope : Scope) (form : BlockForm)
    (items : List ItemData) (paths : List (List ℕ)) (children : Tree) (actions : Actions) → View shape own actions
    → option_map_or is_call own false ≡ true → is_command (shaped place shape scope form items paths children).head.kind ≡ true
shaped_command place Rest own scope form items paths children inner seen call =
    absurd (false≢true (ap (λ own. option_map_or is_call own false) (sym seen.0) ∙ call))
shaped_command place (OneAction body) own scope form items paths children inner seen call =
    call_kind body (ap (λ own. option_map_or is_call own false) (sym seen.0) ∙ call)
shaped_command place Children own scope form items paths children inner seen call =
    absurd (false≢true (ap (λ own. option_map_or is_call own false) (sym seen) ∙ call))

pub block_command : (scope : Scope) (place : Place) (block : BlockTree) → is_command_block block ≡ true
    → is_command (block_core scope place block).head.kind ≡ true
block_command scope place (Braces form items actions) call =
    shaped_command place (shape_of (Braces form items actions)) (own_action (Braces form items actions))
    (block_scope scope place (Braces form items actions)) form items _ _ actions (view form items actions) call

body_command : (scope : Scope) (place : Place) (body : BodyTree) → is_command_body body ≡ true
    → is_command (body_core scope place body).head.kind ≡ true
body_command scope place (Inner block) call = block_command scope place block call
body_command scope place (Assign target value) call = cc
body_command scope place (CallInto target result) call = refl
body_command scope place (Call result) call = refl
body_command scope place (Update token pairs) call = cc
body_command scope place (If guarded others otherwise) call = cc
body_command scope place (While guarded) call = cc
body_command scope place (For variable first test step branch) call = cc

-- ---- names

module _ (whole : List Site) where
  module _ (at : List ℕ → List ℕ) where
    -- A child of the text has its label for a name, which is an identifier; the name of one without a label is none. What
    -- a block is one node with has no name.
    abbrev pub LabelNamed : Head → Option (List ℕ) → List ℕ → Type 0
    LabelNamed head None name = is_identifier name ≡ false
    LabelNamed head (Some label) name = (name ≡ label) × (is_identifier label ≡ true) × HasHead whole (at name) head

    abbrev pub NamedHeads : List Head → List (List ℕ) → Type 0
    NamedHeads [] [] = Unit {0}
    NamedHeads [] (name ∷ names) = (is_identifier name ≡ false) × NamedHeads [] names
    NamedHeads (head ∷ heads) [] = (head.label ≡ None) × NamedHeads heads []
    NamedHeads (head ∷ heads) (name ∷ names) = LabelNamed head head.label name × NamedHeads heads names

    unlabelled_agrees : (name other : List ℕ) (found : Option Head) (among : Bool) → is_identifier other ≡ false
        → AgreesOn whole name found (cond among (Some (at name)) None)
        → AgreesOn whole name found (cond (is_same name other || among) (Some (at name)) None)
    unlabelled_agrees name other None among none more =
        λ identifier.
        ap (λ test. cond (test || among) (Some (at name)) None) (nat_list_eq_equiv.symm name other ∙ hash_differs other name none identifier) ∙ more identifier
    unlabelled_agrees name other (Some head) among none more = record {
      identifier = more.identifier;
      path = more.path;
      is =
          ap (λ test. cond (test || among) (Some (at name)) None) (nat_list_eq_equiv.symm name other ∙ hash_differs other name none more.identifier)
          ∙ more.is;
      has = more.has;
    }

    labelled_agrees : (name other label : List ℕ) (head : Head) (found : Option Head) (among test : Bool)
        → bytes_eq name label ≡ test → (other ≡ label) × (is_identifier label ≡ true) × HasHead whole (at other) head
        → AgreesOn whole name found (cond among (Some (at name)) None)
        → AgreesOn whole name (cond test (Some head) found) (cond (is_same name other || among) (Some (at name)) None)
    labelled_agrees name other label head found among true same own more =
        let equal = (bytes_eq-Decides name label).0 same in
        record {
          identifier = ap is_identifier equal ∙ own.1;
          path = at name;
          is = ap (λ test. cond (test || among) (Some (at name)) None) (ap (is_same name) own.0 ∙ same);
          has = subst (λ text. HasHead whole (at text) head) (own.0 ∙ sym equal) own.2;
        }
    labelled_agrees name other label head found among false same own more =
        subst (λ test. AgreesOn whole name found (cond (test || among) (Some (at name)) None))
        (sym (ap (is_same name) own.0 ∙ same)) more

    one_agrees : (name other : List ℕ) (head : Head) (label : Option (List ℕ)) (found : Option Head) (among : Bool)
        → LabelNamed head label other → AgreesOn whole name found (cond among (Some (at name)) None)
        → AgreesOn whole name (cond (option_map_or (bytes_eq name) label false) (Some head) found)
        (cond (is_same name other || among) (Some (at name)) None)
    one_agrees name other head None found among own more = unlabelled_agrees name other found among own more
    one_agrees name other head (Some label) found among own more =
        labelled_agrees name other label head found among (bytes_eq name label) refl own more

    pub heads_agree : (name : List ℕ) (heads : List Head) (names : List (List ℕ)) → NamedHeads heads names
        → AgreesOn whole name (find (is_named name) heads) (cond (list_any (is_same name) names) (Some (at name)) None)
    heads_agree name [] [] named = λ identifier. refl
    heads_agree name [] (other ∷ names) named =
        unlabelled_agrees name other None (list_any (is_same name) names) named.0 (heads_agree name [] names named.1)
    heads_agree name (head ∷ heads) [] named =
        subst
        (λ label. AgreesOn whole name (cond (option_map_or (bytes_eq name) label false) (Some head) (find (is_named name) heads)) None)
        (sym named.0) (heads_agree name heads [] named.1)
    heads_agree name (head ∷ heads) (other ∷ names) named =
        one_agrees name other head head.label (find (is_named name) heads) (list_any (is_same name) names) named.0
        (heads_agree name heads names named.1)

  -- a node of this name, which is a Command where the text has it as one
  pub head_within : (above : List (List ℕ)) (node : Node) (rest : Tree) (name : List ℕ) (label : Option Identifier)
      (as_command : Bool) → IsWithin (sites_under above (before node rest)) whole → node.head.name ≡ name
      → (as_command ≡ true → is_command node.head.kind ≡ true) → HasHead whole (path_under above name) (head_of label as_command)
  head_within above node rest name label as_command within is command =
      let named = named_within above node.head node.children rest whole within name is in
      record { node = named (λ site. true) refl; command = λ call. named (λ site. is_command site.head.kind) (command call) }

  -- the actions of a List
  pub actions_heads : (above : List (List ℕ)) (scope : Scope) (path : List ℕ) (form : BlockForm) (behind : Option (List ℕ))
      (place : ℕ) (actions : Actions)
      → IsWithin (sites_under (path ∷ above) (actions_core scope path form behind place actions)) whole
      → are_identifiers (action_labels actions) ≡ true
      → NamedHeads (below path) (children_of actions) (names_from place actions)
  actions_heads above scope path form behind place NoActions within labels = tt
  actions_heads above scope path form behind place (More (Labelled None body) rest) within labels =
      let node = body_core scope (child path (name_of place (Labelled None body)) (follows form behind)) body in (
        refl,
        actions_heads above scope path form (Some (below path (name_of place (Labelled None body)))) (suc place) rest
            (others_within (path ∷ above) node.head node.children _ whole within) labels,
      )
  actions_heads above scope path form behind place (More (Labelled (Some label) body) rest) within labels =
      let at : Place = child path label.name (follows form behind) in
      let node = body_core scope at body in
      let others = actions_core scope path form (Some (below path label.name)) (suc place) rest in
      let parts = and_parts (is_identifier label.name) (are_identifiers (action_labels rest)) labels in (
        (
          refl,
          parts.0,
          head_within (path ∷ above) node others label.name (Some label) (is_command_body body) within
              (body_named scope at body) (body_command scope at body),
        ),
        actions_heads above scope path form (Some (below path label.name)) (suc place) rest
            (others_within (path ∷ above) node.head node.children others whole within) parts.1,
      )
