-- What is seen somewhere in a tree is there in its core plan: nodes, which are Commands where the text says so, and variables.
use Rattle.std.proofs.Common.{◌≡◌, ℕ, zero, suc, Bool, true, false, not, cond, List, [], ◌∷◌, ◌++◌, Option, Some, None, refl, sym, ap, ◌∙◌, subst}
use Rattle.std.specs.Prelude.{◌&&◌, slice_get}
use Rattle.std.specs.List.{list_any, find, AllZip}
use Rattle.std.specs.Option.{is_some, option_map, option_and_then, option_or, unwrap_or}
use Rattle.std.specs.Str.{bytes_eq}
use Rattle.std.proofs.lemmas.Bool.{and_from, or_left, or_right, or_from}
use Rattle.std.proofs.lemmas.List.Folds.{find-append}
use Rattle.std.proofs.lemmas.Slice.Eq.{bytes_eq-Decides}
use Rattle.std.proofs.option.Match.{the_same}
use Rattle.px_value.specs.Name.{is_identifier}
use Rattle.px_syntax.specs.declared.expr.NodeReference.{NodeReference}
use Rattle.px_syntax.specs.declared.expr.NodeReference.TheVariants as nodes
use Rattle.px_syntax.specs.Scope as seen
use Rattle.px_syntax.specs.Scope.{Visible, Head, is_named, searched, variable_named}
use Rattle.px_core.specs.Fit.{has_site, is_command, declares_in}
use Rattle.px_core.specs.Plan.{VariableData, Site, is_same}
use Rattle.px_core.proofs.Paths.{same-self}
use Rattle.px_scope.specs.Scope.{Scope, Frame, here, declared_in, declared_from, owner_of, child_named, itself_named, named_in, named_from, path_meant}
use Rattle.px_expand.proofs.Declaring.{names_of_variables}

-- ---- variables of a list

-- variables of the text and those of the core plan are the same
abbrev pub SameShown : List Visible → List VariableData → Type 0
SameShown = AllZip (λ visible variable. (visible.name ≡ variable.name) × (visible.is_array ≡ is_some variable.size))

pub shown-append : (front back : List Visible) (first rest : List VariableData) → SameShown front first → SameShown back rest
    → SameShown (front ++ back) (first ++ rest)
shown-append [] back [] rest one two = two
shown-append [] back (variable ∷ first) rest one two = absurd one
shown-append (visible ∷ front) back [] rest one two = absurd one
shown-append (visible ∷ front) back (variable ∷ first) rest one two =
    (one.0, shown-append front back first rest one.1 two)

declares_first : (as_array : Bool) (name : List ℕ) (variable : VariableData) (variables : List VariableData)
    → is_same variable.name name ≡ true → as_array ≡ is_some variable.size
    → declares_in as_array name (variable ∷ variables) ≡ true
declares_first true name variable variables same array = or_left _ _ (and_from _ _ same (sym array))
declares_first false name variable variables same array = or_left _ _ (and_from _ _ same (ap not (sym array)))

declares_rest : (as_array : Bool) (name : List ℕ) (variable : VariableData) (variables : List VariableData)
    → declares_in as_array name variables ≡ true → declares_in as_array name (variable ∷ variables) ≡ true
declares_rest true name variable variables passes = or_right (is_same variable.name name && is_some variable.size) _ passes
declares_rest false name variable variables passes =
    or_right (is_same variable.name name && not (is_some variable.size)) _ passes

abbrev pub FrontFound : List ℕ → List VariableData → Option Visible → Type 0
FrontFound name variables None = list_any (is_same name) (names_of_variables variables) ≡ false
FrontFound name variables (Some visible) =
    (list_any (is_same name) (names_of_variables variables) ≡ true) × (declares_in visible.is_array name variables ≡ true)

front_rest : (name : List ℕ) (variable : VariableData) (variables : List VariableData) (found : Option Visible)
    → is_same name variable.name ≡ false → FrontFound name variables found → FrontFound name (variable ∷ variables) found
front_rest name variable variables None other more = or_from _ _ other more
front_rest name variable variables (Some visible) other more =
    (or_right (is_same name variable.name) _ more.0, declares_rest visible.is_array name variable variables more.1)

pub front_found : (name : List ℕ) (visibles : List Visible) (variables : List VariableData) → SameShown visibles variables
    → FrontFound name variables (find (λ visible. bytes_eq name visible.name) visibles)
front_found name [] [] shown = refl
front_found name [] (variable ∷ variables) shown = absurd shown
front_found name (visible ∷ visibles) [] shown = absurd shown
front_found name (visible ∷ visibles) (variable ∷ variables) shown =
    of_test (bytes_eq name visible.name) refl (front_found name visibles variables shown.1)
  where
    of_test : (test : Bool) → is_same name visible.name ≡ test
        → FrontFound name variables (find (λ visible. bytes_eq name visible.name) visibles)
        → FrontFound name (variable ∷ variables) (cond test (Some visible) (find (λ visible. bytes_eq name visible.name) visibles))
    of_test true same more =
        let equal = (bytes_eq-Decides name visible.name).0 same ∙ shown.0.0 in (
          or_left _ _ (ap (is_same name) (sym equal) ∙ same-self name),
          declares_first visible.is_array name variable variables (ap (λ text. is_same text name) (sym equal) ∙ same-self name)
              shown.0.1,
        )
    of_test false other more =
        front_rest name variable variables _ (ap (is_same name) (sym shown.0.0) ∙ other) more

-- ---- what is there

module _ (whole : List Site) where
  -- a node at this path, which is a Command where it is seen as one
  pub record HasHead (path : List ℕ) (head : Head) : Type 0 where
    pub node : has_site (λ site. true) path whole ≡ true
    pub command : head.is_command ≡ true → has_site (λ site. is_command site.head.kind) path whole ≡ true

  abbrev pub HasVariable : List ℕ → List ℕ → Bool → Type 0
  HasVariable path name as_array = has_site (λ site. declares_in as_array name site.head.variables) path whole ≡ true

  -- ---- nodes

  pub record NodeFound (name : List ℕ) (head : Head) (found : Option (List ℕ)) : Type 0 where
    pub identifier : is_identifier name ≡ true
    pub path : List ℕ
    pub is : found ≡ Some path
    pub has : HasHead path head

  -- a name means the same in the text and in the core plan; one that is no identifier means nothing in the text
  abbrev pub AgreesOn : List ℕ → Option Head → Option (List ℕ) → Type 0
  AgreesOn name None found = is_identifier name ≡ true → found ≡ None
  AgreesOn name (Some head) found = NodeFound name head found

  agrees_both : (name : List ℕ) (first second : Option Head) (one two : Option (List ℕ))
      → AgreesOn name first one → AgreesOn name second two → AgreesOn name (option_or first second) (option_or one two)
  agrees_both name (Some head) second one two front back = record {
    identifier = front.identifier;
    path = front.path;
    is = ap (λ found. option_or found two) front.is;
    has = front.has;
  }
  agrees_both name None (Some head) one two front back = record {
    identifier = back.identifier;
    path = back.path;
    is = ap (λ found. option_or found two) (front back.identifier) ∙ back.is;
    has = back.has;
  }
  agrees_both name None None one two front back =
      λ identifier. ap (λ found. option_or found two) (front identifier) ∙ back identifier

  -- a node of the text and its frame
  pub record IsFrameOf (node : seen.Node) (frame : Frame) : Type 0 where
    pub own : HasHead frame.path node.head
    pub itself : (name : List ℕ) → AgreesOn name (find (is_named name) (node.head ∷ [])) (itself_named name frame)
    pub children : (name : List ℕ) → AgreesOn name (find (is_named name) node.children) (child_named name frame)

  abbrev pub SeenNodes : List seen.Node → Scope → Type 0
  SeenNodes = AllZip IsFrameOf

  named_agrees : (name : List ℕ) (nodes : List seen.Node) (scope : Scope) → SeenNodes nodes scope
      → AgreesOn name (find (is_named name) (searched nodes)) (named_from name scope)
  named_agrees name [] [] seen = λ identifier. refl
  named_agrees name [] (frame ∷ scope) seen = absurd seen
  named_agrees name (node ∷ nodes) [] seen = absurd seen
  named_agrees name (node ∷ nodes) (frame ∷ scope) seen =
      let inside =
      subst (λ found. AgreesOn name found (named_in name frame))
      (sym (find-append (is_named name) node.children (node.head ∷ [])))
      (agrees_both name (find (is_named name) node.children) (find (is_named name) (node.head ∷ []))
      (child_named name frame) (itself_named name frame) (seen.0.children name) (seen.0.itself name)) in
      subst (λ found. AgreesOn name found (named_from name (frame ∷ scope)))
      (sym (find-append (is_named name) (node.children ++ node.head ∷ []) (searched nodes)))
      (agrees_both name (find (is_named name) (node.children ++ node.head ∷ [])) (find (is_named name) (searched nodes))
      (named_in name frame) (named_from name scope) inside (named_agrees name nodes scope seen.1))

  found_there : (name : List ℕ) (head : Head) (seen : Option Head) (found : Option (List ℕ)) (other : List ℕ)
      → AgreesOn name seen found → seen ≡ Some head → HasHead (unwrap_or found other) head
  found_there name head seen found other agrees is =
      let node = subst (λ seen. AgreesOn name seen found) is agrees in
      subst (λ found. HasHead (unwrap_or found other) head) (sym node.is) node.has

  -- the node at a place of those seen from the innermost one out, and a child of it
  node_there : (nodes : List seen.Node) (scope : Scope) (at : ℕ) (other : List ℕ) (head : Head) → SeenNodes nodes scope
      → option_map (λ node. node.head) (slice_get nodes at) ≡ Some head
      → HasHead (unwrap_or (option_map (λ frame. frame.path) (slice_get scope at)) other) head
  node_there [] [] at other head seen is = cc
  node_there [] (frame ∷ scope) at other head seen is = absurd seen
  node_there (node ∷ nodes) [] at other head seen is = absurd seen
  node_there (node ∷ nodes) (frame ∷ scope) zero other head seen is = the_same (HasHead frame.path) seen.0.own head is
  node_there (node ∷ nodes) (frame ∷ scope) (suc at) other head seen is = node_there nodes scope at other head seen.1 is

  child_there : (name : List ℕ) (nodes : List seen.Node) (scope : Scope) (at : ℕ) (other : List ℕ) (head : Head)
      → SeenNodes nodes scope → option_and_then (seen.child_named name) (slice_get nodes at) ≡ Some head
      → HasHead (unwrap_or (option_and_then (child_named name) (slice_get scope at)) other) head
  child_there name [] [] at other head seen is = cc
  child_there name [] (frame ∷ scope) at other head seen is = absurd seen
  child_there name (node ∷ nodes) [] at other head seen is = absurd seen
  child_there name (node ∷ nodes) (frame ∷ scope) zero other head seen is =
      found_there name head _ (child_named name frame) other (seen.0.children name) is
  child_there name (node ∷ nodes) (frame ∷ scope) (suc at) other head seen is =
      child_there name nodes scope at other head seen.1 is

  -- the node that a reference means is there
  pub meant_there : (outer : seen.Scope) (scope : Scope) → SeenNodes outer.nodes scope → (reference : NodeReference) (head : Head)
      → seen.meant outer reference ≡ Some head → HasHead (path_meant scope reference) head
  meant_there outer scope all (nodes.Named name) head is =
      found_there name.name head _ (named_from name.name scope) (here scope) (named_agrees name.name outer.nodes scope all) is
  meant_there outer scope all (nodes.SelfNode token) head is = node_there outer.nodes scope 0 (here scope) head all is
  meant_there outer scope all (nodes.Parent token) head is = node_there outer.nodes scope 1 (here scope) head all is
  meant_there outer scope all (nodes.Sibling token name) head is = child_there name.name outer.nodes scope 1 (here scope) head all is
  meant_there outer scope all (nodes.Child token name) head is = child_there name.name outer.nodes scope 0 (here scope) head all is

  -- ---- variables

  module _ (above : List (List ℕ)) where
    pub record VariableFound (name : List ℕ) (variable : Visible) (found : Option (List ℕ)) : Type 0 where
      pub path : List ℕ
      pub is : found ≡ Some path
      pub has : HasVariable path name variable.is_array
      pub owns : list_any (is_same path) above ≡ true

    abbrev pub VariableAgrees : List ℕ → Option Visible → Option (List ℕ) → Type 0
    VariableAgrees name None found = found ≡ None
    VariableAgrees name (Some variable) found = VariableFound name variable found

    -- the variables that are seen are those that nodes declare which stand above
    abbrev pub SeenVariables : List Visible → Scope → Type 0
    SeenVariables variables scope =
        (name : List ℕ) → VariableAgrees name (find (λ variable. bytes_eq name variable.name) variables) (declared_from name scope)

    -- the scope of the text and that of the core plan show the same
    pub record IsSeen (outer : seen.Scope) (scope : Scope) : Type 0 where
      pub nodes : SeenNodes outer.nodes scope
      pub variables : SeenVariables outer.variables scope

    pub owner_there : (name : List ℕ) (variable : Visible) (outer : seen.Scope) (scope : Scope) → IsSeen outer scope
        → variable_named outer name ≡ Some variable
        → HasVariable (owner_of scope name) name variable.is_array × (list_any (is_same (owner_of scope name)) above ≡ true)
    owner_there name variable outer scope seen is =
        let own = subst (λ found. VariableAgrees name found (declared_from name scope)) is (seen.variables name) in
        subst
        (λ found.
        HasVariable (unwrap_or found (here scope)) name variable.is_array
        × (list_any (is_same (unwrap_or found (here scope))) above ≡ true))
        (sym own.is) (own.has, own.owns)

  variables_both : (above : List (List ℕ)) (name : List ℕ) (first second : Option Visible) (one two : Option (List ℕ))
      → VariableAgrees above name first one → VariableAgrees above name second two
      → VariableAgrees above name (option_or first second) (option_or one two)
  variables_both above name (Some variable) second one two front back =
      record { path = front.path; is = ap (λ found. option_or found two) front.is; has = front.has; owns = front.owns }
  variables_both above name None (Some variable) one two front back =
      record { path = back.path; is = ap (λ found. option_or found two) front ∙ back.is; has = back.has; owns = back.owns }
  variables_both above name None None one two front back = ap (λ found. option_or found two) front ∙ back

  further_above : (above : List (List ℕ)) (path name : List ℕ) (seen : Option Visible) (found : Option (List ℕ))
      → VariableAgrees above name seen found → VariableAgrees (path ∷ above) name seen found
  further_above above path name None found agrees = agrees
  further_above above path name (Some variable) found agrees = record {
    path = agrees.path;
    is = agrees.is;
    has = agrees.has;
    owns = or_right (is_same agrees.path path) _ agrees.owns;
  }

  -- inside a node without variables of its own that stands in no scope
  pub seen_further : (above : List (List ℕ)) (path : List ℕ) (outer : seen.Scope) (scope : Scope) → IsSeen above outer scope
      → IsSeen (path ∷ above) outer scope
  seen_further above path outer scope seen = record {
    nodes = seen.nodes;
    variables = λ name. further_above above path name _ (declared_from name scope) (seen.variables name);
  }

  own_variables : (above : List (List ℕ)) (name : List ℕ) (frame : Frame) (variables : List VariableData) (found : Option Visible)
      → list_any (is_same name) frame.variables ≡ list_any (is_same name) (names_of_variables variables)
      → ((as_array : Bool) → declares_in as_array name variables ≡ true → HasVariable frame.path name as_array)
      → FrontFound name variables found
      → VariableAgrees (frame.path ∷ above) name found (declared_in name frame)
  own_variables above name frame variables None names has front =
      ap (λ test. cond test (Some frame.path) None) (names ∙ front)
  own_variables above name frame variables (Some variable) names has front = record {
    path = frame.path;
    is = ap (λ test. cond test (Some frame.path) None) (names ∙ front.0);
    has = has variable.is_array front.1;
    owns = or_left _ _ (same-self frame.path);
  }

  -- inside a further node of the text
  pub seen_inside : (above : List (List ℕ)) (outer : seen.Scope) (scope : Scope) (node : seen.Node) (frame : Frame)
      (visibles : List Visible) (variables : List VariableData)
      → IsSeen above outer scope → IsFrameOf node frame → SameShown visibles variables
      → ((name : List ℕ) → list_any (is_same name) frame.variables ≡ list_any (is_same name) (names_of_variables variables))
      → ((name : List ℕ) (as_array : Bool) → declares_in as_array name variables ≡ true → HasVariable frame.path name as_array)
      → IsSeen (frame.path ∷ above) (seen.inside outer node visibles) (frame ∷ scope)
  seen_inside above outer scope node frame visibles variables seen own shown names has = record {
    nodes = (own, seen.nodes);
    variables =
        λ name.
        subst (λ found. VariableAgrees (frame.path ∷ above) name found (declared_from name (frame ∷ scope)))
        (sym (find-append (λ variable. bytes_eq name variable.name) visibles outer.variables))
        (variables_both (frame.path ∷ above) name (find (λ variable. bytes_eq name variable.name) visibles)
        (find (λ variable. bytes_eq name variable.name) outer.variables) (declared_in name frame) (declared_from name scope)
        (own_variables above name frame variables _ (names name) (has name) (front_found name visibles variables shown))
        (further_above above frame.path name _ (declared_from name scope) (seen.variables name)));
  }
