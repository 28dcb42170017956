-- Whether all that the expressions of a node speak of is there.
use Rattle.std.proofs.Common.{◌≡◌, ℕ, Bool, true, List, [], ◌∷◌, ◌++◌, map, Option, Some, None, refl, ◌∙◌}
use Rattle.std.specs.List.{list_all, flat_map}
use Rattle.std.specs.Option.{IfSome, unwrap_or}
use Rattle.std.specs.Prelude.{false}
use Rattle.std.proofs.lemmas.Bool.{and_from, and_parts}
use Rattle.std.proofs.lemmas.List.Folds.{list_all-append, list_all-map}
use Rattle.px_value.specs.declared.enums.Outcome.{Outcome}
use Rattle.px_value.specs.declared.enums.Outcome.TheVariants as outcomes
use Rattle.px_value.proofs.Ascii.{list_all-weaker}
use Rattle.px_value.proofs.General.{list_all_parts, unwrapped_has}
use Rattle.px_core.specs.declared.expr.BinaryOp.{BinaryOp}
use Rattle.px_core.specs.declared.expr.BinaryOp.TheVariants.{And, Or}
use Rattle.px_core.specs.declared.expr.UnaryOp.TheVariants.{Not}
use Rattle.px_core.specs.declared.node.Kind.{Kind}
use Rattle.px_core.specs.Defaults.{each_finished, default_end, default_conditions}
use Rattle.px_core.specs.Expr.{Term, Unary, Binary}
use Rattle.px_core.specs.Fit.{Reference, Node, references, references_of_site, references_of_target, terms_of, terms_of_conditions, targets_of}
use Rattle.px_core.specs.Joined.{Joins, joined}
use Rattle.px_core.specs.Plan.{BodyData, NoNode, VariableData, site_under}
use Rattle.px_core.proofs.Halves.{joins}
use Rattle.px_forms.specs.Adding.{Added, adds, may_add, with_added}
use Rattle.px_forms.specs.Conditions.{Given, none_given, conditions}
use Rattle.px_forms.specs.Forms.{done, ended, failed, won, sequence, try}
use Rattle.px_forms.specs.Joining.{all, some}
use Rattle.px_forms.specs.Nodes.{Place, node_at}

module _ (there : Reference → Bool) where
  -- all that a term speaks of is there
  abbrev pub speaks : Term → Bool
  speaks term = list_all there (references term)

  abbrev pub MaySpeak : Option Term → Type 0
  MaySpeak given = IfSome given (λ term. speaks term ≡ true)

  pub both_speak : (op : BinaryOp) (left right : Term) → speaks left ≡ true → speaks right ≡ true
      → speaks (Binary op left right) ≡ true
  both_speak op left right first second = list_all-append there (references left) (references right) ∙ and_from _ _ first second

  pub each_speaks : (terms : List Term) → list_all speaks terms ≡ true → list_all there (flat_map references terms) ≡ true
  each_speaks [] all = refl
  each_speaks (term ∷ terms) all =
      let parts = and_parts (speaks term) (list_all speaks terms) all in
      list_all-append there (references term) (flat_map references terms)
      ∙ and_from _ _ parts.0 (each_speaks terms parts.1)

  -- ---- terms joined

  joins_speak : (op : BinaryOp) (none : Bool) (terms : List Term) (whole : Term) → Joins op none terms whole
      → list_all speaks terms ≡ true → speaks whole ≡ true
  joins_speak op none _ _ Joins.no_term all = refl
  joins_speak op none _ _ (Joins.one_term term) all = (and_parts (speaks term) true all).0
  joins_speak op none _ _ (Joins.halves front rest left right some half first second) all =
      let parts = list_all_parts speaks front rest all in
      both_speak op left right (joins_speak op none front left first parts.0) (joins_speak op none rest right second parts.1)

  pub joined_speaks : (op : BinaryOp) (none : Bool) (terms : List Term) → list_all speaks terms ≡ true
      → speaks (joined op none terms) ≡ true
  joined_speaks op none terms = joins_speak op none terms (joined op none terms) (joins op none terms)

  -- ---- what is said of children

  abbrev pub are_nodes : List (List ℕ) → Bool
  are_nodes = list_all (λ path. there (Node path))

  pub done_speaks : (path : List ℕ) → there (Node path) ≡ true → speaks (done path) ≡ true
  done_speaks path is = and_from _ _ is refl

  ended_speaks : (outcome : Outcome) (path : List ℕ) → there (Node path) ≡ true → speaks (ended outcome path) ≡ true
  ended_speaks outcome path is = and_from _ _ is (and_from _ _ is refl)

  each_said : (say : List ℕ → Term) → ((path : List ℕ) → there (Node path) ≡ true → speaks (say path) ≡ true)
      → (paths : List (List ℕ)) → are_nodes paths ≡ true → list_all speaks (map say paths) ≡ true
  each_said say says paths are =
      list_all-map speaks say paths ∙ list_all-weaker (λ (path : List ℕ). there (Node path)) (λ path. speaks (say path)) says paths are

  pub finished_speaks : (paths : List (List ℕ)) → are_nodes paths ≡ true → speaks (each_finished paths) ≡ true
  finished_speaks paths are = joined_speaks And true (map done paths) (each_said done done_speaks paths are)

  some_ended : (outcome : Outcome) (paths : List (List ℕ)) → are_nodes paths ≡ true
      → speaks (some (map (ended outcome) paths)) ≡ true
  some_ended outcome paths are =
      joined_speaks Or false (map (ended outcome) paths) (each_said (ended outcome) (ended_speaks outcome) paths are)

  -- ---- conditions

  pub record GivenSpeaks (given : Given) : Type 0 where
    pub start : MaySpeak given.start
    pub end : MaySpeak given.end
    pub exit : MaySpeak given.exit
    pub skip : MaySpeak given.skip
    pub repeat : MaySpeak given.repeat
    pub pre : MaySpeak given.pre
    pub post : MaySpeak given.post
    pub invariant : MaySpeak given.invariant

  pub none_speaks : GivenSpeaks none_given
  none_speaks = record { start = tt; end = tt; exit = tt; skip = tt; repeat = tt; pre = tt; post = tt; invariant = tt }

  unwrapped : (given : Option Term) (default : Term) → MaySpeak given → speaks default ≡ true
      → speaks (unwrap_or given default) ≡ true
  unwrapped = unwrapped_has (λ term. speaks term ≡ true)

  pub adds_speaks : (op : BinaryOp) (given : Option Term) (added : Term) → MaySpeak given → speaks added ≡ true
      → speaks (adds op given added) ≡ true
  adds_speaks op None added own other = other
  adds_speaks op (Some term) added own other = both_speak op term added own other

  added_speaks : (op : BinaryOp) (given added : Option Term) → MaySpeak given → MaySpeak added → MaySpeak (may_add op given added)
  added_speaks op given None own other = own
  added_speaks op given (Some added) own other = adds_speaks op given added own other

  pub sequence_speaks : (paths : List (List ℕ)) (given : Given) → are_nodes paths ≡ true → GivenSpeaks given
      → GivenSpeaks (sequence paths given)
  sequence_speaks paths given are own = record {
    start = own.start;
    end = own.end;
    exit = own.exit;
    skip = own.skip;
    repeat = own.repeat;
    pre = own.pre;
    post = own.post;
    invariant =
        adds_speaks And given.invariant (Unary Not (some (map failed paths))) own.invariant
        (some_ended outcomes.Failure paths are);
  }

  pub try_speaks : (paths : List (List ℕ)) (given : Given) → are_nodes paths ≡ true → GivenSpeaks given
      → GivenSpeaks (try paths given)
  try_speaks paths given are own = record {
    start = own.start;
    end =
        unwrapped given.end (Binary Or (some (map won paths)) (all (map done paths))) own.end
        (both_speak Or (some (map won paths)) (all (map done paths)) (some_ended outcomes.Success paths are) (finished_speaks paths are));
    exit = own.exit;
    skip = own.skip;
    repeat = own.repeat;
    pre = own.pre;
    post = adds_speaks And given.post (some (map won paths)) own.post (some_ended outcomes.Success paths are);
    invariant = own.invariant;
  }

  pub record AddedSpeaks (added : Added) : Type 0 where
    pub start : MaySpeak added.start
    pub skip : MaySpeak added.skip

  conditions_speak : (kind : Kind) (path : List ℕ) (paths : List (List ℕ)) (given : Given) (added : Added) → GivenSpeaks given
      → AddedSpeaks added → speaks (default_end kind path paths) ≡ true
      → list_all speaks (terms_of_conditions (conditions kind path paths (with_added added given))) ≡ true
  conditions_speak kind path paths given added own more end =
      let default = default_conditions kind path paths in
      and_from _ _
      (unwrapped (may_add And given.start added.start) default.start (added_speaks And given.start added.start own.start more.start) refl)
      (and_from _ _ (unwrapped given.end default.end own.end end)
      (and_from _ _ (unwrapped given.exit default.exit own.exit refl)
      (and_from _ _
      (unwrapped (may_add Or given.skip added.skip) default.skip (added_speaks Or given.skip added.skip own.skip more.skip) refl)
      (and_from _ _ (unwrapped given.repeat default.repeat own.repeat refl)
      (and_from _ _ (unwrapped given.pre default.pre own.pre refl)
      (and_from _ _ (unwrapped given.post default.post own.post refl)
      (and_from _ _ (unwrapped given.invariant default.invariant own.invariant refl) refl)))))))

  -- ---- nodes

  pub record BodySpeaks (body : BodyData) : Type 0 where
    pub terms : list_all speaks (terms_of body) ≡ true
    pub targets : list_all there (flat_map references_of_target (targets_of body)) ≡ true

  pub node_speaks : (place : Place) (kind : Kind) (paths : List (List ℕ)) (given : Given) (priority : ℕ)
      (variables : List VariableData) (body : BodyData) (above : List (List ℕ))
      → AddedSpeaks place.added → GivenSpeaks given → speaks (default_end kind place.path paths) ≡ true → BodySpeaks body
      → list_all there
      (references_of_site (site_under above (node_at place kind paths given priority variables body NoNode).head)) ≡ true
  node_speaks place kind paths given priority variables body above added own end said =
      let terms = terms_of_conditions (conditions kind place.path paths (with_added place.added given)) in
      list_all-append there (flat_map references terms)
      (flat_map references (terms_of body) ++ flat_map references_of_target (targets_of body))
      ∙ and_from _ _ (each_speaks terms (conditions_speak kind place.path paths given place.added own added end))
      (list_all-append there (flat_map references (terms_of body)) (flat_map references_of_target (targets_of body))
      ∙ and_from _ _ (each_speaks (terms_of body) said.terms) said.targets)
