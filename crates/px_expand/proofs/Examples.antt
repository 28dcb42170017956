-- Plans with their core plans, both written by hand.
use Rattle.std.proofs.Common.{◌≡◌, refl, ℕ, pos, List, [], ◌∷◌, Option, Some, None, codes}
use Rattle.std.specs.Prelude.{true, false}
use Rattle.std.specs.Fmt.{digits}
use Rattle.px_value.specs.declared.comparison.CompareOp.TheVariants as compare
use Rattle.px_value.specs.declared.enums.Outcome.TheVariants as outcomes
use Rattle.px_value.specs.declared.enums.NodeState.TheVariants as states
use Rattle.px_value.specs.declared.value.Value.TheVariants as values
use Rattle.px_syntax.specs.declared.expr.Attribute.TheVariants as attributes
use Rattle.px_syntax.specs.declared.expr.Identifier.{Identifier}
use Rattle.px_syntax.specs.declared.expr.Literal.TheVariants as literals
use Rattle.px_syntax.specs.declared.expr.NodeReference.{NodeReference}
use Rattle.px_syntax.specs.declared.expr.NodeReference.TheVariants as nodes
use Rattle.px_syntax.specs.declared.word.BlockForm.{BlockForm}
use Rattle.px_syntax.specs.declared.word.BlockForm.TheVariants as forms
use Rattle.px_syntax.specs.declared.word.Condition.TheVariants as which
use Rattle.px_syntax.specs.declared.word.Condition.{Condition}
use Rattle.px_syntax.specs.declared.word.TypeName.TheVariants as types
use Rattle.px_syntax.specs.Block as text
use Rattle.px_syntax.specs.Expr as expr
use Rattle.px_syntax.specs.Plan.{PlanTree}
use Rattle.px_core.specs.declared.expr.BinaryOp.TheVariants as binary
use Rattle.px_core.specs.declared.expr.UnaryOp.TheVariants as unary
use Rattle.px_core.specs.declared.node.Kind.{Kind}
use Rattle.px_core.specs.declared.node.Kind.TheVariants as kinds
use Rattle.px_core.specs.declared.variable.VarKind.TheVariants as var_kinds
use Rattle.px_core.specs.Expr.{Term, Literal, Var, StateOf, OutcomeOf, HandleOf, Acknowledged, Unary, Binary}
use Rattle.px_core.specs.Joined.{joined}
use Rattle.px_core.specs.Plan as plan
use Rattle.px_core.specs.Plan.{Head, Tree, NoNode, Branch, ConditionTerms, BodyData, VariableData}
use Rattle.px_expand.specs.Core.{core}

-- ---- trees of the text

abbrev id : List ℕ → Identifier
id name = record { name = name; token = 0 }

abbrev block : BlockForm → List text.ItemData → List text.ActionTree → text.BlockTree
block form items inner = text.Braces form items (text.actions_in_turn inner)

abbrev labelled : List ℕ → text.BodyTree → text.ActionTree
labelled label body = text.Labelled (Some (id label)) body

abbrev unlabelled : text.BodyTree → text.ActionTree
unlabelled body = text.Labelled None body

abbrev the : List ℕ → text.BlockTree → PlanTree
the label root = record { declarations = []; label = Some (id label); root = root }

abbrev condition : Condition → expr.Term → text.ItemData
condition which test = text.Conditions which 0 test

abbrev variable : List ℕ → expr.Term
variable name = expr.Variable (id name)

abbrev boolean : List ℕ → text.ItemData
boolean name = text.Variables types.Boolean (record { name = id name; size = None; initial = None } ∷ [])

abbrev empty : text.BodyTree
empty = text.Inner (block forms.Plain [] [])

abbrev set_to : List ℕ → expr.Term → text.BodyTree
set_to name value = text.Assign (record { name = id name; index = None }) value

-- ---- terms and nodes of core plans

abbrev yes : Term
yes = Literal (values.Boolean true)

abbrev no : Term
no = Literal (values.Boolean false)

abbrev done : List ℕ → Term
done path = Binary (binary.Compare compare.Equal) (StateOf path) (Literal (values.State states.Finished))

abbrev failed : List ℕ → Term
failed path =
    Binary binary.And (done path)
    (Binary (binary.Compare compare.Equal) (OutcomeOf path) (Literal (values.Outcome outcomes.Failure)))

abbrev won : List ℕ → Term
won path =
    Binary binary.And (done path)
    (Binary (binary.Compare compare.Equal) (OutcomeOf path) (Literal (values.Outcome outcomes.Success)))

abbrev both : Term → Term → Term
both = Binary binary.And

abbrev either : Term → Term → Term
either = Binary binary.Or

abbrev no_not : Term → Term
no_not = Unary unary.Not

abbrev plain : Term → ConditionTerms
plain end = record {
  start = yes;
  end = end;
  exit = no;
  skip = no;
  repeat = no;
  pre = yes;
  post = yes;
  invariant = yes;
}

abbrev node : List ℕ → Kind → ConditionTerms → List VariableData → BodyData → Head
node name kind conditions variables body = record {
  name = name;
  kind = kind;
  conditions = conditions;
  priority = 100000;
  variables = variables;
  body = body;
}

abbrev scalar_boolean : List ℕ → VariableData
scalar_boolean name = record { name = name; kind = var_kinds.Boolean; size = None; init = [] }

abbrev a_test : VariableData
a_test = scalar_boolean (codes "#test")

abbrev assigns : List ℕ → List ℕ → Term → BodyData
assigns owner name value = plan.Assign (record { owner = owner; name = name; index = None }) value

-- ---- blocks

-- A: { }
an_empty_node : core (the (codes "A") (block forms.Plain [] []))
    ≡ Branch (node (codes "A") kinds.Empty (plain yes) [] plan.Nothing) NoNode NoNode
unfolding joined digits
an_empty_node = refl

-- A: { Boolean b; b = true; }
one_assignment : core (the (codes "A") (block forms.Plain (boolean (codes "b") ∷ []) (unlabelled (set_to (codes "b") (expr.Literal (literals.Boolean true) 0)) ∷ [])))
    ≡ Branch (node (codes "A") kinds.Assignment (plain yes) (scalar_boolean (codes "b") ∷ []) (assigns (codes "A") (codes "b") yes)) NoNode NoNode
unfolding joined digits
one_assignment = refl

-- A: { L: { } }, a Sequence of one
a_sequence_of_one : core (the (codes "A") (block forms.Plain [] (labelled (codes "L") empty ∷ [])))
    ≡ Branch (node (codes "A") kinds.List (record (plain (done (codes "A.L"))) { invariant = no_not (failed (codes "A.L")) }) [] plan.Nothing)
    (Branch (node (codes "L") kinds.Empty (plain yes) [] plan.Nothing) NoNode NoNode) NoNode
unfolding joined digits
a_sequence_of_one = refl

-- A: Sequence { }
an_empty_sequence : core (the (codes "A") (block forms.Sequence [] []))
    ≡ Branch (node (codes "A") kinds.List (record (plain yes) { invariant = no_not no }) [] plan.Nothing) NoNode NoNode
unfolding joined digits
an_empty_sequence = refl

-- A: Try { }
an_empty_try : core (the (codes "A") (block forms.Try [] []))
    ≡ Branch (node (codes "A") kinds.List (record (plain (either no yes)) { post = no }) [] plan.Nothing) NoNode NoNode
unfolding joined digits
an_empty_try = refl

-- ---- UncheckedSequence, Sequence and Try

abbrev g : Term
g = Var (codes "R") (codes "g")

abbrev given_g : Condition → text.ItemData
given_g which = condition which (variable (codes "g"))

abbrev empty_with : List text.ItemData → text.BodyTree
empty_with items = text.Inner (block forms.Plain items [])

abbrev empty_node : List ℕ → ConditionTerms → Tree → Tree
empty_node name conditions rest = Branch (node name kinds.Empty conditions [] plan.Nothing) NoNode rest

abbrev list_node : List ℕ → ConditionTerms → List VariableData → Tree → Tree → Tree
list_node name conditions variables children rest = Branch (node name kinds.List conditions variables plan.Nothing) children rest

-- R: UncheckedSequence { Boolean g; A: { Start g; } { Start g; } L: { } }
an_unchecked_sequence :
    core (the (codes "R") (block forms.UncheckedSequence (boolean (codes "g") ∷ [])
    (labelled (codes "A") (empty_with (given_g which.Start ∷ [])) ∷ unlabelled (empty_with (given_g which.Start ∷ [])) ∷ labelled (codes "L") empty ∷ [])))
    ≡ list_node (codes "R") (plain (both (done (codes "R.A")) (both (done (codes "R.#2")) (done (codes "R.L"))))) (scalar_boolean (codes "g") ∷ [])
    (empty_node (codes "A") (record (plain yes) { start = g })
    (empty_node (codes "#2") (record (plain yes) { start = both g (done (codes "R.A")) })
    (empty_node (codes "L") (record (plain yes) { start = done (codes "R.#2") }) NoNode))) NoNode
unfolding joined digits
an_unchecked_sequence = refl

-- R: { Boolean g; Invariant g; A: { } B: { } }
a_sequence :
    core (the (codes "R") (block forms.Plain (boolean (codes "g") ∷ given_g which.Invariant ∷ [])
    (labelled (codes "A") empty ∷ labelled (codes "B") empty ∷ [])))
    ≡ list_node (codes "R") (record (plain (both (done (codes "R.A")) (done (codes "R.B")))) { invariant = both g (no_not (either (failed (codes "R.A")) (failed (codes "R.B")))) }) (scalar_boolean (codes "g") ∷ [])
    (empty_node (codes "A") (plain yes)
    (empty_node (codes "B") (record (plain yes) { start = done (codes "R.A") }) NoNode)) NoNode
unfolding joined digits
a_sequence = refl

-- R: Try { A: { } B: { } }
a_try :
    core (the (codes "R") (block forms.Try [] (labelled (codes "A") empty ∷ labelled (codes "B") empty ∷ [])))
    ≡ list_node (codes "R")
    (record (plain (either (either (won (codes "R.A")) (won (codes "R.B"))) (both (done (codes "R.A")) (done (codes "R.B"))))) { post = either (won (codes "R.A")) (won (codes "R.B")) }) []
    (empty_node (codes "A") (plain yes)
    (empty_node (codes "B") (record (plain yes) { start = done (codes "R.A") }) NoNode)) NoNode
unfolding joined digits
a_try = refl

-- R: Try { Boolean g; End g; Post g; Invariant g; A: { } B: { } }
a_try_with_conditions :
    core (the (codes "R") (block forms.Try (boolean (codes "g") ∷ given_g which.End ∷ given_g which.Post ∷ given_g which.Invariant ∷ []) (labelled (codes "A") empty ∷ labelled (codes "B") empty ∷ [])))
    ≡ list_node (codes "R")
    (record (plain g) { post = both g (either (won (codes "R.A")) (won (codes "R.B"))); invariant = g }) (scalar_boolean (codes "g") ∷ [])
    (empty_node (codes "A") (plain yes)
    (empty_node (codes "B") (record (plain yes) { start = done (codes "R.A") }) NoNode)) NoNode
unfolding joined digits
a_try_with_conditions = refl

-- R: Concurrence { A: { } B: { } }, and R: { NodeList: A: { } B: { } }
abbrev a_plain_list : (form : BlockForm) → Type 0
a_plain_list form =
    core (the (codes "R") (block form [] (labelled (codes "A") empty ∷ labelled (codes "B") empty ∷ [])))
    ≡ list_node (codes "R") (plain (both (done (codes "R.A")) (done (codes "R.B")))) []
    (empty_node (codes "A") (plain yes) (empty_node (codes "B") (plain yes) NoNode)) NoNode

a_concurrence : a_plain_list forms.Concurrence
unfolding joined digits
a_concurrence = refl

a_node_list : a_plain_list forms.NodeList
unfolding joined digits
a_node_list = refl

-- ---- `if`

abbrev test_at : List ℕ → Term
test_at path = Var path (codes "#test")

abbrev branch_of : Option Identifier → List text.ItemData → text.BranchTree
branch_of label items = text.Branch label (block forms.Plain items [])

-- `#set`, whose path is given, of the List at another
abbrev set_node : List ℕ → Term → Tree → Tree
set_node list test rest =
    Branch (node (codes "#set") kinds.Assignment (plain yes) [] (assigns list (codes "#test") (both (Unary unary.IsKnown test) test))) NoNode rest

abbrev started : List ℕ → List ℕ → ConditionTerms
started list set = record (plain yes) { start = both (done set) (test_at list); skip = both (done set) (no_not (test_at list)) }

abbrev skipped : List ℕ → List ℕ → ConditionTerms
skipped list set = record (plain yes) { start = both (done set) (no_not (test_at list)); skip = both (done set) (test_at list) }

-- R: Concurrence { Boolean g; if (g) A: { Start g; Skip g; } else B: { } }
an_if :
    core (the (codes "R") (block forms.Concurrence (boolean (codes "g") ∷ [])
    (unlabelled (text.If (text.Guarded (variable (codes "g")) (branch_of (Some (id (codes "A"))) (given_g which.Start ∷ given_g which.Skip ∷ []))) text.NoElseIfs (text.Else (branch_of (Some (id (codes "B"))) []))) ∷ [])))
    ≡ list_node (codes "R") (plain (done (codes "R.#1"))) (scalar_boolean (codes "g") ∷ [])
    (list_node (codes "#1") (plain (both (done (codes "R.#1.#set")) (both (done (codes "R.#1.A")) (done (codes "R.#1.B"))))) (a_test ∷ [])
    (set_node (codes "R.#1") g
    (empty_node (codes "A") (record (plain yes) { start = both g (both (done (codes "R.#1.#set")) (test_at (codes "R.#1"))); skip = either g (both (done (codes "R.#1.#set")) (no_not (test_at (codes "R.#1")))) })
    (empty_node (codes "B") (skipped (codes "R.#1") (codes "R.#1.#set")) NoNode))) NoNode) NoNode
unfolding joined digits
an_if = refl

-- R: Concurrence { Boolean g; L: if (g) { } elseif (!g) { } else { } }
an_else_if :
    core (the (codes "R") (block forms.Concurrence (boolean (codes "g") ∷ [])
    (labelled (codes "L") (text.If (text.Guarded (variable (codes "g")) (branch_of None []))
    (text.ElseIf (text.Guarded (variable (codes "g")) (branch_of None [])) text.NoElseIfs) (text.Else (branch_of None []))) ∷ [])))
    ≡ list_node (codes "R") (plain (done (codes "R.L"))) (scalar_boolean (codes "g") ∷ [])
    (list_node (codes "L") (plain (both (done (codes "R.L.#set")) (both (done (codes "R.L.#then")) (done (codes "R.L.#else"))))) (a_test ∷ [])
    (set_node (codes "R.L") g
    (empty_node (codes "#then") (started (codes "R.L") (codes "R.L.#set"))
    (list_node (codes "#else") (record (skipped (codes "R.L") (codes "R.L.#set")) { end = both (done (codes "R.L.#else.#set")) (both (done (codes "R.L.#else.#then")) (done (codes "R.L.#else.#else"))) }) (a_test ∷ [])
    (set_node (codes "R.L.#else") g
    (empty_node (codes "#then") (started (codes "R.L.#else") (codes "R.L.#else.#set"))
    (empty_node (codes "#else") (skipped (codes "R.L.#else") (codes "R.L.#else.#set")) NoNode))) NoNode))) NoNode) NoNode
unfolding joined digits
an_else_if = refl

-- R: Concurrence { Boolean g; if (g) { } }
an_if_without_else :
    core (the (codes "R") (block forms.Concurrence (boolean (codes "g") ∷ [])
    (unlabelled (text.If (text.Guarded (variable (codes "g")) (branch_of None [])) text.NoElseIfs text.NoElse) ∷ [])))
    ≡ list_node (codes "R") (plain (done (codes "R.#1"))) (scalar_boolean (codes "g") ∷ [])
    (list_node (codes "#1") (plain (both (done (codes "R.#1.#set")) (done (codes "R.#1.#then")))) (a_test ∷ [])
    (set_node (codes "R.#1") g (empty_node (codes "#then") (started (codes "R.#1") (codes "R.#1.#set")) NoNode)) NoNode) NoNode
unfolding joined digits
an_if_without_else = refl

-- ---- `while` and `for`

-- R: { Boolean g; while (g) { } B: { } }, a Sequence
a_while :
    core (the (codes "R") (block forms.Plain (boolean (codes "g") ∷ [])
    (unlabelled (text.While (text.Guarded (variable (codes "g")) (branch_of None []))) ∷ labelled (codes "B") empty ∷ [])))
    ≡ list_node (codes "R") (record (plain (both (done (codes "R.#1")) (done (codes "R.B")))) { invariant = no_not (either (failed (codes "R.#1")) (failed (codes "R.B"))) }) (scalar_boolean (codes "g") ∷ [])
    (list_node (codes "#1") (record (plain (both (done (codes "R.#1.#set")) (done (codes "R.#1.#body")))) { repeat = test_at (codes "R.#1") }) (a_test ∷ [])
    (set_node (codes "R.#1") g (empty_node (codes "#body") (started (codes "R.#1") (codes "R.#1.#set")) NoNode))
    (empty_node (codes "B") (record (plain yes) { start = done (codes "R.#1") }) NoNode)) NoNode
unfolding joined digits
a_while = refl

-- R: Concurrence { F: for (Integer i = 3; i; Self) A: { Start Parent.state; } }, though no test is a number
a_for :
    core (the (codes "R") (block forms.Concurrence []
    (labelled (codes "F") (text.For (id (codes "i")) (pos 3) (variable (codes "i")) (expr.Attribute (nodes.Child 0 (id (codes "A"))) attributes.State)
    (branch_of (Some (id (codes "A"))) (condition which.Start (expr.Attribute (nodes.Parent 0) attributes.State) ∷ []))) ∷ [])))
    ≡ list_node (codes "R") (plain (done (codes "R.F"))) []
    (list_node (codes "F") (plain (done (codes "R.F.#loop"))) (record { name = codes "i"; kind = var_kinds.Integer; size = None; init = values.Integer (pos 3) ∷ [] } ∷ [])
    (list_node (codes "#loop") (record (plain (both (done (codes "R.F.#loop.#set")) (both (done (codes "R.F.#loop.A")) (done (codes "R.F.#loop.#step"))))) { repeat = test_at (codes "R.F.#loop") }) (a_test ∷ [])
    (set_node (codes "R.F.#loop") (Var (codes "R.F") (codes "i"))
    (empty_node (codes "A") (record (plain yes) { start = both (StateOf (codes "R.F")) (both (done (codes "R.F.#loop.#set")) (test_at (codes "R.F.#loop"))); skip = both (done (codes "R.F.#loop.#set")) (no_not (test_at (codes "R.F.#loop"))) })
    (Branch (node (codes "#step") kinds.Assignment (record (plain yes) { start = both (done (codes "R.F.#loop.A")) (test_at (codes "R.F.#loop")); skip = both (done (codes "R.F.#loop.#set")) (no_not (test_at (codes "R.F.#loop"))) }) []
    (assigns (codes "R.F") (codes "i") (StateOf (codes "R.F.#loop.A")))) NoNode NoNode))) NoNode) NoNode) NoNode
unfolding joined digits
a_for = refl

-- ---- names of nodes

-- the Start of the first child of the first child
abbrev inner_start : Tree → Term
inner_start (Branch root (Branch outer (Branch inner children rest) others) more) = inner.conditions.start
inner_start tree = no

-- R: Concurrence { N: Concurrence { X: { Start NODE.state; } Y: { } } Y: { } }
abbrev start_at : NodeReference → Term
start_at node =
    inner_start
    (core
    (the (codes "R")
    (block forms.Concurrence []
    (labelled (codes "N")
    (text.Inner
    (block forms.Concurrence []
    (labelled (codes "X") (empty_with (condition which.Start (expr.Attribute node attributes.State) ∷ []))
    ∷ labelled (codes "Y") empty ∷ [])))
    ∷ labelled (codes "Y") empty ∷ []))))

a_child_of_the_parent_is_nearest : start_at (nodes.Named (id (codes "Y"))) ≡ StateOf (codes "R.N.Y")
unfolding joined digits
a_child_of_the_parent_is_nearest = refl

an_ancestor : start_at (nodes.Named (id (codes "R"))) ≡ StateOf (codes "R")
unfolding joined digits
an_ancestor = refl

itself_by_name : start_at (nodes.Named (id (codes "X"))) ≡ StateOf (codes "R.N.X")
unfolding joined digits
itself_by_name = refl

itself : start_at (nodes.SelfNode 0) ≡ StateOf (codes "R.N.X")
unfolding joined digits
itself = refl

the_parent : start_at (nodes.Parent 0) ≡ StateOf (codes "R.N")
unfolding joined digits
the_parent = refl

a_sibling : start_at (nodes.Sibling 0 (id (codes "Y"))) ≡ StateOf (codes "R.N.Y")
unfolding joined digits
a_sibling = refl

-- ---- names of variables, commands and updates

-- R: Concurrence { Integer x; Priority 7; { Integer x = 5; x = Drive(x); } U: Update a = x; }
a_command_with_a_result :
    core
    (the (codes "R")
    (block forms.Concurrence
    (text.Variables types.Integer (record { name = id (codes "x"); size = None; initial = None } ∷ [])
    ∷ text.Priority 0 7 ∷ [])
    (unlabelled
    (text.Inner
    (block forms.Plain
    (text.Variables types.Integer
    (record {
      name = id (codes "x");
      size = None;
      initial = Some (text.Value (literals.Integer (pos 5)) 0);
    }
    ∷ [])
    ∷ [])
    (unlabelled
    (text.CallInto (record { name = id (codes "x"); index = None })
    (record { name = id (codes "Drive"); args = expr.More (variable (codes "x")) expr.NoTerms }))
    ∷ [])))
    ∷ labelled (codes "U") (text.Update 0 (record { name = id (codes "a"); value = variable (codes "x") } ∷ [])) ∷ [])))
    ≡ Branch
    (record {
      name = codes "R";
      kind = kinds.List;
      conditions = plain (both (done (codes "R.#1")) (done (codes "R.U")));
      priority = 7;
      variables = record { name = codes "x"; kind = var_kinds.Integer; size = None; init = [] } ∷ [];
      body = plan.Nothing;
    })
    (Branch
    (node (codes "#1") kinds.Command (plain (Unary unary.IsKnown (HandleOf (codes "R.#1"))))
    (record { name = codes "x"; kind = var_kinds.Integer; size = None; init = values.Integer (pos 5) ∷ [] } ∷ [])
    (plan.Command (codes "Drive") (Var (codes "R.#1") (codes "x") ∷ [])
    (Some (record { owner = codes "R.#1"; name = codes "x"; index = None }))))
    NoNode
    (Branch
    (node (codes "U") kinds.Update (plain (Acknowledged (codes "R.U"))) []
    (plan.Update (record { name = codes "a"; value = Var (codes "R") (codes "x") } ∷ [])))
    NoNode NoNode))
    NoNode
unfolding joined digits
a_command_with_a_result = refl
