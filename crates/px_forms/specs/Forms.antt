-- THE TABLE OF DERIVED FORMS, a row each: UncheckedSequence, Sequence, Try, `if`, `while` and `for`.
use Rattle.std.specs.Prelude.{ℕ, ℤ, List, [], ◌∷◌, map, Option, Some, None, unwrap_or}
use Rattle.px_value.specs.Path.{below}
use Rattle.px_value.specs.declared.comparison.CompareOp.TheVariants as compare
use Rattle.px_value.specs.declared.enums.Outcome.{Outcome}
use Rattle.px_value.specs.declared.enums.Outcome.TheVariants as outcomes
use Rattle.px_value.specs.declared.value.Value.TheVariants as values
use Rattle.px_core.specs.declared.expr.BinaryOp.TheVariants.{And, Or, Compare}
use Rattle.px_core.specs.declared.expr.UnaryOp.TheVariants.{Not, IsKnown}
use Rattle.px_core.specs.declared.node.Kind.TheVariants as kinds
use Rattle.px_core.specs.declared.variable.VarKind.TheVariants as types
use Rattle.px_core.specs.Defaults.{is_finished, default_priority}
use Rattle.px_core.specs.Expr.{Term, Literal, Var, OutcomeOf, Unary, Binary}
use Rattle.px_core.specs.Plan.{VariableData, Assign, Tree}
use Rattle.px_forms.specs.Adding.{Added, nothing, adds}
use Rattle.px_forms.specs.Conditions.{Given, none_given}
use Rattle.px_forms.specs.Joining.{all, some}
use Rattle.px_forms.specs.Names.{test_name, set_name, step_name, loop_name}
use Rattle.px_forms.specs.Nodes.{Place, Node, leaf, list, before, alone, child}

-- ---- what the rows say of a child, by its path

abbrev pub done : List ℕ → Term
done = is_finished

abbrev pub ended : Outcome → List ℕ → Term
ended outcome path =
    Binary And (done path) (Binary (Compare compare.Equal) (OutcomeOf path) (Literal (values.Outcome outcome)))

abbrev pub failed : List ℕ → Term
failed = ended outcomes.Failure

abbrev pub won : List ℕ → Term
won = ended outcomes.Success

-- ---- UncheckedSequence, Sequence and Try: what they add to the conditions of the List, and to those of its children

-- UncheckedSequence: that the child before is done adds to the Start of each child but the first
abbrev pub after : Option (List ℕ) → Added
after None = nothing
after (Some path) = record { start = Some (done path); skip = None }

-- Sequence: that no child has failed adds to the Invariant
abbrev pub sequence : List (List ℕ) → Given → Given
sequence children given = record given {
  invariant = Some (adds And given.invariant (Unary Not (some (map failed children))));
}

-- Try: the End, where none is given, is that some child has won or all are done; that some child has won adds to Post
abbrev pub try : List (List ℕ) → Given → Given
try children given = record given {
  end = Some (unwrap_or given.end (Binary Or (some (map won children)) (all (map done children))));
  post = Some (adds And given.post (some (map won children)));
}

-- ---- tests: what an `if`, a `while` and the loop of a `for` have in common; the path is that of their List

abbrev pub test_variable : VariableData
test_variable = record { name = test_name; kind = types.Boolean; size = None; init = [] }

abbrev pub test_of : List ℕ → Term
test_of path = Var path test_name

abbrev pub set_is_done : List ℕ → Term
set_is_done path = done (below path set_name)

-- the test was found true, or was not
abbrev pub found : List ℕ → Term
found path = Binary And (set_is_done path) (test_of path)

abbrev pub not_found : List ℕ → Term
not_found path = Binary And (set_is_done path) (Unary Not (test_of path))

-- A: that the test was found true adds to Start, and that it was not to Skip
abbrev pub where_found : List ℕ → Added
where_found path = record { start = Some (found path); skip = Some (not_found path) }

-- B: the same with both exchanged
abbrev pub where_not_found : List ℕ → Added
where_not_found path = record { start = Some (not_found path); skip = Some (found path) }

-- an Assignment that the text doesn't have, of a scalar of the node `owner`
abbrev pub assignment : List ℕ → List ℕ → Given → List ℕ → List ℕ → Term → Node
assignment parent name given owner variable value =
    leaf (child parent name nothing) kinds.Assignment given default_priority []
    (Assign (record { owner = owner; name = variable; index = None }) value)

-- `#set`: the Assignment `#test = isKnown(t) && t`
abbrev pub set : List ℕ → Term → Node
set path test = assignment path set_name none_given path test_name (Binary And (Unary IsKnown test) test)

-- a List that keeps a test, with these conditions and `#set` before the other children
abbrev pub tested : Place → Given → Term → List (List ℕ) → Tree → Node
tested place given test paths children =
    list place (below place.path set_name ∷ paths) given default_priority (test_variable ∷ [])
    (before (set place.path test) children)

-- ---- `if (t) A else B`: the List with `#test`, and the children `#set`, A and, where there is an else, B

abbrev pub conditional : Place → Term → List (List ℕ) → Tree → Node
conditional place = tested place none_given

-- ---- `while (t) A`: the List with Repeat `#test`, and the children `#set` and A, with others behind them in a `for`

abbrev pub repeated : Place → Term → List (List ℕ) → Tree → Node
repeated place = tested place (record none_given { repeat = Some (test_of place.path) })

-- ---- `for (Integer i = c; t; u) A`: the List with the variable i, and the child `#loop`, a List as for `while (t) A`
-- with a third child `#step`, the Assignment `i = u`

abbrev pub counter : List ℕ → ℤ → VariableData
counter name first = record { name = name; kind = types.Integer; size = None; init = values.Integer first ∷ [] }

-- the path of `#loop` in the List at a path
abbrev pub loop_path : List ℕ → List ℕ
loop_path path = below path loop_name

-- `#step`: it starts once A is done, where the test was found true, and is skipped where it was not
abbrev pub step_given : List ℕ → List ℕ → Given
step_given path body = record none_given {
  start = Some (Binary And (done body) (test_of path));
  skip = Some (not_found path);
}

abbrev pub step : List ℕ → List ℕ → List ℕ → Term → Node
step path body variable next =
    assignment (loop_path path) step_name (step_given (loop_path path) body) path variable next

abbrev pub counted : Place → List ℕ → ℤ → Term → Term → List ℕ → Node → Node
counted place variable first test next body branch =
    list place (loop_path place.path ∷ []) none_given default_priority (counter variable first ∷ [])
    (alone
    (repeated (child place.path loop_name nothing) test
    (body ∷ below (loop_path place.path) step_name ∷ [])
    (before branch (alone (step place.path body variable next)))))
