-- The names that the text doesn't have.
use Rattle.std.specs.Prelude.{ℕ, List, codes}
use Rattle.px_value.specs.Name.{generated_name}
use Rattle.px_forms.specs.declared.names.Generated.{Generated}
use Rattle.px_forms.specs.declared.names.Generated.TheVariants as which

-- ---- without a label

-- a root
abbrev pub root_name : List ℕ
root_name = generated_name 1

-- the action with this place in its block, counted from 1
abbrev pub action_name : ℕ → List ℕ
action_name = generated_name

-- a branch of an `if`, of a loop, and after `else`
abbrev pub then_name : List ℕ
then_name = codes "#then"

abbrev pub body_name : List ℕ
body_name = codes "#body"

abbrev pub else_name : List ℕ
else_name = codes "#else"

-- ---- what the text doesn't have: the variable that a test is kept in, and the nodes of loops and tests

abbrev pub test_name : List ℕ
test_name = codes "#test"

abbrev pub set_name : List ℕ
set_name = codes "#set"

abbrev pub step_name : List ℕ
step_name = codes "#step"

abbrev pub loop_name : List ℕ
loop_name = codes "#loop"

-- each of these names
abbrev pub generated : Generated → List ℕ
generated (which.Action place) = action_name place
generated which.Then = then_name
generated which.Body = body_name
generated which.Else = else_name
generated which.Test = test_name
generated which.Set = set_name
generated which.Step = step_name
generated which.Loop = loop_name
