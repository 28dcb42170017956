-- The lines that wait: `wait state PATH STATE` and `wait events N`.
use Rattle.std.specs.Prelude.{ℕ, ◌&&◌, nat_le, List, [], ◌∷◌, length, Option, Some, None, codes, if◌then◌else◌}
use Rattle.std.specs.List.{find}
use Rattle.std.specs.Option.{option_map, option_and_then}
use Rattle.std.specs.Str.Parse.{digits_value}
use Rattle.px_value.specs.Enums.{state_word}
use Rattle.px_value.specs.declared.enums.NodeState.{NodeState}
use Rattle.px_value.specs.declared.enums.NodeState.TheVariants as states
use Rattle.px_lex.specs.Table.{row_of}
use Rattle.px_core.specs.declared.node.Kind.{Kind}
use Rattle.px_core.specs.Plan.{Site, is_same}
use Rattle.px_event.specs.declared.cond.Cond.TheVariants.{State, Events}
use Rattle.px_script.specs.NodeLine.{kind_at}
use Rattle.px_script.specs.Text.{first_word, behind_word}
use Rattle.px_script.specs.ThreadLine.{are_digits}
use Rattle.px_script.specs.declared.fault.FaultKind.TheVariants.{BadNode}
use Rattle.px_script.specs.declared.parsed_line.ParsedLine.{ParsedLine}
use Rattle.px_script.specs.declared.parsed_line.ParsedLine.TheVariants.{Waits, Faulty}

-- the state that a word names
abbrev pub all_states : List NodeState
all_states =
    states.Inactive
    ∷ states.Waiting
    ∷ states.Executing
    ∷ states.Finishing
    ∷ states.IterationEnded
    ∷ states.Failing
    ∷ states.Finished
    ∷ []

unfoldable pub state_of : List ℕ → Option NodeState
state_of word = find (λ state. is_same (state_word state) word) all_states

-- what is said of a node of any kind; where there is none, the line is at fault
abbrev pub of_node : Option Kind → ParsedLine → ParsedLine
of_node (Some kind) says = says
of_node None says = Faulty BadNode

-- `PATH STATE`: until the node has this state
abbrev pub state_wait : List Site → List ℕ → Option ParsedLine
state_wait plan text =
    option_map
    (λ state. of_node (kind_at plan (first_word text)) (Waits (State (first_word text) state)))
    (state_of (behind_word text))

-- `N`, 1 to 6 digits: until the history has so many events
abbrev pub events_wait : List ℕ → Option ParsedLine
events_wait text =
    if are_digits text && nat_le (length text) 6 then Some (Waits (Events (digits_value 10 text))) else None

-- the word with which a wait begins, and what one says by the text behind it
abbrev pub waits : List Site → List (List ℕ × (List ℕ → Option ParsedLine))
waits plan = (codes "state", state_wait plan) ∷ (codes "events", events_wait) ∷ []

abbrev pub wait_line : List Site → List ℕ → Option ParsedLine
wait_line plan text = option_and_then (λ wait. wait (behind_word text)) (row_of (waits plan) (first_word text))
