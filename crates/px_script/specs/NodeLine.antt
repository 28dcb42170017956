-- The lines that tell of a node: `handle PATH HANDLE`, `return PATH VALUE`, `abort PATH` and `ack PATH`.
use Rattle.std.specs.Prelude.{ℕ, Bool, not, ◌&&◌, List, [], ◌∷◌, Option, Some, None, if◌then◌else◌}
use Rattle.std.specs.List.{find}
use Rattle.std.specs.Option.{option_map}
use Rattle.px_value.specs.Path.{is_path}
use Rattle.px_value.specs.Enums.{handle_word}
use Rattle.px_value.specs.declared.enums.Handle.{Handle}
use Rattle.px_value.specs.declared.enums.Handle.TheVariants as handles
use Rattle.px_value.specs.declared.value.Value.{Value}
use Rattle.px_core.specs.declared.node.Kind.{Kind}
use Rattle.px_core.specs.declared.node.Kind.TheVariants as kinds
use Rattle.px_core.specs.Plan.{Site, is_same}
use Rattle.px_event.specs.declared.event.Event.TheVariants as events
use Rattle.px_script.specs.Text.{first_word, behind_word, is_nothing}
use Rattle.px_script.specs.Value.{value_of}
use Rattle.px_script.specs.declared.fault.FaultKind.TheVariants.{BadNode, BadValue}
use Rattle.px_script.specs.declared.parsed_line.ParsedLine.{ParsedLine}
use Rattle.px_script.specs.declared.parsed_line.ParsedLine.TheVariants.{Posts, Faulty}

-- the kind of the first node with this path
abbrev pub found_kind : List Site → List ℕ → Option Kind
found_kind plan path = option_map (λ site. site.head.kind) (find (λ site. is_same path site.path) plan)

-- the kind of the node at a path, where the plan has one there
abbrev pub kind_at : List Site → List ℕ → Option Kind
kind_at plan path = if is_path path then found_kind plan path else None

-- what is said of a Command, of an Update; of another node, or of none, the line is at fault
abbrev pub of_command : Option Kind → ParsedLine → ParsedLine
of_command (Some kinds.Command) says = says
of_command kind says = Faulty BadNode

abbrev pub of_update : Option Kind → ParsedLine → ParsedLine
of_update (Some kinds.Update) says = says
of_update kind says = Faulty BadNode

-- the handle that a word names
abbrev pub all_handles : List Handle
all_handles =
    handles.CommandSentToSystem
    ∷ handles.CommandAccepted
    ∷ handles.CommandRcvdBySystem
    ∷ handles.CommandFailed
    ∷ handles.CommandDenied
    ∷ handles.CommandSuccess
    ∷ []

unfoldable pub handle_of : List ℕ → Option Handle
handle_of word = find (λ handle. is_same (handle_word handle) word) all_handles

-- `PATH HANDLE`
abbrev pub handle_line : List Site → List ℕ → Option ParsedLine
handle_line plan text =
    option_map
    (λ handle. of_command (kind_at plan (first_word text)) (Posts (events.Handle (first_word text) handle)))
    (handle_of (behind_word text))

-- what a node's command returned; where the VALUE is none, the line is at fault
abbrev pub returned : List ℕ → Option Value → ParsedLine
returned node None = Faulty BadValue
returned node (Some value) = Posts (events.Return node value)

-- `PATH VALUE`, the VALUE up to the end
abbrev pub return_line : List Site → List ℕ → Option ParsedLine
return_line plan text =
    if is_nothing (behind_word text) then None
    else Some (of_command (kind_at plan (first_word text)) (returned (first_word text) (value_of (behind_word text))))

abbrev pub is_one_word : List ℕ → Bool
is_one_word text = not (is_nothing text) && is_nothing (behind_word text)

-- `PATH`
abbrev pub abort_line : List Site → List ℕ → Option ParsedLine
abort_line plan text =
    if is_one_word text
    then Some (of_command (kind_at plan (first_word text)) (Posts (events.AbortDone (first_word text))))
    else None

abbrev pub ack_line : List Site → List ℕ → Option ParsedLine
ack_line plan text =
    if is_one_word text
    then Some (of_update (kind_at plan (first_word text)) (Posts (events.Acknowledged (first_word text))))
    else None
