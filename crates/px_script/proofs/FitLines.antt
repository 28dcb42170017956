-- What a line says is fit.
use Rattle.std.proofs.Common.{rules, ◌≡◌, ℕ, zero, suc, ◌≤◌, Bool, true, List, [], ◌∷◌, length, map, refl, arith, Option, Some, None, cond}
use Rattle.std.specs.Prelude.{◌&&◌, ◌==◌, nat_le, codes, IfSome, ⊤}
use Rattle.std.specs.List.{list_all, AllByRecursion}
use Rattle.std.specs.Option.{option_map, option_and_then, option_or}
use Rattle.std.specs.Str.{is_utf8}
use Rattle.std.specs.Str.Parse.{digits_value}
use Rattle.std.proofs.lemmas.Bool.{le-leb, and_from, cases_Bool, cond_both}
use Rattle.std.proofs.lemmas.List.Elements.{All-from_recursion}
use Rattle.std.proofs.lemmas.Map.Entries.{All-lookup}
use Rattle.std.proofs.lemmas.Option.{IfSome_then, MatchOption-at_some}
use Rattle.px_value.specs.Path.{is_path}
use Rattle.px_value.specs.declared.value.Value.{Value}
use Rattle.px_value.specs.declared.value.Value.TheVariants as values
use Rattle.px_value.proofs.General.{IfSome-map, IfSome-and_then, unwrapped_has}
use Rattle.px_lex.specs.Table.{row_of}
use Rattle.px_core.specs.declared.node.Kind.{Kind}
use Rattle.px_core.specs.declared.node.Kind.TheVariants as kinds
use Rattle.px_core.specs.Plan.{Site, is_same}
use Rattle.px_event.specs.Fit.{is_report_name, is_interface, is_fit_event}
use Rattle.px_event.specs.Values.{is_plain, is_plain_or_unknown}
use Rattle.px_event.proofs.ToldValues.{plain_known}
use Rattle.px_event.specs.declared.cond.Cond.TheVariants.{State}
use Rattle.px_event.specs.declared.event.Event.TheVariants as events
use Rattle.px_script.specs.NodeLine.{kind_at, of_command, of_update, handle_of, handle_line, returned, return_line, is_one_word, abort_line, ack_line}
use Rattle.px_script.specs.ParsedLine.{lines, said_in_text, said, is_silent, parsed_line}
use Rattle.px_script.specs.Place.{in_place, behind_place}
use Rattle.px_script.specs.SetLine.{Setting, told_in, with_argument, arguments_from, arguments_in, setting_with, setting_of, all_values, report, setting_says, set_line}
use Rattle.px_script.specs.Text.{content, first_word, behind_word, is_nothing}
use Rattle.px_script.specs.ThreadLine.{are_digits, is_thread, thread_named, thread_line}
use Rattle.px_script.specs.Value.{plain, all_of, argument_of, value_of}
use Rattle.px_script.specs.WaitLine.{of_node, state_of, state_wait, events_wait, waits, wait_line}
use Rattle.px_script.specs.declared.fault.FaultKind.TheVariants.{BadLine}
use Rattle.px_script.specs.declared.parsed_line.ParsedLine.{ParsedLine}
use Rattle.px_script.specs.declared.parsed_line.ParsedLine.TheVariants.{Nothing, Posts, Waits, Thread, Faulty}

-- ---- what is said of an option's value

of_cond : {X : Type 0} (P : X → Type 0) (b : Bool) (o p : Option X) → IfSome o P → IfSome p P → IfSome (cond b o p) P
of_cond P b o p left right = cond_both b o p (λ found. IfSome found P) (λ _. left) (λ _. right)

of_or : {X : Type 0} (P : X → Type 0) (o p : Option X) → IfSome o P → IfSome p P → IfSome (option_or o p) P
of_or P None p left right = right
of_or P (Some x) p left right = left

-- ---- values

abbrev IsPlain : Value → Type 0
IsPlain value = is_plain value ≡ true

abbrev IsTold : Value → Type 0
IsTold value = is_plain_or_unknown value ≡ true

plain_fit : (value : Value) → IfSome (plain value) IsPlain
plain_fit value = search (rules, cases_Bool)

all_fit_text : (read : Option (List ℕ × List ℕ)) → IfSome (all_of read) IsPlain
all_fit_text None = tt
all_fit_text (Some (content, [])) = plain_fit (values.Text content)
all_fit_text (Some (content, c ∷ cs)) = tt

argument_fit : (spelling : List ℕ) → IfSome (argument_of spelling) IsPlain
argument_fit spelling =
    search (rules, of_or, of_cond, plain_fit, all_fit_text)

told_fit : (o : Option Value) → IfSome o IsPlain → IfSome o IsTold
told_fit o is = IfSome_then o is (λ value plain. (plain_known value plain).0)

value_fit : (spelling : List ℕ) → IfSome (value_of spelling) IsTold
value_fit spelling =
    of_or IsTold _ _ (of_cond IsTold (is_same (codes "UNKNOWN") spelling) _ _ refl tt) (told_fit (argument_of spelling) (argument_fit spelling))

-- ---- set lines

-- plain arguments, at most so many
record AreFew (most : ℕ) (args : List Value) : Type 0 where
  plain : list_all is_plain args ≡ true
  few : length args ≤ most

one_more : (value : Value) (most : ℕ) (o : Option (List Value)) → IsPlain value → IfSome o (AreFew most) → IfSome (option_map (λ values. value ∷ values) o) (AreFew (suc most))
one_more value most None is few = tt
one_more value most (Some args) is few =
    record { plain = and_from (is_plain value) (list_all is_plain args) is few.plain; few = omega (arith, few.few) }

arguments_fit : (places : List (List ℕ)) → IfSome (all_values (map argument_of places)) (AreFew (length places))
arguments_fit [] = record { plain = refl; few = omega arith }
arguments_fit (place ∷ places) = by (argument_of place) (argument_fit place) (arguments_fit places)
  where
    by : (o : Option Value) → IfSome o IsPlain → IfSome (all_values (map argument_of places)) (AreFew (length places))
        → IfSome (all_values (o ∷ map argument_of places)) (AreFew (suc (length places)))
    by None is few = tt
    by (Some value) is few = one_more value (length places) (all_values (map argument_of places)) is few

abbrev IsFew : ℕ → List (List ℕ) × List ℕ → Type 0
IsFew most read = length read.0 ≤ most

few_more : (arg : List ℕ) (most : ℕ) (o : Option (List (List ℕ) × List ℕ)) → IfSome o (IsFew most) → IfSome (option_map (with_argument arg) o) (IsFew (suc most))
few_more arg most None few = tt
few_more arg most (Some read) few = omega (arith, few)

few_from : (arg : List ℕ) (most : ℕ) (more : List ℕ → Option (List (List ℕ) × List ℕ)) (text : List ℕ) → ((text : List ℕ) → IfSome (more text) (IsFew most))
    → IfSome (arguments_from arg more text) (IsFew (suc most))
few_from arg most more [] each = tt
few_from arg most more (c ∷ cs) each =
    of_cond (IsFew (suc most)) (c == 44) _ _ (few_more arg most (more cs) (each cs))
    (of_cond (IsFew (suc most)) (c == 41) (Some (arg ∷ [], cs)) None (omega arith) tt)

few_in : (most : ℕ) (text : List ℕ) → IfSome (arguments_in most text) (IsFew most)
few_in zero text = tt
few_in (suc most) text = few_from (in_place text) most (arguments_in most) (behind_place text) (few_in most)

abbrev HasFew : Setting → Type 0
HasFew setting = length setting.args ≤ 8

with_few : (name : List ℕ) (read : List (List ℕ) × List ℕ) → IsFew 8 read → IfSome (setting_with name read) HasFew
with_few name (args, behind) few =
    of_cond HasFew (is_nothing (in_place behind)) _ _ (IfSome-map HasFew _ (told_in (behind_place behind)) (λ value is. few)) tt

called_few : (name : List ℕ) (o : Option (List ℕ)) → IfSome (option_and_then (setting_with name) (option_and_then (arguments_in 8) o)) HasFew
called_few name None = tt
called_few name (Some text) =
    IfSome-and_then HasFew (setting_with name) (arguments_in 8 text) (λ read is. with_few name read (MatchOption-at_some ⊤ (IsFew 8) read is (few_in 8 text)))

setting_few : (text : List ℕ) → IfSome (setting_of text) HasFew
setting_few text =
    search (rules, of_or, IfSome-map, called_few)

-- what a line posts is fit, and what it names is a thread, by a name if there is one
abbrev pub IsFitParsedLine : ParsedLine → Type 0
IsFitParsedLine Nothing = Unit {0}
IsFitParsedLine (Posts event) = is_fit_event event ≡ true
IsFitParsedLine (Waits cond) = Unit {0}
IsFitParsedLine (Thread number name) = (is_thread number ≡ true) × (is_interface name ≡ true)
IsFitParsedLine (Faulty kind) = Unit {0}

report_fit : (name : List ℕ) (most : ℕ) (args : Option (List Value)) (value : Option Value) → is_report_name name ≡ true → most ≤ 8
    → IfSome args (AreFew most) → IfSome value IsTold → IsFitParsedLine (report name args value)
report_fit name most None value named small few told = tt
report_fit name most (Some args) None named small few told = tt
report_fit name most (Some args) (Some value) named small few told =
    search (rules, le-leb, and_from)

says_fit : (setting : Setting) → HasFew setting → IfSome (setting_says setting) IsFitParsedLine
says_fit setting few =
    cond_both (is_report_name setting.name) (Some (report setting.name (all_values (map argument_of setting.args)) (value_of setting.value))) None
    (λ says. IfSome says IsFitParsedLine)
    (λ named. report_fit setting.name (length setting.args) (all_values (map argument_of setting.args)) (value_of setting.value) named few
    (arguments_fit setting.args) (value_fit setting.value)) (λ _. tt)

set_fit : (text : List ℕ) → IfSome (set_line text) IsFitParsedLine
set_fit text =
    IfSome-and_then IsFitParsedLine setting_says (setting_of text) (λ setting is. says_fit setting (MatchOption-at_some ⊤ HasFew setting is (setting_few text)))

-- ---- lines that tell of a node

command_fit : (plan : List Site) (path : List ℕ) (says : ParsedLine) → (is_path path ≡ true → IsFitParsedLine says) → IsFitParsedLine (of_command (kind_at plan path) says)
command_fit plan path says fit = search (rules, cases_Bool)

update_fit : (plan : List Site) (path : List ℕ) (says : ParsedLine) → (is_path path ≡ true → IsFitParsedLine says) → IsFitParsedLine (of_update (kind_at plan path) says)
update_fit plan path says fit = search (rules, cases_Bool)

returned_fit : (path : List ℕ) (value : Option Value) → IfSome value IsTold → is_path path ≡ true → IsFitParsedLine (returned path value)
returned_fit path None told is = tt
returned_fit path (Some value) told is = and_from (is_path path) (is_plain_or_unknown value) is told

handle_fit : (plan : List Site) (text : List ℕ) → IfSome (handle_line plan text) IsFitParsedLine
handle_fit plan text =
    IfSome-map IsFitParsedLine _ (handle_of (behind_word text)) (λ handle is.
    command_fit plan (first_word text) (Posts (events.Handle (first_word text) handle)) (λ path. path))

return_fit : (plan : List Site) (text : List ℕ) → IfSome (return_line plan text) IsFitParsedLine
return_fit plan text =
    of_cond IsFitParsedLine (is_nothing (behind_word text)) _ _ tt
    (command_fit plan (first_word text) (returned (first_word text) (value_of (behind_word text))) (returned_fit (first_word text) (value_of (behind_word text)) (value_fit (behind_word text))))

abort_fit : (plan : List Site) (text : List ℕ) → IfSome (abort_line plan text) IsFitParsedLine
abort_fit plan text =
    of_cond IsFitParsedLine (is_one_word text) _ _ (command_fit plan (first_word text) (Posts (events.AbortDone (first_word text))) (λ is. is)) tt

ack_fit : (plan : List Site) (text : List ℕ) → IfSome (ack_line plan text) IsFitParsedLine
ack_fit plan text =
    of_cond IsFitParsedLine (is_one_word text) _ _ (update_fit plan (first_word text) (Posts (events.Acknowledged (first_word text))) (λ is. is)) tt

-- ---- lines that wait, or name a thread

-- a line says what is fit, whatever the text
abbrev SaysFit : (List ℕ → Option ParsedLine) → Type 0
SaysFit line = (text : List ℕ) → IfSome (line text) IsFitParsedLine

-- so does each row of a table of lines
abbrev AllRows : List (List ℕ × (List ℕ → Option ParsedLine)) → Type 0
AllRows rows = AllByRecursion (λ row. SaysFit row.1) rows

row_fit : (rows : List (List ℕ × (List ℕ → Option ParsedLine))) (word text : List ℕ) → AllRows rows
    → IfSome (option_and_then (λ line. line text) (row_of rows word)) IsFitParsedLine
row_fit rows word text all =
    let each = All-from_recursion (λ (row : List ℕ × (List ℕ → Option ParsedLine)). SaysFit row.1) rows all in
    let found = All-lookup SaysFit (λ spelling. is_same spelling word) rows each in
    IfSome-and_then IsFitParsedLine (λ line. line text) (row_of rows word) (λ line is. MatchOption-at_some ⊤ SaysFit line is found text)

node_fit : (kind : Option Kind) (says : ParsedLine) → IsFitParsedLine says → IsFitParsedLine (of_node kind says)
node_fit None says fit = tt
node_fit (Some kind) says fit = fit

state_fit : (plan : List Site) (text : List ℕ) → IfSome (state_wait plan text) IsFitParsedLine
state_fit plan text =
    IfSome-map IsFitParsedLine _ (state_of (behind_word text)) (λ state is.
    node_fit (kind_at plan (first_word text)) (Waits (State (first_word text) state)) tt)

events_fit : (text : List ℕ) → IfSome (events_wait text) IsFitParsedLine
events_fit text = of_cond IsFitParsedLine (are_digits text && nat_le (length text) 6) _ _ tt tt

wait_fit : (plan : List Site) (text : List ℕ) → IfSome (wait_line plan text) IsFitParsedLine
wait_fit plan text = row_fit (waits plan) (first_word text) (behind_word text) (state_fit plan, (events_fit, tt))

word_fit : (number : ℕ) (word : List ℕ) → is_thread number ≡ true
    → IfSome (cond (is_nothing word) (Some (Thread number None)) (cond (is_report_name word) (Some (Thread number (Some word))) None)) IsFitParsedLine
word_fit number word is = search (rules, cases_Bool, of_cond)

named_fit : (number : ℕ) (word : List ℕ) → IfSome (thread_named number word) IsFitParsedLine
named_fit number word = search (rules, cases_Bool, word_fit)

thread_fit : (text : List ℕ) → IfSome (thread_line text) IsFitParsedLine
thread_fit text =
    of_cond IsFitParsedLine (are_digits (first_word text) && is_nothing (behind_word (behind_word text))) _ _
    (named_fit (digits_value 10 (first_word text)) (first_word (behind_word text))) tt

-- ---- what a line says

text_fit : (plan : List Site) (text : List ℕ) → IfSome (said_in_text plan text) IsFitParsedLine
text_fit plan text =
    row_fit (lines plan) (first_word text) (behind_word text) (set_fit, (handle_fit plan, (return_fit plan, (abort_fit plan, (ack_fit plan, (wait_fit plan, tt))))))

said_fit : (plan : List Site) (line : List ℕ) → IfSome (said plan line) IsFitParsedLine
said_fit plan line =
    of_cond IsFitParsedLine (is_same (codes "thread") (first_word line)) _ _ (thread_fit (behind_word line))
    (of_cond IsFitParsedLine (is_utf8 line) _ _ (text_fit plan line) tt)

pub parsed_line_fit : (plan : List Site) (line : List ℕ) → IsFitParsedLine (parsed_line plan line)
parsed_line_fit plan line =
    cond_both (is_silent (content line)) _ _ IsFitParsedLine (λ _. tt) (λ _.
    unwrapped_has IsFitParsedLine (said plan (content line)) (Faulty BadLine) (said_fit plan (content line)) tt)

abbrev pub AllFit : List ParsedLine → Type 0
AllFit says = AllByRecursion IsFitParsedLine says

pub all_fit : (plan : List Site) (lines : List (List ℕ)) → AllFit (map (parsed_line plan) lines)
all_fit plan [] = tt
all_fit plan (line ∷ lines) = (parsed_line_fit plan line, all_fit plan lines)
