-- What is read is fit.
use Rattle.std.proofs.Common.{rules, ◌≡◌, ℕ, ◌+◌, ◌^◌, ◌<◌, ◌≤◌, true, List, [], ◌∷◌, ◌++◌, length, map, refl, sym, ap, ◌∙◌, arith, Option, Some, None, Result, IfOk, cond, inl, inr}
use Rattle.std.specs.Prelude.{◌==◌, nat_le, nat_lt, IfSome}
use Rattle.std.specs.List.{list_all, filter, filter_map, cons_option, range_with_len}
use Rattle.std.proofs.lemmas.List.{append_assoc, append-nil, length-map, length_push}
use Rattle.std.proofs.lemmas.Bool.{lt-ltb, leb-false, ltb-true, and_from, eqb-true, cases_Bool}
use Rattle.std.proofs.lemmas.List.Elements.{filter_map-append}
use Rattle.std.proofs.lemmas.Result.{IfOk-weaker}
use Rattle.px_value.proofs.General.{list_all-filter, neither, none_from}
use Rattle.px_core.specs.Plan.{Site}
use Rattle.px_event.specs.Fit.{is_report_name}
use Rattle.px_script.specs.declared.fault.FaultKind.{FaultKind}
use Rattle.px_script.specs.Fit.{rise_above, is_fit_line, are_fit_lines, IsFitScript}
use Rattle.px_script.specs.ParsedLine.{parsed_line}
use Rattle.px_script.specs.Remainder.{has_a_line}
use Rattle.px_script.specs.Script.{Threads, Said, said_from, thread_behind, done_at, lines_of_thread, lines_before, fault_in, names_given, by_faults, todo_of, threads_of, names_of, reading, script}
use Rattle.px_script.specs.Text.{lines_of}
use Rattle.px_script.specs.ThreadLine.{is_thread}
use Rattle.px_script.specs.declared.line.Line.{Line}
use Rattle.px_script.specs.declared.script.Script.{Script}
use Rattle.px_script.specs.declared.todo.Todo.{Todo}
use Rattle.px_script.specs.declared.parsed_line.ParsedLine.{ParsedLine}
use Rattle.px_script.specs.declared.parsed_line.ParsedLine.TheVariants.{Nothing, Posts, Waits, Thread, Faulty}
use Rattle.px_script.proofs.FitLines.{IsFitParsedLine, AllFit, all_fit}
use Rattle.px_script.proofs.FirstNames.{given_all, first_all, first_are_names}
use Rattle.px_script.proofs.Reading.{fault_after}
use Rattle.px_script.proofs.Remainders.{rise-filter, fit_from}
use Rattle.px_script.proofs.SaidLines.{say, done_number, AllBelow, below_said, said_later, count_is, lines_push}
use Rattle.px_script.proofs.Texts.{few_lines}

abbrev number_of : Line → ℕ
number_of line = line.number

-- ---- the numbers of a thread's lines rise

rise : (of low thread number : ℕ) (more : List ParsedLine) → low < number → rise_above low (map number_of (lines_of_thread of (said_from thread number more))) ≡ true
rise of low thread number [] above = refl
rise of low thread number (says ∷ more) above = elim (cases_Bool (thread == of)) [
  | inl is ↦ rw is (by (λ low above. rise of low (thread_behind thread says) (number + 1) more above) (done_at (say thread number says)) (done_number thread number says))
  | inr isnt ↦ rw isnt (rise of low (thread_behind thread says) (number + 1) more (omega arith))
]
  where
    lines : List Line
    lines = lines_of_thread of (said_from (thread_behind thread says) (number + 1) more)

    by : ((low : ℕ) → low < number + 1 → rise_above low (map number_of lines) ≡ true) → (done : Option Line) → IfSome done (λ (line : Line). line.number ≡ number)
        → rise_above low (map number_of (cons_option done lines)) ≡ true
    by later None is = later low (omega arith)
    by later (Some line) is =
        and_from (nat_lt low line.number) (rise_above line.number (map number_of lines)) (lt-ltb low line.number (omega arith))
        (later line.number (omega arith))

-- ---- each of them is fit

done_fit : (thread number : ℕ) (says : ParsedLine) → number < 2 ^ 32 → IsFitParsedLine says → IfSome (done_at (say thread number says)) (λ line. is_fit_line line ≡ true)
done_fit thread number Nothing below fit = tt
done_fit thread number (Posts event) below fit = rw (lt-ltb number (2 ^ 32) below, fit) refl
done_fit thread number (Waits cond) below fit = rw (lt-ltb number (2 ^ 32) below) refl
done_fit thread number (Thread to name) below fit = tt
done_fit thread number (Faulty kind) below fit = tt

each_fit : (of thread number : ℕ) (more : List ParsedLine) → number + length more ≤ 2 ^ 32 → AllFit more
    → list_all is_fit_line (lines_of_thread of (said_from thread number more)) ≡ true
each_fit of thread number [] few fit = refl
each_fit of thread number (says ∷ more) few fit = elim (cases_Bool (thread == of)) [
  | inl is ↦ rw is
      (by (each_fit of (thread_behind thread says) (number + 1) more (omega arith) fit.1) (done_at (say thread number says))
      (done_fit thread number says (omega arith) fit.0))
  | inr isnt ↦ rw isnt (each_fit of (thread_behind thread says) (number + 1) more (omega arith) fit.1)
]
  where
    lines : List Line
    lines = lines_of_thread of (said_from (thread_behind thread says) (number + 1) more)

    by : list_all is_fit_line lines ≡ true → (done : Option Line) → IfSome done (λ line. is_fit_line line ≡ true) → list_all is_fit_line (cons_option done lines) ≡ true
    by later None is = later
    by later (Some line) is = and_from (is_fit_line line) (list_all is_fit_line lines) is later

-- ---- no thread has too many

none_at : {X Y : Type 0} (f : X → Option Y) (before : List X) (x : X) (behind : List X) → filter_map f (before ++ x ∷ behind) ≡ [] → f x ≡ None
none_at f before x behind none = none_from (f x) (λ y is.
    let left = neither (filter_map f before) (filter_map f (x ∷ behind)) (sym (filter_map-append f before (x ∷ behind)) ∙ none) in
    let some : y ∷ filter_map f behind ≡ [] = sym (ap (λ o. cons_option o (filter_map f behind)) is) ∙ left.1 in cc)

room_of : (number count : ℕ) → fault_after number count ≡ None → count < 100000
room_of number count none = search (rules, cases_Bool, count, fault_after, leb-false)

has_room : (all : List Said) (thread number : ℕ) (says : ParsedLine) → fault_in all (say thread number says) ≡ None
    → IfSome (done_at (say thread number says)) (λ (line : Line). lines_before (say thread number says) all < 100000)
has_room all thread number Nothing none = tt
has_room all thread number (Posts event) none = room_of number (lines_before (say thread number (Posts event)) all) none
has_room all thread number (Waits cond) none = room_of number (lines_before (say thread number (Waits cond)) all) none
has_room all thread number (Thread to name) none = tt
has_room all thread number (Faulty kind) none = tt

short : (of : ℕ) (all before : List Said) (thread number : ℕ) (more : List ParsedLine) → all ≡ before ++ said_from thread number more → AllBelow number before
    → filter_map (fault_in all) all ≡ [] → length (lines_of_thread of before) ≤ 100000 → length (lines_of_thread of all) ≤ 100000
short of all before thread number [] whole below none few = rw (whole, append-nil before) few
short of all before thread number (says ∷ more) whole below none few =
    short of all (before ++ said ∷ []) (thread_behind thread says) (number + 1) more
    (whole ∙ sym (append_assoc before (said ∷ []) behind)) (below_said number before said below refl) none
    (rw (lines_push of before said) (elim (cases_Bool (thread == of)) [
      | inl is ↦ rw is (by (eqb-true thread of is) (done_at said) (has_room all thread number says sound))
      | inr isnt ↦ rw (isnt, append-nil (lines_of_thread of before)) few
    ]))
  where
    said : Said
    said = say thread number says

    behind : List Said
    behind = said_from (thread_behind thread says) (number + 1) more

    sound : fault_in all said ≡ None
    sound = none_at (fault_in all) before said behind (ap (filter_map (fault_in all)) (sym whole) ∙ none)

    count : lines_before said all ≡ length (lines_of_thread thread before)
    count = count_is all before (said ∷ behind) thread number says whole below (omega arith, said_later number (thread_behind thread says) (number + 1) more (omega arith))

    by : thread ≡ of → (done : Option Line) → IfSome done (λ (line : Line). lines_before said all < 100000)
        → length (lines_of_thread of before ++ cons_option done []) ≤ 100000
    by same None room = rw (append-nil (lines_of_thread of before)) few
    by same (Some line) room =
        let there : length (lines_of_thread thread before) ≡ length (lines_of_thread of before) = ap (λ t. length (lines_of_thread t before)) same in
        omega (arith, room, count, length_push (lines_of_thread of before) line)

-- ---- the threads

-- what a script without faults is read as
record IsSound (all : List Said) (spelled : Script) : Type 0 where
  none : filter_map (fault_in all) all ≡ []
  threads : threads_of all ≡ spelled.threads
  names : names_of all ≡ spelled.names

sound_from : (all : List Said) (spelled : Script) → reading all ≡ Threads spelled.threads spelled.names → IsSound all spelled
sound_from all spelled is = by (filter_map (fault_in all) all) refl is
  where
    by : (faults : List (ℕ × FaultKind)) → filter_map (fault_in all) all ≡ faults
        → by_faults faults (threads_of all) (names_of all) ≡ Threads spelled.threads spelled.names → IsSound all spelled
    by [] none is = record { none = none; threads = cc; names = cc }
    by (fault ∷ faults) none is = cc

todos_fit : (all : List Said) (threads : List ℕ) → ((of : ℕ) → 0 < length (lines_of_thread of all) → are_fit_lines (lines_of_thread of all) ≡ true)
    → list_all (λ todo. are_fit_lines todo.lines) (filter has_a_line (map (todo_of all) threads)) ≡ true
todos_fit all [] each = refl
todos_fit all (thread ∷ threads) each = elim (cases_Bool (has_a_line (todo_of all thread))) [
  | inl some ↦
      rw some
      (and_from (are_fit_lines (lines_of_thread thread all)) (list_all (λ todo. are_fit_lines todo.lines) (filter has_a_line (map (todo_of all) threads)))
      (each thread (ltb-true 0 (length (lines_of_thread thread all)) some)) (todos_fit all threads each))
  | inr none ↦ rw none (todos_fit all threads each)
]

-- a script that bytes spell is fit
pub script_fit : (plan : List Site) (bytes : List ℕ) (spelled : Script) → length bytes ≤ 16777216 → script plan bytes ≡ Threads spelled.threads spelled.names → IsFitScript spelled
script_fit plan bytes spelled few is =
    let says : List ParsedLine = map (parsed_line plan) (lines_of bytes) in
    let all : List Said = said_from 1 1 says in
    let sound : IsSound all spelled = sound_from all spelled is in
    let todos : List Todo = map (todo_of all) (range_with_len 1 8) in
    let fit : AllFit says = all_fit plan (lines_of bytes) in
    let count : 1 + length says ≤ 2 ^ 32 = omega (arith, length-map (lines_of bytes) (parsed_line plan), few_lines bytes) in
    record {
      rising = rw (← sound.threads) (rise-filter (λ (todo : Todo). todo.thread) has_a_line 0 todos refl);
      within = rw (← sound.threads) (list_all-filter (λ (todo : Todo). nat_le todo.thread 8) has_a_line todos refl);
      lines = rw (← sound.threads) (todos_fit all (range_with_len 1 8) (λ of some.
          fit_from (lines_of_thread of all) (record {
            some = omega arith;
            few = short of all [] 1 1 says refl tt sound.none (omega arith);
            rising = rise of 0 1 1 says (omega arith);
            fit = each_fit of 1 1 says count fit;
          })));
      names = rw (← sound.names) (first_are_names (names_given all) (given_all (λ row. is_report_name row.name) (λ thread name is fit. fit) 1 1 says fit));
      named = rw (← sound.names) (first_all (λ row. is_thread row.thread) (names_given all) (given_all (λ row. is_thread row.thread) (λ thread name is fit. is) 1 1 says fit));
    }

-- and so is what is read
pub read_fit : {E : Type 0} (plan : List Site) (bytes : List ℕ) (read : Result Script E) → length bytes ≤ 16777216
    → IfOk read (λ script_read. script plan bytes ≡ Threads script_read.threads script_read.names) → IfOk read (λ script_read. IsFitScript script_read)
read_fit plan bytes read few is = IfOk-weaker read _ _ (λ spelled. script_fit plan bytes spelled few) is
