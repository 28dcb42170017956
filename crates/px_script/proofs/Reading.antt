-- A script is read line by line: what is left of it, behind lines of which the threads keep these.
use Rattle.std.proofs.Common.{rules, ◌≡◌, ℕ, ◌+◌, ◌-◌, Bool, true, false, List, [], ◌∷◌, ◌++◌, length, replicate, set, map, refl, sym, ap, ◌∙◌, arith, Option, Some, None, cond, inl, inr}
use Rattle.std.specs.Prelude.{◌==◌, nat_le, if◌then◌else◌}
use Rattle.std.specs.List.{filter, filter_map, cons_option, range_with_len}
use Rattle.std.proofs.lemmas.List.{append-nil, append_assoc}
use Rattle.std.proofs.lemmas.List.Elements.{filter_map-append}
use Rattle.std.proofs.lemmas.List.FromFn.{get_or-map-range_with_len}
use Rattle.std.proofs.lemmas.Bool.{and_parts, leb-true, eqb-true, cases_Bool}
use Rattle.px_core.specs.Plan.{Site}
use Rattle.px_event.specs.Names.{name_of}
use Rattle.px_event.specs.declared.names.ThreadName.{ThreadName}
use Rattle.px_script.specs.declared.line.Line.{Line}
use Rattle.px_script.specs.declared.line.What.{What}
use Rattle.px_script.specs.declared.line.What.TheVariants as whats
use Rattle.px_script.specs.declared.parsed_line.ParsedLine.{ParsedLine}
use Rattle.px_script.specs.declared.parsed_line.ParsedLine.TheVariants.{Nothing, Posts, Waits, Thread, Faulty}
use Rattle.px_script.specs.declared.fault.FaultKind.{FaultKind}
use Rattle.px_script.specs.declared.fault.FaultKind.TheVariants.{TooManyLines, OtherName}
use Rattle.px_script.specs.Fault.{number_of}
use Rattle.px_script.specs.Naming.{is_another, with_name}
use Rattle.px_script.specs.ParsedLine.{parsed_line}
use Rattle.px_script.specs.Remainder.{has_a_line}
use Rattle.px_script.specs.Script.{Reading, Threads, Fault, Said, said_from, done_at, lines_of_thread, lines_before, name_given, fault_in, reading}
use Rattle.px_script.specs.ThreadLine.{is_thread}
use Rattle.px_script.specs.Threads.{lines_in, with_line, todos_from}
use Rattle.px_script.proofs.FitLines.{IsFitParsedLine, AllFit}
use Rattle.px_script.proofs.FirstNames.{AreKept, none_kept, kept_unnamed, kept_named, otherwise_is}
use Rattle.px_script.proofs.SaidLines.{say, AllBelow, below_said, said_later, count_is, lines_push}
use Rattle.px_script.proofs.Walks.{line_at}

-- where the thread has room for one more line, what is behind that line
abbrev pub with_room : List (List Line) → ℕ → ℕ → Reading → Reading
with_room kept thread number behind =
    if nat_le 100000 (length (lines_in kept thread)) then Fault number (number_of TooManyLines) else behind

-- where a name that a line gives a thread is no other than the thread has, what is behind that line
abbrev pub with_same : List ThreadName → ℕ → ℕ → Option (List ℕ) → Reading → Reading
with_same names number thread name behind =
    if is_another name (name_of thread names) then Fault number (number_of OtherName) else behind

abbrev pub read_on : List (List Line) → List ThreadName → ℕ → ℕ → List ParsedLine → Reading
read_on kept names thread number [] = Threads (filter has_a_line (todos_from 1 kept)) names
read_on kept names thread number (Nothing ∷ more) = read_on kept names thread (number + 1) more
read_on kept names thread number (Posts event ∷ more) =
    with_room kept thread number (read_on (with_line kept thread (line_at number (whats.Post event))) names thread (number + 1) more)
read_on kept names thread number (Waits cond ∷ more) =
    with_room kept thread number (read_on (with_line kept thread (line_at number (whats.Wait cond))) names thread (number + 1) more)
read_on kept names thread number (Thread to name ∷ more) =
    with_same names number to name (read_on kept (with_name names to name) to (number + 1) more)
read_on kept names thread number (Faulty kind ∷ more) = Fault number (number_of kind)

-- ---- the lines that are kept

-- the lines of all threads, of what is said
abbrev kept_of : List Said → List (List Line)
kept_of before = map (λ thread. lines_of_thread thread before) (range_with_len 1 8)

-- one place among those of all threads
place_of : {X : Type 0} (f : ℕ → X) (x : X) (thread : ℕ) → is_thread thread ≡ true
    → set (map f (range_with_len 1 8)) (thread - 1) x ≡ map (λ t. cond (thread == t) x (f t)) (range_with_len 1 8)
place_of f x thread is = search (rules, leb-true, and_parts)

lines_there : (before : List Said) (kept : List (List Line)) (thread : ℕ) → is_thread thread ≡ true → kept ≡ kept_of before
    → lines_in kept thread ≡ lines_of_thread thread before
lines_there before kept thread is same =
    search (rules, and_parts, leb-true, get_or-map-range_with_len)

-- lines that differ at no thread
same_lists : (f g : ℕ → List Line) → ((t : ℕ) → f t ≡ g t) → map f (range_with_len 1 8) ≡ map g (range_with_len 1 8)
same_lists f g same i = map (λ t. same t i) (range_with_len 1 8)

silent : (before : List Said) (kept : List (List Line)) (said : Said) → kept ≡ kept_of before → done_at said ≡ None → kept ≡ kept_of (before ++ said ∷ [])
silent before kept said is none = search (rules, same_lists, lines_push, append-nil)

one_more : (before : List Said) (kept : List (List Line)) (said : Said) (line : Line) → is_thread said.thread ≡ true → kept ≡ kept_of before
    → done_at said ≡ Some line → with_line kept said.thread line ≡ kept_of (before ++ said ∷ [])
one_more before kept said line thread is done =
    search (rules, lines_there, place_of, same_lists, eqb-true, lines_push, append-nil)

-- what is kept of lines: those of each thread, and the names
record IsKept (before : List Said) (kept : List (List Line)) (names : List ThreadName) : Type 0 where
  lines : kept ≡ kept_of before
  named : AreKept before names

-- ---- the faults

-- a line without a fault behind lines without one
pass : (all before : List Said) (said : Said) → filter_map (fault_in all) before ≡ [] → fault_in all said ≡ None
    → filter_map (fault_in all) (before ++ said ∷ []) ≡ []
pass all before said none sound =
    filter_map-append (fault_in all) before (said ∷ []) ∙ ap (λ faults. faults ++ filter_map (fault_in all) (said ∷ [])) none
    ∙ ap (λ fault. cons_option fault []) sound

-- a line with a fault behind lines without one
stop : (all before after : List Said) (said : Said) (fault : ℕ × FaultKind) → all ≡ before ++ said ∷ after
    → filter_map (fault_in all) before ≡ [] → fault_in all said ≡ Some fault → Fault fault.0 (number_of fault.1) ≡ reading all
stop all before after said fault whole none at =
    search (rules, filter_map-append)

-- ---- line by line

-- the fault of a line that gives a thread a name, where that is another or not
abbrev other_name : ℕ → Bool → Option (ℕ × FaultKind)
other_name number other = if other then Some (number, OtherName) else None

-- the fault of a line at which its thread does something, which so many of its lines are before
abbrev pub fault_after : ℕ → ℕ → Option (ℕ × FaultKind)
fault_after number count = if nat_le 100000 count then Some (number, TooManyLines) else None

module _ (all : List Said) where
  -- what is left is read as the whole is, whatever was said before it without a fault
  abbrev IsRead : ℕ → List ParsedLine → Type 0
  IsRead number more =
      (before : List Said) (kept : List (List Line)) (names : List ThreadName) (thread : ℕ) → all ≡ before ++ said_from thread number more
      → IsKept before kept names → AllBelow number before → is_thread thread ≡ true → filter_map (fault_in all) before ≡ []
      → read_on kept names thread number more ≡ reading all

  at_end : (number : ℕ) → IsRead number []
  at_end number before kept names thread whole is below named none =
      search (rules, append-nil)

  -- behind a line without a fault
  behind : (number : ℕ) (more : List ParsedLine) (before : List Said) (lists : List (List Line)) (names : List ThreadName) (thread to : ℕ) (says : ParsedLine)
      → IsRead (number + 1) more → all ≡ before ++ say thread number says ∷ said_from to (number + 1) more
      → IsKept (before ++ say thread number says ∷ []) lists names → AllBelow number before → is_thread to ≡ true
      → filter_map (fault_in all) before ≡ [] → fault_in all (say thread number says) ≡ None → read_on lists names to (number + 1) more ≡ reading all
  behind number more before lists names thread to says later whole is below named none sound =
      search (rules, say, append_assoc, below_said number before (say thread number says) below refl, named, pass)

  -- at a line at which its thread does something
  done : (number : ℕ) (more : List ParsedLine) (before : List Said) (kept : List (List Line)) (names : List ThreadName) (thread : ℕ) (says : ParsedLine) (what : What)
      → IsRead (number + 1) more → all ≡ before ++ say thread number says ∷ said_from thread (number + 1) more
      → IsKept before kept names → AllBelow number before → is_thread thread ≡ true → filter_map (fault_in all) before ≡ []
      → done_at (say thread number says) ≡ Some (line_at number what) → name_given (say thread number says) ≡ None
      → fault_in all (say thread number says) ≡ fault_after number (lines_before (say thread number says) all)
      → with_room kept thread number (read_on (with_line kept thread (line_at number what)) names thread (number + 1) more) ≡ reading all
  done number more before kept names thread says what later whole is below named none does unnamed fault =
      let said : Said = say thread number says in
      let rest : List Said = said_from thread (number + 1) more in
      let count : lines_before said all ≡ length (lines_in kept thread)
      = count_is all before (said ∷ rest) thread number says whole below (omega arith, said_later number thread (number + 1) more (omega arith))
      ∙ sym (ap length (lines_there before kept thread named is.lines)) in
      let found : fault_in all said ≡ fault_after number (length (lines_in kept thread)) = fault ∙ ap (fault_after number) count in
      let after : IsKept (before ++ said ∷ []) (with_line kept thread (line_at number what)) names
      = record { lines = one_more before kept said (line_at number what) named is.lines does; named = kept_unnamed before names said unnamed is.named } in
      elim (cases_Bool (nat_le 100000 (length (lines_in kept thread)))) [
        | inl full ↦ rw full (stop all before rest said (number, TooManyLines) whole none (found ∙ rw full refl))
        | inr room ↦ rw room
            (behind number more before (with_line kept thread (line_at number what)) names thread thread says later whole after below named none (found ∙ rw room refl))
      ]

  -- at a line that says nothing, or names a thread without a name for it
  silent_line : (number : ℕ) (more : List ParsedLine) (before : List Said) (kept : List (List Line)) (names : List ThreadName) (thread to : ℕ) (says : ParsedLine)
      → IsRead (number + 1) more → all ≡ before ++ say thread number says ∷ said_from to (number + 1) more → IsKept before kept names → AllBelow number before
      → is_thread to ≡ true → filter_map (fault_in all) before ≡ [] → done_at (say thread number says) ≡ None → name_given (say thread number says) ≡ None
      → fault_in all (say thread number says) ≡ None → read_on kept names to (number + 1) more ≡ reading all
  silent_line number more before kept names thread to says later whole is below named none does unnamed sound =
      let said : Said = say thread number says in
      behind number more before kept names thread to says later whole
      (record { lines = silent before kept said is.lines does; named = kept_unnamed before names said unnamed is.named }) below named none sound

  -- at a line that gives a thread a name
  name_line : (number : ℕ) (more : List ParsedLine) (before : List Said) (kept : List (List Line)) (names : List ThreadName) (thread to : ℕ) (name : List ℕ)
      → IsRead (number + 1) more → all ≡ before ++ say thread number (Thread to (Some name)) ∷ said_from to (number + 1) more → IsKept before kept names
      → AllBelow number before → is_thread to ≡ true → filter_map (fault_in all) before ≡ []
      → with_same names number to (Some name) (read_on kept (with_name names to (Some name)) to (number + 1) more) ≡ reading all
  name_line number more before kept names thread to name later whole is below named none =
      let said : Said = say thread number (Thread to (Some name)) in
      let rest : List Said = said_from to (number + 1) more in
      let found : fault_in all said ≡ other_name number (is_another (Some name) (name_of to names))
      = ap (other_name number)
      (otherwise_is all before (said ∷ rest) names said to name whole below (omega arith, said_later number to (number + 1) more (omega arith)) is.named) in
      elim (cases_Bool (is_another (Some name) (name_of to names))) [
        | inl other ↦ rw other (stop all before rest said (number, OtherName) whole none (found ∙ rw other refl))
        | inr same ↦
            let after : IsKept (before ++ said ∷ []) kept (with_name names to (Some name))
            = record { lines = silent before kept said is.lines refl; named = kept_named before names said to name refl same is.named } in
            let passes : fault_in all said ≡ None = found ∙ ap (other_name number) same in
            let read : read_on kept (with_name names to (Some name)) to (number + 1) more ≡ reading all
            = behind number more before kept (with_name names to (Some name)) thread to (Thread to (Some name)) later whole after below named none passes in
            ap (λ other. cond other (Fault number (number_of OtherName)) (read_on kept (with_name names to (Some name)) to (number + 1) more)) same ∙ read
      ]

  line_read : (number : ℕ) (says : ParsedLine) (more : List ParsedLine) → IsFitParsedLine says → IsRead (number + 1) more → IsRead number (says ∷ more)
  line_read number Nothing more fit later before kept names thread whole is below named none =
      silent_line number more before kept names thread thread Nothing later whole is below named none refl refl refl
  line_read number (Posts event) more fit later before kept names thread whole is below named none =
      done number more before kept names thread (Posts event) (whats.Post event) later whole is below named none refl refl refl
  line_read number (Waits cond) more fit later before kept names thread whole is below named none =
      done number more before kept names thread (Waits cond) (whats.Wait cond) later whole is below named none refl refl refl
  line_read number (Thread to None) more fit later before kept names thread whole is below named none =
      silent_line number more before kept names thread to (Thread to None) later whole is below fit.0 none refl refl refl
  line_read number (Thread to (Some name)) more fit later before kept names thread whole is below named none =
      name_line number more before kept names thread to name later whole is below fit.0 none
  line_read number (Faulty kind) more fit later before kept names thread whole is below named none =
      stop all before (said_from thread (number + 1) more) (say thread number (Faulty kind)) (number, kind) whole none refl

  reads : (number : ℕ) (more : List ParsedLine) → AllFit more → IsRead number more
  reads number [] fit = at_end number
  reads number (says ∷ more) fit = line_read number says more fit.0 (reads (number + 1) more fit.1)

-- a script is what is left of it before the first line
pub script_reads : (kept : List (List Line)) (names : List ThreadName) (lines : List ParsedLine) → kept ≡ replicate 8 [] → names ≡ [] → AllFit lines
    → read_on kept names 1 1 lines ≡ reading (said_from 1 1 lines)
script_reads kept names lines empty unnamed fit =
    ap (λ names. read_on kept names 1 1 lines) unnamed
    ∙ reads (said_from 1 1 lines) 1 lines fit [] kept [] 1 refl (record { lines = empty; named = none_kept }) tt refl refl

-- the line that comes next
pub next_line : (plan : List Site) (kept : List (List Line)) (names : List ThreadName) (thread number : ℕ) (left rest : List (List ℕ)) (line : List ℕ)
    (says : ParsedLine) (whole : Reading) → left ≡ line ∷ rest → says ≡ parsed_line plan line → read_on kept names thread number (map (parsed_line plan) left) ≡ whole
    → read_on kept names thread number (says ∷ map (parsed_line plan) rest) ≡ whole
next_line plan kept names thread number left rest line says whole cut is reads =
    ap (λ says. read_on kept names thread number (says ∷ map (parsed_line plan) rest)) is
    ∙ sym (ap (λ lines. read_on kept names thread number (map (parsed_line plan) lines)) cut) ∙ reads

-- what comes behind a name that isn't another
pub behind_same : (names : List ThreadName) (number thread : ℕ) (name : Option (List ℕ)) (behind whole : Reading) → is_another name (name_of thread names) ≡ false
    → with_same names number thread name behind ≡ whole → behind ≡ whole
behind_same names number thread name behind whole same is = sym (ap (λ other. cond other (Fault number (number_of OtherName)) behind) same) ∙ is
