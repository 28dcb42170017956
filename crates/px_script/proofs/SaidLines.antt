-- The lines of a thread, among what is said.
use Rattle.std.proofs.Common.{rules, ◌≡◌, ℕ, ◌+◌, ◌<◌, ◌≤◌, Bool, List, [], ◌∷◌, ◌++◌, length, refl, ap, ◌∙◌, arith, Option, Some, None, cond, inl, inr}
use Rattle.std.specs.Prelude.{◌==◌, nat_lt, IfSome}
use Rattle.std.specs.List.{filter, filter_map, cons_option, count_by, AllByRecursion}
use Rattle.std.proofs.lemmas.List.Elements.{filter-append, filter_map-append}
use Rattle.std.proofs.lemmas.List.Sums.{sum_by-append, sum_by-cons}
use Rattle.std.proofs.lemmas.Bool.{lt-ltb, le-ltb, cases_Bool}
use Rattle.std.proofs.Permutation.{every_append as each-append}
use Rattle.px_value.proofs.General.{each_map}
use Rattle.px_script.specs.declared.line.Line.{Line}
use Rattle.px_script.specs.declared.parsed_line.ParsedLine.{ParsedLine}
use Rattle.px_script.specs.declared.parsed_line.ParsedLine.TheVariants.{Nothing, Posts, Waits, Thread, Faulty}
use Rattle.px_script.specs.Script.{Said, done_at, lines_of_thread, lines_before, said_from, thread_behind}

abbrev pub say : ℕ → ℕ → ParsedLine → Said
say thread number says = record { thread = thread; number = number; says = says }

-- what is done at a line has its number
pub done_number : (thread number : ℕ) (says : ParsedLine) → IfSome (done_at (say thread number says)) (λ (line : Line). line.number ≡ number)
done_number thread number Nothing = tt
done_number thread number (Posts event) = refl
done_number thread number (Waits cond) = refl
done_number thread number (Thread to name) = tt
done_number thread number (Faulty kind) = tt

abbrev is_of : ℕ → Said → Bool
is_of thread said = said.thread == thread

lines-append : (thread : ℕ) (before more : List Said) → lines_of_thread thread (before ++ more) ≡ lines_of_thread thread before ++ lines_of_thread thread more
lines-append thread before more =
    ap (filter_map done_at) (filter-append (is_of thread) before more) ∙ filter_map-append done_at (filter (is_of thread) before) (filter (is_of thread) more)

abbrev pub AllBelow : ℕ → List Said → Type 0
AllBelow number said = AllByRecursion (λ one. one.number < number) said

-- one line further
pub below_said : (number : ℕ) (before : List Said) (said : Said) → AllBelow number before → said.number ≡ number → AllBelow (number + 1) (before ++ said ∷ [])
below_said number before said below is =
    each-append (λ (one : Said). one.number < number + 1) before (said ∷ [])
    (each_map (λ (one : Said). one.number < number) (λ one. one.number < number + 1) before (λ one less. omega (arith, less)) below)
    (omega (arith, is), tt)

abbrev is_before : ℕ → Line → Bool
is_before number line = nat_lt line.number number

abbrev count_before : ℕ → List Line → ℕ
count_before number lines = count_by (is_before number) lines

all_before : (thread number : ℕ) (before : List Said) → AllBelow number before → count_before number (lines_of_thread thread before) ≡ length (lines_of_thread thread before)
all_before thread number [] below = refl
all_before thread number (said ∷ before) below = elim (cases_Bool (said.thread == thread)) [
  | inl is ↦ rw is (by (all_before thread number before below.1) (done_at said) (done_number said.thread said.number said.says))
  | inr isnt ↦ rw isnt (all_before thread number before below.1)
]
  where
    lines : List Line
    lines = lines_of_thread thread before

    by : count_before number lines ≡ length lines → (done : Option Line) → IfSome done (λ (line : Line). line.number ≡ said.number)
        → count_before number (cons_option done lines) ≡ length (cons_option done lines)
    by later None is = later
    by later (Some line) is =
        let here : line.number < number = omega (arith, below.0) in
        sum_by-cons (λ line. cond (is_before number line) 1 0) line lines
        ∙ rw (lt-ltb line.number number here) (omega (arith, later))

-- these and what is behind them
abbrev pub AllFrom : ℕ → List Said → Type 0
AllFrom number said = AllByRecursion (λ one. number ≤ one.number) said

pub said_later : (number thread start : ℕ) (more : List ParsedLine) → number ≤ start → AllFrom number (said_from thread start more)
said_later number thread start [] from = tt
said_later number thread start (says ∷ more) from = (from, said_later number (thread_behind thread says) (start + 1) more (omega arith))

none_before : (thread number : ℕ) (behind : List Said) → AllFrom number behind → count_before number (lines_of_thread thread behind) ≡ 0
none_before thread number [] from = refl
none_before thread number (said ∷ behind) from = elim (cases_Bool (said.thread == thread)) [
  | inl is ↦ rw is (by (none_before thread number behind from.1) (done_at said) (done_number said.thread said.number said.says))
  | inr isnt ↦ rw isnt (none_before thread number behind from.1)
]
  where
    lines : List Line
    lines = lines_of_thread thread behind

    by : count_before number lines ≡ 0 → (done : Option Line) → IfSome done (λ (line : Line). line.number ≡ said.number) → count_before number (cons_option done lines) ≡ 0
    by later None is = later
    by later (Some line) is =
        let here : number ≤ line.number = omega (arith, from.0) in
        sum_by-cons (λ line. cond (is_before number line) 1 0) line lines
        ∙ rw (le-ltb line.number number here) (omega (arith, later))

-- a line's thread has as many lines before it as there are among what is said before it
pub count_is : (all before behind : List Said) (thread number : ℕ) (says : ParsedLine) → all ≡ before ++ behind
    → AllBelow number before → AllFrom number behind → lines_before (say thread number says) all ≡ length (lines_of_thread thread before)
count_is all before behind thread number says whole below from =
    search (rules, lines-append, sum_by-append, all_before, none_before)

-- the lines behind one more
pub lines_push : (of : ℕ) (before : List Said) (said : Said) → lines_of_thread of (before ++ said ∷ []) ≡ lines_of_thread of before ++ cond (said.thread == of) (cons_option (done_at said) []) []
lines_push of before said = search (rules, lines-append)
