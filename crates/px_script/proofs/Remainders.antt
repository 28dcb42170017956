-- What is left of a script after a history.
use Rattle.std.proofs.Common.{rules, ◌≡◌, ℕ, ◌<◌, ◌≤◌, Bool, true, false, List, [], ◌∷◌, ◌++◌, length, map, get_or, refl, sym, ap, ◌∙◌, arith, cond, eqb, inl, inr}
use Rattle.std.specs.Prelude.{◌&&◌, max, nat_le, nat_lt}
use Rattle.std.specs.List.{filter, fold, list_all, All}
use Rattle.std.proofs.iter.runs.Lists.{folded_grows}
use Rattle.std.proofs.lemmas.List.{map-append}
use Rattle.std.proofs.lemmas.List.Elements.{filter-append, filter_passes, All-nil, All-cons, All-map, All-filter, All-weaker}
use Rattle.std.proofs.lemmas.List.Folds.{list_all-map}
use Rattle.std.proofs.lemmas.List.Sums.{fold-append, length-filter, count_by-le-length}
use Rattle.std.proofs.lemmas.Simd.{map-map}
use Rattle.std.proofs.lemmas.Bool.{ltb-true, ltb-false, lt-ltb, le-ltb, leb-true, le-leb, eqb-false, and_parts, and_from, cases_Bool}
use Rattle.px_value.proofs.General.{list_all-filter}
use Rattle.px_event.specs.declared.entry.Entry.{Entry}
use Rattle.px_script.specs.Fit.{rise_above, is_fit_line, are_fit_lines, IsFitScript}
use Rattle.px_script.specs.Remainder.{entries_of, last_line, lines_above, left_of, has_a_line, rest, IsAhead}
use Rattle.px_script.specs.declared.line.Line.{Line}
use Rattle.px_script.specs.declared.todo.Todo.{Todo}
use Rattle.px_script.specs.declared.script.Script.{Script}

-- ---- the greatest line of a thread

abbrev pub line_of : Entry → ℕ
line_of entry = entry.line

abbrev pub numbers_of : ℕ → List Entry → List ℕ
numbers_of thread history = map line_of (entries_of thread history)

-- a greatest number so far never falls
max_grows : (low : ℕ) (numbers : List ℕ) → low ≤ fold max low numbers
max_grows low numbers = folded_grows max (λ most number. omega arith) numbers low

last_line-append : (thread : ℕ) (history more : List Entry) → last_line thread (history ++ more) ≡ fold max (last_line thread history) (numbers_of thread more)
last_line-append thread history more =
    search (rules, filter-append, map-append, fold-append)

last_line_grows : (thread : ℕ) (history more : List Entry) → last_line thread history ≤ last_line thread (history ++ more)
last_line_grows thread history more = rw last_line-append (max_grows (last_line thread history) (numbers_of thread more))

-- no entry of the thread has a greater line
abbrev IsUpTo : ℕ → ℕ → Entry → Type 0
IsUpTo thread last entry = entry.thread ≡ thread → entry.line ≤ last

all_up_to : (thread low : ℕ) (history : List Entry) → All (IsUpTo thread (fold max low (numbers_of thread history))) history
all_up_to thread low [] = All-nil (IsUpTo thread low)
all_up_to thread low (entry ∷ history) =
    elim (cases_Bool (eqb entry.thread thread)) [
      | inl is ↦
          rw is
          (All-cons (IsUpTo thread (fold max (max low entry.line) (numbers_of thread history))) entry history
          (λ same. omega (arith, max_grows (max low entry.line) (numbers_of thread history))) (all_up_to thread (max low entry.line) history))
      | inr isnt ↦
          rw isnt
          (All-cons (IsUpTo thread (fold max low (numbers_of thread history))) entry history
          (λ same. absurd (eqb-false entry.thread thread isnt same)) (all_up_to thread low history))
    ]

-- ---- the lines that are left

lines_above_twice : (low high : ℕ) (lines : List Line) → low ≤ high → lines_above high (lines_above low lines) ≡ lines_above high lines
lines_above_twice low high [] order = refl
lines_above_twice low high (line ∷ lines) order =
    elim (cases_Bool (nat_lt low line.number)) [
      | inl above ↦ rw (above, lines_above_twice low high lines order)
      | inr below ↦ rw (below, le-ltb high line.number (omega (arith, ltb-false low line.number below)), lines_above_twice low high lines order)
    ]

left_of_twice : (history more : List Entry) (todo : Todo) → left_of (history ++ more) (left_of history todo) ≡ left_of (history ++ more) todo
left_of_twice history more todo =
    ap (λ lines. record { thread = todo.thread; lines = lines })
    (lines_above_twice (last_line todo.thread history) (last_line todo.thread (history ++ more)) todo.lines (last_line_grows todo.thread history more))

-- of no line none is left
none_left : (history : List Entry) (todo : Todo) → has_a_line todo ≡ false → has_a_line (left_of history todo) ≡ false
none_left history todo none =
    search (rules, le-ltb, ltb-false, length-filter, count_by-le-length)

-- the same thread before the same others
same_first : (one other : Todo) (ones others : List Todo) → one ≡ other → ones ≡ others
    → cond (has_a_line one) (one ∷ ones) ones ≡ cond (has_a_line other) (other ∷ others) others
same_first one other ones others first more = rw (first, more)

pub rest_twice : (threads : List Todo) (history more : List Entry) → rest (rest threads history) (history ++ more) ≡ rest threads (history ++ more)
rest_twice [] history more = refl
rest_twice (todo ∷ threads) history more =
    elim (cases_Bool (has_a_line (left_of history todo))) [
      | inl some ↦
          rw some
          (same_first (left_of (history ++ more) (left_of history todo)) (left_of (history ++ more) todo) (rest (rest threads history) (history ++ more)) (rest threads (history ++ more))
          (left_of_twice history more todo) (rest_twice threads history more))
      | inr none ↦
          let gone : has_a_line (left_of (history ++ more) todo) ≡ false
          = ap has_a_line (sym (left_of_twice history more todo)) ∙ none_left (history ++ more) (left_of history todo) none in
          rw (none, gone, rest_twice threads history more)
    ]

is_ahead : (history : List Entry) (todo : Todo) → IsAhead history (left_of history todo)
is_ahead history todo =
    let last : ℕ = last_line todo.thread history in
    All-weaker (λ (line : Line). nat_lt last line.number ≡ true) (λ line. All (λ entry. entry.thread ≡ todo.thread → entry.line < line.number) history)
    (λ line above.
    All-weaker (IsUpTo todo.thread last) (λ entry. entry.thread ≡ todo.thread → entry.line < line.number)
    (λ entry up_to same. omega (arith, up_to same, ltb-true last line.number above)) history (all_up_to todo.thread 0 history))
    (lines_above last todo.lines) (filter_passes (λ (line : Line). nat_lt last line.number) todo.lines)

pub rest_ahead : (threads : List Todo) (history : List Entry) → All (IsAhead history) (rest threads history)
rest_ahead threads history =
    All-filter has_a_line (IsAhead history) (map (left_of history) threads)
    (All-map (IsAhead history) (left_of history) threads (λ k d within. is_ahead history (get_or threads k d)))

-- one more thread
pub rest_more : (threads : List Todo) (history : List Entry) (todo : Todo) (kept : List Todo) (left : Todo) → kept ≡ rest threads history → left ≡ left_of history todo
    → kept ++ filter has_a_line (left ∷ []) ≡ rest (threads ++ todo ∷ []) history
rest_more threads history todo kept left so_far is =
    search (rules, map-append, filter-append)

-- ---- fit scripts

pub rise_from : (low high : ℕ) (numbers : List ℕ) → low ≤ high → rise_above high numbers ≡ true → rise_above low numbers ≡ true
rise_from low high [] order rising = refl
rise_from low high (number ∷ numbers) order rising =
    let parts = and_parts (nat_lt high number) (rise_above number numbers) rising in
    and_from (nat_lt low number) (rise_above number numbers) (lt-ltb low number (omega (arith, ltb-true high number parts.0))) parts.1

pub rise-filter : {X : Type 0} (number : X → ℕ) (p : X → Bool) (low : ℕ) (xs : List X) → rise_above low (map number xs) ≡ true
    → rise_above low (map number (filter p xs)) ≡ true
rise-filter number p low [] rising = refl
rise-filter number p low (x ∷ xs) rising =
    let parts = and_parts (nat_lt low (number x)) (rise_above (number x) (map number xs)) rising in
    let later = rise-filter number p (number x) xs parts.1 in
    elim (cases_Bool (p x)) [
      | inl kept ↦ rw kept (and_from (nat_lt low (number x)) (rise_above (number x) (map number (filter p xs))) parts.0 later)
      | inr dropped ↦ rw dropped (rise_from low (number x) (map number (filter p xs)) (omega (arith, ltb-true low (number x) parts.0)) later)
    ]

-- the parts of `are_fit_lines`
pub record AreFitLines (lines : List Line) : Type 0 where
  pub some : 1 ≤ length lines
  pub few : length lines ≤ 100000
  pub rising : rise_above 0 (map (λ line. line.number) lines) ≡ true
  pub fit : list_all is_fit_line lines ≡ true

pub fit_parts : (lines : List Line) → are_fit_lines lines ≡ true → AreFitLines lines
fit_parts lines fit =
    let some = nat_le 1 (length lines) in
    let few = nat_le (length lines) 100000 in
    let rise = rise_above 0 (map (λ line. line.number) lines) in
    let all = and_parts (some && few && rise) (list_all is_fit_line lines) fit in
    let front = and_parts (some && few) rise all.0 in
    let count = and_parts some few front.0 in
    record { some = leb-true 1 (length lines) count.0; few = leb-true (length lines) 100000 count.1; rising = front.1; fit = all.1 }

pub fit_from : (lines : List Line) → AreFitLines lines → are_fit_lines lines ≡ true
fit_from lines parts = rw (le-leb 1 (length lines) parts.some, le-leb (length lines) 100000 parts.few, parts.rising, parts.fit)

lines_above_fit : (number : ℕ) (lines : List Line) → 0 < length (lines_above number lines) → are_fit_lines lines ≡ true → are_fit_lines (lines_above number lines) ≡ true
lines_above_fit number lines left fit =
    let parts = fit_parts lines fit in
    let above = λ (line : Line). nat_lt number line.number in
    fit_from (lines_above number lines)
    (record {
      some = omega arith;
      few = omega (arith, length-filter above lines, count_by-le-length above lines);
      rising = rise-filter (λ line. line.number) above 0 lines parts.rising;
      fit = list_all-filter is_fit_line above lines parts.fit;
    })

threads_left_fit : (history : List Entry) (threads : List Todo) → list_all (λ todo. are_fit_lines todo.lines) threads ≡ true
    → list_all (λ todo. are_fit_lines todo.lines) (rest threads history) ≡ true
threads_left_fit history [] fit = refl
threads_left_fit history (todo ∷ threads) fit =
    let parts = and_parts (are_fit_lines todo.lines) (list_all (λ todo. are_fit_lines todo.lines) threads) fit in
    let later = threads_left_fit history threads parts.1 in
    elim (cases_Bool (has_a_line (left_of history todo))) [
      | inl some ↦
          rw some
          (and_from (are_fit_lines (left_of history todo).lines) (list_all (λ todo. are_fit_lines todo.lines) (rest threads history))
          (lines_above_fit (last_line todo.thread history) todo.lines (ltb-true 0 (length (left_of history todo).lines) some) parts.0) later)
      | inr none ↦ rw none later
    ]

pub rest_fit : (script : Script) (history : List Entry) (left : Script) → left.threads ≡ rest script.threads history → left.names ≡ script.names
    → IsFitScript script → IsFitScript left
rest_fit script history left is same fit =
    let lefts : List Todo = map (left_of history) script.threads in
    record {
      rising = rw is (rise-filter (λ todo. todo.thread) has_a_line 0 lefts (ap (rise_above 0) (map-map (λ (todo : Todo). todo.thread) (left_of history) script.threads) ∙ fit.rising));
      within = rw is
          (list_all-filter (λ todo. nat_le todo.thread 8) has_a_line lefts
          (list_all-map (λ todo. nat_le todo.thread 8) (left_of history) script.threads ∙ fit.within));
      lines = rw is (threads_left_fit history script.threads fit.lines);
      names = rw same fit.names;
      named = rw same fit.named;
    }

-- ---- no history

all_above : (number low : ℕ) (lines : List Line) → number ≤ low → rise_above low (map (λ line. line.number) lines) ≡ true → lines_above number lines ≡ lines
all_above number low [] order rising = refl
all_above number low (line ∷ lines) order rising =
    let parts = and_parts (nat_lt low line.number) (rise_above line.number (map (λ line. line.number) lines)) rising in
    let above : number < line.number = omega (arith, ltb-true low line.number parts.0) in
    rw (lt-ltb number line.number above, all_above number line.number lines (omega arith) parts.1)

pub rest_whole : (threads : List Todo) → list_all (λ todo. are_fit_lines todo.lines) threads ≡ true → rest threads [] ≡ threads
rest_whole [] fit = refl
rest_whole (todo ∷ threads) fit =
    let both = and_parts (are_fit_lines todo.lines) (list_all (λ todo. are_fit_lines todo.lines) threads) fit in
    let parts = fit_parts todo.lines both.0 in
    rw (all_above 0 0 todo.lines (omega arith) parts.rising, lt-ltb 0 (length todo.lines) (omega arith), rest_whole threads both.1)
