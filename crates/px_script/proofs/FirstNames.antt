-- The names that lines give threads, as they are kept line by line.
use Rattle.std.proofs.Common.{rules, ◌≡◌, ℕ, ◌+◌, Bool, true, false, List, [], ◌∷◌, ◌++◌, refl, sym, ap, ◌∙◌, subst, Option, Some, None, cond, inl, inr}
use Rattle.std.specs.Prelude.{◌==◌, ◌&&◌, ◌||◌, not, is_none, nat_lt}
use Rattle.std.specs.List.{filter, cons_option, list_all, list_any}
use Rattle.std.proofs.Math.Bool.{or-false}
use Rattle.std.proofs.lemmas.List.{append-nil}
use Rattle.std.proofs.lemmas.List.Elements.{filter-append, filter_map-append}
use Rattle.std.proofs.lemmas.List.Folds.{list_any-append}
use Rattle.std.proofs.lemmas.Bool.{and_parts, and_from, lt-ltb, le-ltb, eqb-true, eq-eqb, cases_Bool, not-false}
use Rattle.px_value.proofs.General.{differs_turned, list_all-filter}
use Rattle.px_event.specs.Fit.{is_report_name}
use Rattle.px_event.specs.Names.{name_of, are_names}
use Rattle.px_event.specs.declared.names.ThreadName.{ThreadName}
use Rattle.px_event.proofs.Naming.{or_row, name_push}
use Rattle.px_script.specs.Naming.{is_another, with_name}
use Rattle.px_script.specs.Script.{Said, said_from, name_given, names_given, earlier_lines, is_other_name, is_named_otherwise, first_names}
use Rattle.px_script.specs.ThreadLine.{is_thread}
use Rattle.px_script.specs.declared.parsed_line.ParsedLine.{ParsedLine}
use Rattle.px_script.specs.declared.parsed_line.ParsedLine.TheVariants.{Nothing, Posts, Waits, Thread, Faulty}
use Rattle.px_script.proofs.FitLines.{AllFit}
use Rattle.px_script.proofs.SaidLines.{AllBelow, AllFrom}

abbrev is_of_another : ℕ → ThreadName → Bool
is_of_another thread row = not (row.thread == thread)

abbrev row_of : ℕ → List ℕ → ThreadName
row_of thread name = record { thread = thread; name = name }

-- ---- the name of a thread among rows

-- the rows of one thread don't count for another
name-filter : (thread other : ℕ) (rows : List ThreadName) → (other == thread) ≡ false → name_of thread (filter (is_of_another other) rows) ≡ name_of thread rows
name-filter thread other [] differ = refl
name-filter thread other (row ∷ rows) differ = elim (cases_Bool (row.thread == other)) [
  | inl is ↦
      let isnt : (row.thread == thread) ≡ false = subst (λ (t : ℕ). (t == thread) ≡ false) (sym (eqb-true row.thread other is)) differ in
      rw (is, isnt) (name-filter thread other rows differ)
  | inr isnt ↦ rw isnt (ap (λ name. cond (row.thread == thread) (Some row.name) name) (name-filter thread other rows differ))
]

pub name_first : (thread : ℕ) (rows : List ThreadName) → name_of thread (first_names rows) ≡ name_of thread rows
name_first thread [] = refl
name_first thread (row ∷ rows) = elim (cases_Bool (row.thread == thread)) [
  | inl is ↦ rw is refl
  | inr isnt ↦ rw isnt (name-filter thread row.thread (first_names rows) isnt ∙ name_first thread rows)
]

-- ---- the first names, with one row more behind

-- the row is added where its thread had no name
abbrev with_row : Option (List ℕ) → List ThreadName → ThreadName → List ThreadName
with_row None rows row = rows ++ row ∷ []
with_row (Some name) rows row = rows

kept_with : (p : ThreadName → Bool) (name : Option (List ℕ)) (rows : List ThreadName) (row : ThreadName) → p row ≡ true
    → filter p (with_row name rows row) ≡ with_row name (filter p rows) row
kept_with p None rows row passes = filter-append p rows (row ∷ []) ∙ rw passes refl
kept_with p (Some name) rows row passes = refl

dropped_with : (p : ThreadName → Bool) (name : Option (List ℕ)) (rows : List ThreadName) (row : ThreadName) → p row ≡ false
    → filter p (with_row name rows row) ≡ filter p rows
dropped_with p None rows row fails = filter-append p rows (row ∷ []) ∙ rw fails (append-nil (filter p rows))
dropped_with p (Some name) rows row fails = refl

behind_first : (first : ThreadName) (name : Option (List ℕ)) (rows : List ThreadName) (row : ThreadName) → first ∷ with_row name rows row ≡ with_row name (first ∷ rows) row
behind_first first None rows row = refl
behind_first first (Some name) rows row = refl

first_push : (rows : List ThreadName) (row : ThreadName) → first_names (rows ++ row ∷ []) ≡ with_row (name_of row.thread rows) (first_names rows) row
first_push [] row = refl
first_push (first ∷ rows) row =
    let others = is_of_another first.thread in
    let name : Option (List ℕ) = name_of row.thread rows in
    let later : filter others (first_names (rows ++ row ∷ [])) ≡ filter others (with_row name (first_names rows) row) = ap (filter others) (first_push rows row) in
    elim (cases_Bool (first.thread == row.thread)) [
      | inl is ↦
          let out : others row ≡ false = ap not (eq-eqb row.thread first.thread (sym (eqb-true first.thread row.thread is))) in
          rw is (ap (λ rows. first ∷ rows) (later ∙ dropped_with others name (first_names rows) row out))
      | inr isnt ↦
          let within : others row ≡ true = ap not (differs_turned first.thread row.thread isnt) in
          rw isnt
          (ap (λ rows. first ∷ rows) (later ∙ kept_with others name (first_names rows) row within) ∙ behind_first first name (filter others (first_names rows)) row)
    ]

-- ---- names that agree

-- a thread is named otherwise than this by one of the rows, if it is by the first of its own
abbrev pub Agree : List ThreadName → Type 0
Agree rows = (thread : ℕ) (name : List ℕ) → list_any (is_other_name thread name) rows ≡ is_another (Some name) (name_of thread rows)

twice : (b : Bool) → (b || (b || false)) ≡ b
twice true = refl
twice false = refl

-- the name that a thread has, and the row that may give it the same name, or be of another thread
agree_one : (thread : ℕ) (name : List ℕ) (row : ThreadName) (found : Option (List ℕ)) → ((row.thread == thread) ≡ true → is_another (Some row.name) found ≡ false)
    → (is_another (Some name) found || (is_other_name thread name row || false)) ≡ is_another (Some name) (or_row thread row found)
agree_one thread name row None same = search (rules, cases_Bool, or-false)
agree_one thread name row (Some kept) same = search (rules, cases_Bool, not-false, twice, or-false)

agree_push : (rows : List ThreadName) (row : ThreadName) → Agree rows → is_another (Some row.name) (name_of row.thread rows) ≡ false → Agree (rows ++ row ∷ [])
agree_push rows row agree same thread name =
    search (rules, list_any-append, agree, agree_one, eqb-true, name_push)

-- ---- what is kept of lines

-- the names that are kept behind these lines
pub record AreKept (before : List Said) (names : List ThreadName) : Type 0 where
  pub first : names ≡ first_names (names_given before)
  pub agree : Agree (names_given before)

pub none_kept : AreKept [] []
none_kept = record { first = refl; agree = λ thread name. refl }

given_push : (before : List Said) (said : Said) (given : Option ThreadName) → name_given said ≡ given
    → names_given (before ++ said ∷ []) ≡ names_given before ++ cons_option given []
given_push before said given is =
    filter_map-append name_given before (said ∷ []) ∙ ap (λ given. names_given before ++ cons_option given []) is

-- behind a line that gives no name
pub kept_unnamed : (before : List Said) (names : List ThreadName) (said : Said) → name_given said ≡ None → AreKept before names → AreKept (before ++ said ∷ []) names
kept_unnamed before names said none kept =
    let same : names_given (before ++ said ∷ []) ≡ names_given before = given_push before said None none ∙ append-nil (names_given before) in
    record { first = kept.first ∙ sym (ap first_names same); agree = subst Agree (sym same) kept.agree }

name_kept : (before : List Said) (names : List ThreadName) (thread : ℕ) → AreKept before names → name_of thread (names_given before) ≡ name_of thread names
name_kept before names thread kept = sym (ap (name_of thread) kept.first ∙ name_first thread (names_given before))

with_named : (thread : ℕ) (name : List ℕ) (names : List ThreadName) → with_row (name_of thread names) names (row_of thread name) ≡ with_name names thread (Some name)
with_named thread name names = search rules

-- behind one that gives a thread a name, which is the same where it has one
pub kept_named : (before : List Said) (names : List ThreadName) (said : Said) (thread : ℕ) (name : List ℕ) → name_given said ≡ Some (row_of thread name)
    → is_another (Some name) (name_of thread names) ≡ false → AreKept before names → AreKept (before ++ said ∷ []) (with_name names thread (Some name))
kept_named before names said thread name is same kept =
    let rows : List ThreadName = names_given before in
    let row : ThreadName = row_of thread name in
    let more : names_given (before ++ said ∷ []) ≡ rows ++ row ∷ [] = given_push before said (Some row) is in
    let there : name_of thread rows ≡ name_of thread names = name_kept before names thread kept in
    record {
      first = sym (with_named thread name names)
          ∙ ap (λ found. with_row found names row) (sym there) ∙ ap (λ names. with_row (name_of thread rows) names row) kept.first
          ∙ sym (ap first_names more ∙ first_push rows row);
      agree = subst Agree (sym more) (agree_push rows row kept.agree (ap (is_another (Some name)) there ∙ same));
    }

-- ---- the lines before one

all_earlier : (number : ℕ) (before : List Said) → AllBelow number before → filter (λ line. nat_lt line.number number) before ≡ before
all_earlier number [] below = refl
all_earlier number (said ∷ before) below = rw (lt-ltb said.number number below.0) (ap (λ lines. said ∷ lines) (all_earlier number before below.1))

none_earlier : (number : ℕ) (behind : List Said) → AllFrom number behind → filter (λ line. nat_lt line.number number) behind ≡ []
none_earlier number [] from = refl
none_earlier number (said ∷ behind) from = rw (le-ltb said.number number from.0) (none_earlier number behind from.1)

earlier_are : (all before behind : List Said) (said : Said) → all ≡ before ++ behind → AllBelow said.number before → AllFrom said.number behind
    → earlier_lines said all ≡ before
earlier_are all before behind said whole below from =
    search (rules, filter-append, all_earlier, none_earlier, append-nil)

-- whether an earlier line names a thread otherwise is seen by the names that are kept
pub otherwise_is : (all before behind : List Said) (names : List ThreadName) (said : Said) (thread : ℕ) (name : List ℕ) → all ≡ before ++ behind
    → AllBelow said.number before → AllFrom said.number behind → AreKept before names
    → is_named_otherwise all said thread name ≡ is_another (Some name) (name_of thread names)
otherwise_is all before behind names said thread name whole below from kept =
    ap (λ lines. list_any (is_other_name thread name) (names_given lines)) (earlier_are all before behind said whole below from)
    ∙ kept.agree thread name ∙ ap (is_another (Some name)) (name_kept before names thread kept)

-- ---- the names are fit

-- each row passes what each named thread passes
pub given_all : (q : ThreadName → Bool) → ((thread : ℕ) (name : List ℕ) → is_thread thread ≡ true → is_report_name name ≡ true → q (row_of thread name) ≡ true)
    → (thread number : ℕ) (more : List ParsedLine) → AllFit more → list_all q (names_given (said_from thread number more)) ≡ true
given_all q each thread number [] fit = refl
given_all q each thread number (Nothing ∷ more) fit = given_all q each thread (number + 1) more fit.1
given_all q each thread number (Posts event ∷ more) fit = given_all q each thread (number + 1) more fit.1
given_all q each thread number (Waits cond ∷ more) fit = given_all q each thread (number + 1) more fit.1
given_all q each thread number (Thread to None ∷ more) fit = given_all q each to (number + 1) more fit.1
given_all q each thread number (Thread to (Some name) ∷ more) fit =
    and_from (q (row_of to name)) (list_all q (names_given (said_from to (number + 1) more))) (each to name fit.0.0 fit.0.1)
    (given_all q each to (number + 1) more fit.1)
given_all q each thread number (Faulty kind ∷ more) fit = given_all q each thread (number + 1) more fit.1

pub first_all : (q : ThreadName → Bool) (rows : List ThreadName) → list_all q rows ≡ true → list_all q (first_names rows) ≡ true
first_all q [] all = refl
first_all q (row ∷ rows) all =
    let parts = and_parts (q row) (list_all q rows) all in
    let others = is_of_another row.thread in
    and_from (q row) (list_all q (filter others (first_names rows))) parts.0 (list_all-filter q others (first_names rows) (first_all q rows parts.1))

none-filter : (thread : ℕ) (p : ThreadName → Bool) (rows : List ThreadName) → is_none (name_of thread rows) ≡ true → is_none (name_of thread (filter p rows)) ≡ true
none-filter thread p [] none = refl
none-filter thread p (row ∷ rows) none = elim (cases_Bool (row.thread == thread)) [
  | inl is ↦ absurd (let found : is_none (Some row.name) ≡ true = rw is at none in cc)
  | inr isnt ↦
      let later : is_none (name_of thread rows) ≡ true = rw isnt at none in
      elim (cases_Bool (p row)) [
        | inl kept ↦ rw (kept, isnt) (none-filter thread p rows later)
        | inr dropped ↦ rw dropped (none-filter thread p rows later)
      ]
]

none_left : (thread : ℕ) (rows : List ThreadName) → is_none (name_of thread (filter (is_of_another thread) rows)) ≡ true
none_left thread [] = refl
none_left thread (row ∷ rows) = elim (cases_Bool (row.thread == thread)) [
  | inl is ↦ rw is (none_left thread rows)
  | inr isnt ↦ rw (isnt, isnt) (none_left thread rows)
]

names-cons : (row : ThreadName) (rows : List ThreadName) → is_report_name row.name ≡ true → is_none (name_of row.thread rows) ≡ true → are_names rows ≡ true
    → are_names (row ∷ rows) ≡ true
names-cons row rows fit none names =
    and_from (is_report_name row.name && is_none (name_of row.thread rows)) (are_names rows) (and_from (is_report_name row.name) (is_none (name_of row.thread rows)) fit none) names

names-filter : (p : ThreadName → Bool) (rows : List ThreadName) → are_names rows ≡ true → are_names (filter p rows) ≡ true
names-filter p [] names = refl
names-filter p (row ∷ rows) names =
    let fit = is_report_name row.name in
    let outer = and_parts (fit && is_none (name_of row.thread rows)) (are_names rows) names in
    let inner = and_parts fit (is_none (name_of row.thread rows)) outer.0 in
    let later : are_names (filter p rows) ≡ true = names-filter p rows outer.1 in
    elim (cases_Bool (p row)) [
      | inl kept ↦ rw kept (names-cons row (filter p rows) inner.0 (none-filter row.thread p rows inner.1) later)
      | inr dropped ↦ rw dropped later
    ]

pub first_are_names : (rows : List ThreadName) → list_all (λ row. is_report_name row.name) rows ≡ true → are_names (first_names rows) ≡ true
first_are_names [] fit = refl
first_are_names (row ∷ rows) fit =
    let parts = and_parts (is_report_name row.name) (list_all (λ row. is_report_name row.name) rows) fit in
    let others = is_of_another row.thread in
    names-cons row (filter others (first_names rows)) parts.0 (none_left row.thread (first_names rows)) (names-filter others (first_names rows) (first_are_names rows parts.1))
