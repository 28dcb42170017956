-- A sound history goes on soundly as a log follows what it leaves of a fit script.
use Rattle.std.proofs.Common.{rules, ◌≡◌, ℕ, ◌+◌, true, List, [], ◌∷◌, ◌++◌, map, get_or, take, refl, sym, ap, ◌∙◌, subst, eqb, inl, inr}
use Rattle.std.specs.Prelude.{nat_lt, IfSome, ◌⊎◌}
use Rattle.std.specs.List.{list_all, filter, All, Contains}
use Rattle.std.proofs.lemmas.List.{map-append, append-nil, append_assoc, take_more}
use Rattle.std.proofs.lemmas.List.Elements.{filter_map-append, All-nil, All-cons, All-head, All-tail, All-append, All-push, All-weaker, All-take, All-map, All-filter, All-contains, All-contains_itself, Contains-append_left, Contains-append_right}
use Rattle.std.proofs.lemmas.List.Sums.{AllPass-from_list_all}
use Rattle.std.proofs.lemmas.Option.{slice_get_within, get_or_from_slice_get}
use Rattle.std.proofs.lemmas.Bool.{eqb-true, eq-eqb, cases_Bool}
use Rattle.px_value.proofs.General.{All-front, All-unmap, all_given}
use Rattle.px_core.specs.Plan.{Site}
use Rattle.px_event.specs.declared.entry.Entry.{Entry}
use Rattle.px_script.specs.Fit.{rise_above, are_fit_lines, IsFitScript}
use Rattle.px_script.specs.Follows.{HasOnly, GoesThrough, Follows, IsNextPost}
use Rattle.px_script.specs.Order.{entry_of, posts_of, thread_entries, all_entries}
use Rattle.px_script.specs.Remainder.{entries_of, last_line, left_of, has_a_line, rest}
use Rattle.px_script.specs.Sound.{IsSoundFor}
use Rattle.px_script.specs.declared.line.Line.{Line}
use Rattle.px_script.specs.declared.line.What.TheVariants as whats
use Rattle.px_script.specs.declared.script.Script.{Script}
use Rattle.px_script.specs.declared.todo.Todo.{Todo}
use Rattle.px_script.proofs.Remainders.{line_of, numbers_of, fit_parts}
use Rattle.px_script.proofs.Thins.{All-unfilter, each_given, rise-front, rise-append, rise-take, lines_above_rise, posts_rise, numbers_of-append, accepted_rise}
use Rattle.px_script.proofs.Walks.{line_at, posted_by}
use Rattle.px_sem.specs.Log.{Log, is_accepted, posted_in, accepted}
use Rattle.px_sem.specs.declared.log.LogEntry.{LogEntry}

-- ---- fronts, and what goes on

pub sound_front : (threads : List Todo) (history more : List Entry) → IsSoundFor threads (history ++ more) → IsSoundFor threads history
sound_front threads history more sound = record {
  posts = All-front (Contains (all_entries threads)) history more sound.posts;
  rises = λ thread.
      rise-front 0 (numbers_of thread history) (numbers_of thread more)
      (ap (rise_above 0) (sym (numbers_of-append thread history more)) ∙ sound.rises thread);
}

-- entries of the script, each thread's above what came before
sound_behind : (threads : List Todo) (first entries : List Entry) → IsSoundFor threads first → All (Contains (all_entries threads)) entries
    → ((thread : ℕ) → rise_above (last_line thread first) (numbers_of thread entries) ≡ true) → IsSoundFor threads (first ++ entries)
sound_behind threads first entries sound posts rising = record {
  posts = All-append (Contains (all_entries threads)) first entries sound.posts posts;
  rises = λ thread.
      ap (rise_above 0) (numbers_of-append thread first entries)
      ∙ rise-append 0 (numbers_of thread first) (numbers_of thread entries) (sound.rises thread) (rising thread);
}

-- ---- what the rest posts, the script posts

abbrev Posts : (Entry → Type 0) → Todo → Type 0
Posts P todo = All (λ line. IfSome (entry_of todo.thread line) P) todo.lines

threads_post : (threads : List Todo) → All (λ todo. All (Contains (all_entries threads)) (thread_entries todo)) threads
threads_post [] = All-nil (λ (todo : Todo). All (Contains (all_entries [])) (thread_entries todo))
threads_post (todo ∷ threads) =
    let among = Contains (all_entries (todo ∷ threads)) in
    All-cons (λ (todo : Todo). All among (thread_entries todo)) todo threads
    (All-weaker (Contains (thread_entries todo)) among (λ entry one. Contains-append_left (thread_entries todo) (all_entries threads) entry one)
    (thread_entries todo) (All-contains_itself (thread_entries todo)))
    (All-weaker (λ (other : Todo). All (Contains (all_entries threads)) (thread_entries other)) (λ (other : Todo). All among (thread_entries other))
    (λ other all.
    All-weaker (Contains (all_entries threads)) among (λ entry one. Contains-append_right (thread_entries todo) (all_entries threads) entry one)
    (thread_entries other) all)
    threads (threads_post threads))

rest_posts : (threads : List Todo) (history : List Entry) → All (Posts (Contains (all_entries threads))) (rest threads history)
rest_posts threads history =
    let among = Contains (all_entries threads) in
    All-filter has_a_line (Posts among) (map (left_of history) threads)
    (All-map (Posts among) (left_of history) threads
    (All-weaker (λ (todo : Todo). All among (thread_entries todo)) (λ (todo : Todo). Posts among (left_of history todo))
    (λ todo all.
    All-filter (λ (line : Line). nat_lt (last_line todo.thread history) line.number) (λ (line : Line). IfSome (entry_of todo.thread line) among) todo.lines
    (each_given among (entry_of todo.thread) todo.lines all))
    threads (threads_post threads)))

-- ---- the lines of the rest rise above what the history has

abbrev RisesBehind : List Entry → Todo → Type 0
RisesBehind history todo = rise_above (last_line todo.thread history) (map (λ line. line.number) todo.lines) ≡ true

rest_rises : (threads : List Todo) (history : List Entry) → list_all (λ todo. are_fit_lines todo.lines) threads ≡ true → All (RisesBehind history) (rest threads history)
rest_rises threads history fit =
    All-filter has_a_line (RisesBehind history) (map (left_of history) threads)
    (All-map (RisesBehind history) (left_of history) threads
    (All-weaker (λ (todo : Todo). are_fit_lines todo.lines ≡ true) (λ (todo : Todo). RisesBehind history (left_of history todo))
    (λ todo lines. lines_above_rise (last_line todo.thread history) 0 todo.lines (fit_parts todo.lines lines).rising)
    threads (AllPass-from_list_all (λ (todo : Todo). are_fit_lines todo.lines) threads fit)))

-- ---- a log that follows threads

-- one of the threads has this number, or the log has no entry of it
present : (threads : List Todo) (thread : ℕ) (log : Log) → HasOnly threads log
    → ((todo : Todo) × Contains threads todo × (todo.thread ≡ thread)) ⊎ (entries_of thread (posted_in log) ≡ [])
present threads thread [] only = inr refl
present threads thread (logged ∷ log) only =
    let OneHas = λ (logged : LogEntry). (todo : Todo) × Contains threads todo × (todo.thread ≡ logged.entry.thread) in
    elim (cases_Bool (eqb logged.entry.thread thread)) [
      | inl is ↦
          let one = All-head OneHas logged log only in
          inl (one.0, one.1, one.2 ∙ eqb-true logged.entry.thread thread is)
      | inr isnt ↦ rw isnt (present threads thread log (All-tail OneHas logged log only))
    ]

module _ (plan : List Site) (first : List Entry) (log : Log) where
  thread_posts : (P : Entry → Type 0) (todo : Todo) (count : ℕ) → GoesThrough plan first log todo count → Posts P todo
      → All (λ entry. eqb entry.thread todo.thread ≡ true → P entry) (posted_in log)
  thread_posts P todo count through posts =
      All-unfilter P (λ (entry : Entry). eqb entry.thread todo.thread) (posted_in log)
      (subst (All P) (sym through.entries)
      (all_given P (entry_of todo.thread) (take count todo.lines) (All-take (λ (line : Line). IfSome (entry_of todo.thread line) P) count todo.lines posts)))

  -- what holds of each post of the threads holds of each entry
  log_posts : (P : Entry → Type 0) (threads : List Todo) → All (Posts P) threads → Follows plan first log threads → All (λ logged. P logged.entry) log
  log_posts P threads posts follows k d within =
      let one = follows.only k d within in
      let through = All-contains (λ (todo : Todo). (count : ℕ) × GoesThrough plan first log todo count) threads one.0 follows.each one.1 in
      let own = thread_posts P one.0 through.0 through.1 (All-contains (Posts P) threads one.0 posts one.1) in
      All-unmap (λ (entry : Entry). eqb entry.thread one.0.thread ≡ true → P entry) (λ (logged : LogEntry). logged.entry) log own k d within
      (eq-eqb (get_or log k d).entry.thread one.0.thread (sym one.2))

  accepted_posts : (P : Entry → Type 0) (threads : List Todo) → All (Posts P) threads → Follows plan first log threads → All P (accepted log)
  accepted_posts P threads posts follows =
      let keeps = λ (logged : LogEntry). is_accepted logged.reply in
      All-map P (λ (logged : LogEntry). logged.entry) (filter keeps log)
      (All-filter keeps (λ (logged : LogEntry). P logged.entry) log (log_posts P threads posts follows))

  thread_rises : (todo : Todo) (count : ℕ) → GoesThrough plan first log todo count → RisesBehind first todo
      → rise_above (last_line todo.thread first) (numbers_of todo.thread (posted_in log)) ≡ true
  thread_rises todo count through rising =
      search (rules, line_of, posts_rise, rise-take)

  log_rises : (threads : List Todo) (thread : ℕ) → All (RisesBehind first) threads → Follows plan first log threads
      → rise_above (last_line thread first) (numbers_of thread (posted_in log)) ≡ true
  log_rises threads thread rising follows =
      elim (present threads thread log follows.only) [
        | inl one ↦
            let through = All-contains (λ (todo : Todo). (count : ℕ) × GoesThrough plan first log todo count) threads one.0 follows.each one.1 in
            subst (λ (thread : ℕ). rise_above (last_line thread first) (numbers_of thread (posted_in log)) ≡ true) one.2
            (thread_rises one.0 through.0 through.1 (All-contains (RisesBehind first) threads one.0 rising one.1))
        | inr none ↦ ap (λ (entries : List Entry). rise_above (last_line thread first) (map line_of entries)) none
      ]

  -- ---- the next post

  next_posts : (P : Entry → Type 0) (threads : List Todo) (entry : Entry) → All (Posts P) threads → IsNextPost plan first log threads entry → P entry
  next_posts P threads entry posts next =
      let todo = next.todo in
      let line = line_at entry.line (whats.Post entry.event) in
      let is : get_or todo.lines next.count line ≡ line = get_or_from_slice_get todo.lines next.count line line next.line in
      let own : P (posted_by todo.thread entry.line entry.event)
      = subst (λ (line : Line). IfSome (entry_of todo.thread line) P) is
      (All-contains (Posts P) threads todo posts next.one_of next.count line (slice_get_within todo.lines next.count line next.line)) in
      subst (λ (thread : ℕ). P (posted_by thread entry.line entry.event)) next.thread own

  own_next_rises : (threads : List Todo) (entry : Entry) (next : IsNextPost plan first log threads entry) → RisesBehind first next.todo
      → rise_above (last_line next.todo.thread first) (numbers_of next.todo.thread (posted_in log) ++ entry.line ∷ []) ≡ true
  own_next_rises threads entry next rising =
      let todo = next.todo in
      let last = last_line todo.thread first in
      let line = line_at entry.line (whats.Post entry.event) in
      let before = take next.count todo.lines in
      let within = slice_get_within todo.lines next.count line next.line in
      let lines : take (next.count + 1) todo.lines ≡ before ++ line ∷ []
      = take_more todo.lines next.count line within
      ∙ ap (λ (line : Line). before ++ line ∷ []) (get_or_from_slice_get todo.lines next.count line line next.line) in
      let numbers : map line_of (posts_of todo.thread (before ++ line ∷ [])) ≡ numbers_of todo.thread (posted_in log) ++ entry.line ∷ []
      = ap (map line_of) (filter_map-append (entry_of todo.thread) before (line ∷ []))
      ∙ map-append line_of (posts_of todo.thread before) (posted_by todo.thread entry.line entry.event ∷ [])
      ∙ ap (λ (entries : List Entry). map line_of entries ++ entry.line ∷ []) (sym next.before.entries) in
      let all = rise-take (λ (line : Line). line.number) last (next.count + 1) todo.lines rising in
      ap (rise_above last) (sym numbers)
      ∙ posts_rise todo.thread last (before ++ line ∷ []) (ap (λ (lines : List Line). rise_above last (map (λ line. line.number) lines)) (sym lines) ∙ all)

  next_rises : (threads : List Todo) (entry : Entry) (thread : ℕ) → All (RisesBehind first) threads → Follows plan first log threads
      → IsNextPost plan first log threads entry → rise_above (last_line thread first) (numbers_of thread (posted_in log ++ entry ∷ [])) ≡ true
  next_rises threads entry thread rising follows next =
      let last = last_line thread first in
      ap (rise_above last) (numbers_of-append thread (posted_in log) (entry ∷ []))
      ∙ elim (cases_Bool (eqb entry.thread thread)) [
        | inl is ↦
            rw is
            (subst (λ (thread : ℕ). rise_above (last_line thread first) (numbers_of thread (posted_in log) ++ entry.line ∷ []) ≡ true)
            (next.thread ∙ eqb-true entry.thread thread is)
            (own_next_rises threads entry next (All-contains (RisesBehind first) threads next.todo rising next.one_of)))
        | inr isnt ↦ rw isnt (ap (rise_above last) (append-nil (numbers_of thread (posted_in log))) ∙ log_rises threads thread rising follows)
      ]

-- ---- the laws

pub sound_follows : (script : Script) → IsFitScript script → (plan : List Site) (first : List Entry) (log : Log) → IsSoundFor script.threads first
    → Follows plan first log (rest script.threads first) → IsSoundFor script.threads (first ++ accepted log)
sound_follows script fit plan first log sound follows =
    let left = rest script.threads first in
    let among = Contains (all_entries script.threads) in
    sound_behind script.threads first (accepted log) sound
    (accepted_posts plan first log among left (rest_posts script.threads first) follows)
    (λ thread.
    let last = last_line thread first in
    ap (λ (entries : List Entry). rise_above last (numbers_of thread entries)) (sym (append-nil (accepted log)))
    ∙ accepted_rise thread log [] last
    (ap (λ (entries : List Entry). rise_above last (numbers_of thread entries)) (append-nil (posted_in log))
    ∙ log_rises plan first log left thread (rest_rises script.threads first fit.lines) follows))

pub sound_next : (script : Script) → IsFitScript script → (plan : List Site) (first : List Entry) (log : Log) (entry : Entry) → IsSoundFor script.threads first
    → Follows plan first log (rest script.threads first) → IsNextPost plan first log (rest script.threads first) entry
    → IsSoundFor script.threads ((first ++ accepted log) ++ entry ∷ [])
sound_next script fit plan first log entry sound follows next =
    let left = rest script.threads first in
    let among = Contains (all_entries script.threads) in
    let posts = rest_posts script.threads first in
    subst (IsSoundFor script.threads) (sym (append_assoc first (accepted log) (entry ∷ [])))
    (sound_behind script.threads first (accepted log ++ entry ∷ []) sound
    (All-push among (accepted log) entry (accepted_posts plan first log among left posts follows) (next_posts plan first log among left entry posts next))
    (λ thread.
    accepted_rise thread log (entry ∷ []) (last_line thread first)
    (next_rises plan first log left entry thread (rest_rises script.threads first fit.lines) follows next)))
