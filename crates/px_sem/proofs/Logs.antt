-- How a legal log grows by one post.
use Rattle.std.proofs.Common.{◌≡◌, ℕ, nat_le, Bool, true, false, List, [], ◌∷◌, ◌++◌, length, filter, Option, Some, None, IsSome, refl, ap, sym, subst, ◌∙◌, arith, ◌+◌, ◌≤◌, length-append, append_assoc, append-nil}
use Rattle.std.specs.List.{list_all}
use Rattle.std.proofs.lemmas.Bool.Decides.{nat_tests}
use Rattle.std.proofs.lemmas.List.{map-append, length-map}
use Rattle.std.proofs.lemmas.List.Elements.{filter-append}
use Rattle.std.proofs.lemmas.List.Folds.{list_all-map}
use Rattle.px_value.proofs.General.{list_all-filter}
use Rattle.px_core.specs.Plan.{Site}
use Rattle.px_event.specs.declared.entry.Entry.{Entry}
use Rattle.px_event.specs.declared.event.Event.{Event}
use Rattle.px_event.specs.declared.reply.Reply.{Reply}
use Rattle.px_event.specs.Fit.{is_fit_entry}
use Rattle.px_event.specs.declared.reply.Reply.TheVariants as replies
use Rattle.px_sem.specs.declared.log.LogEntry.{LogEntry}
use Rattle.px_sem.specs.declared.standing.Standing.{Standing}
use Rattle.px_sem.specs.declared.standing.Standing.TheVariants.{Running, Finished}
use Rattle.px_sem.specs.World.{World, standing_of}
use Rattle.px_sem.specs.Run.{posted, started, settled_world, run_on, run}
use Rattle.px_sem.specs.Log.{Log, logged_as, events_of, is_accepted, accepted, posted_in, answer_by, answer, world_after, AnswersEach, PostsPart, IsLegal}
use Rattle.px_sem.specs.Stepper.{State, settled_state}

pub run_on_none : (plan : List Site) (now : Option World) → run_on plan now [] ≡ now
unfolding run_on
run_on_none plan None = refl
run_on_none plan (Some world) = refl

-- one event more in a run
run_on_more : (plan : List Site) (now : Option World) (history : List Event) (event : Event) (world : World)
    → run_on plan now history ≡ Some world
    → run_on plan now (history ++ event ∷ []) ≡ settled_world (posted plan world event)
unfolding run_on
run_on_more plan None [] event world is = absurd (cc)
run_on_more plan None (first ∷ history) event world is = absurd (cc)
run_on_more plan (Some now) [] event world is =
    let same : now ≡ world = (cc) in
    run_on_none plan (settled_world (posted plan now event))
    ∙ ap (λ w. settled_world (posted plan w event)) same
run_on_more plan (Some now) (first ∷ history) event world is =
    run_on_more plan (settled_world (posted plan now first)) history event world is

-- a run over a history is one over each front of it
pub run_on_front : (plan : List Site) (now : Option World) (front rest : List Event) → IsSome (run_on plan now (front ++ rest)) → IsSome (run_on plan now front)
unfolding run_on
run_on_front plan None front rest some = some
run_on_front plan (Some world) [] rest some = refl
run_on_front plan (Some world) (event ∷ front) rest some = run_on_front plan (settled_world (posted plan world event)) front rest some

-- the start alone
pub run_at_start : (plan : List Site) (world : World) (k : ℕ) → started plan ≡ Some (world, k) → run plan [] ≡ Some world
run_at_start plan world k is = run_on_none plan (settled_world (started plan)) ∙ ap settled_world is

-- who has settled after the start has run the empty history
pub run_started : (plan : List Site) (now : State) → (count : ℕ) × (started plan ≡ Some (now.world, count)) → now ≡ settled_state plan now.world
    → run now.nodes [] ≡ Some now.world
run_started plan now (count, start) rest =
    subst (λ nodes. run nodes [] ≡ Some now.world) (sym (ap (λ (s : State). s.nodes) rest)) (run_at_start plan now.world count start)

pub run_more : (plan : List Site) (history : List Event) (event : Event) (world : World) → run plan history ≡ Some world
    → run plan (history ++ event ∷ []) ≡ settled_world (posted plan world event)
run_more plan history event world is = run_on_more plan (settled_world (started plan)) history event world is

-- the accepted entries of two logs, one behind the other
pub accepted-append : (front back : Log) → accepted (front ++ back) ≡ accepted front ++ accepted back
accepted-append front back =
    let passes : LogEntry → Bool = λ logged. is_accepted logged.reply in
    ap posted_in (filter-append passes front back)
    ∙ map-append (λ (logged : LogEntry). logged.entry) (filter passes front) (filter passes back)

-- the events of a log's history
abbrev pub history_of : Log → List Event
history_of log = events_of (accepted log)

pub history-append : (front back : Log) → history_of (front ++ back) ≡ history_of front ++ history_of back
history-append front back = ap events_of (accepted-append front back) ∙ map-append (λ e. e.event) (accepted front) (accepted back)

-- one post more, answered over the history of its moment
pub answers_more : (plan : List Site) (limit : ℕ) (history : List Event) (log : Log) (logged : LogEntry) (world : World)
    → AnswersEach plan limit history log → run plan (history ++ history_of log) ≡ Some world
    → logged.reply ≡ answer plan limit (length (history ++ history_of log)) world logged.entry.event
    → AnswersEach plan limit history (log ++ logged ∷ [])
answers_more plan limit history [] logged world each runs is = (
  (world, sym (ap (run plan) (append-nil history)) ∙ runs, is ∙ ap (λ h. answer plan limit (length h) world logged.entry.event) (append-nil history)),
  tt,
)
answers_more plan limit history (first ∷ log) logged world each runs is =
    let behind : history ++ history_of (first ∷ log) ≡ (history ++ history_of (first ∷ [])) ++ history_of log =
    ap (λ events. history ++ events) (history-append (first ∷ []) log)
    ∙ sym (append_assoc history (history_of (first ∷ [])) (history_of log)) in (
      each.0,
      answers_more plan limit (history ++ history_of (first ∷ [])) log logged world each.1
          (sym (ap (run plan) behind) ∙ runs) (is ∙ ap (λ h. answer plan limit (length h) world logged.entry.event) behind),
    )

-- ---- posts one after another

-- so far, these entries were posted, with this log and this history
pub record IsPosting (plan : List Site) (limit : ℕ) (entries : List Entry) (log : Log) (history : List Entry) (now : State) (count : ℕ) : Type 0 where
  pub each : posted_in log ≡ entries
  pub answers : AnswersEach plan limit [] log
  pub accepts : history ≡ accepted log
  pub runs : run plan (history_of log) ≡ Some now.world
  pub rest : now ≡ settled_state plan now.world
  pub counted : count ≡ length (history_of log)
  pub within : count ≤ limit

-- what was posted so far is a front of all entries
pub posts_part : (plan : List Site) (limit : ℕ) (entries posted rest : List Entry) (log : Log) (history : List Entry) (now : State) (count : ℕ)
    → IsPosting plan limit posted log history now count → entries ≡ posted ++ rest → PostsPart plan limit entries now.world
posts_part plan limit entries posted rest log history now count so_far front =
    (log, rest, front ∙ ap (λ es. es ++ rest) (sym so_far.each), so_far.answers, so_far.runs)

-- the count and the history after a reply
abbrev pub counted_after : ℕ → Reply → ℕ
counted_after count (replies.Accepted position) = position
counted_after count replies.PlanFinished = count
counted_after count replies.Full = count
counted_after count replies.Runaway = count

abbrev pub history_after : List Entry → Entry → Reply → List Entry
history_after history entry (replies.Accepted position) = history ++ entry ∷ []
history_after history entry replies.PlanFinished = history
history_after history entry replies.Full = history
history_after history entry replies.Runaway = history

history_grows : (history : List Entry) (entry : Entry) (reply : Reply)
    → history_after history entry reply ≡ history ++ accepted (logged_as entry reply ∷ [])
history_grows history entry (replies.Accepted position) = refl
history_grows history entry replies.PlanFinished = sym (append-nil history)
history_grows history entry replies.Full = sym (append-nil history)
history_grows history entry replies.Runaway = sym (append-nil history)

-- what an answer does to the run and to the count
pub record Follows (plan : List Site) (history : List Event) (world : World) (entry : Entry) (reply : Reply) : Type 0 where
  pub runs : run plan (history ++ history_of (logged_as entry reply ∷ [])) ≡ Some (world_after plan world entry.event reply)
  pub counted : counted_after (length history) reply ≡ length (history ++ history_of (logged_as entry reply ∷ []))

kept : (plan : List Site) (history : List Event) (world : World) (entry : Entry) (reply : Reply) → run plan history ≡ Some world
    → history_of (logged_as entry reply ∷ []) ≡ [] → world_after plan world entry.event reply ≡ world → counted_after (length history) reply ≡ length history
    → Follows plan history world entry reply
kept plan history world entry reply runs refused same count =
    let unchanged : history ++ history_of (logged_as entry reply ∷ []) ≡ history = ap (λ events. history ++ events) refused ∙ append-nil history in
    record {
      runs = ap (run plan) unchanged ∙ runs ∙ ap Some (sym same);
      counted = count ∙ ap length (sym unchanged);
    }

-- what an accepted answer tells
pub accepted_by : (s : Standing) (full : Bool) (o : Option (World × ℕ)) (count position : ℕ) → answer_by s full o count ≡ replies.Accepted position
    → (found : World × ℕ) × (o ≡ Some found) × (position ≡ count + 1) × (full ≡ false)
accepted_by (Finished outcome failure) full o count position is = absurd (cc)
accepted_by Running true o count position is = absurd (cc)
accepted_by Running false None count position is = absurd (cc)
accepted_by Running false (Some found) count position is = (found, refl, (cc), refl)

-- what was answered so does so
pub follows : (plan : List Site) (limit : ℕ) (history : List Event) (world : World) (entry : Entry) (reply : Reply) → run plan history ≡ Some world
    → reply ≡ answer plan limit (length history) world entry.event → Follows plan history world entry reply
follows plan limit history world entry replies.PlanFinished runs is = kept plan history world entry replies.PlanFinished runs refl refl refl
follows plan limit history world entry replies.Full runs is = kept plan history world entry replies.Full runs refl refl refl
follows plan limit history world entry replies.Runaway runs is = kept plan history world entry replies.Runaway runs refl refl refl
follows plan limit history world entry (replies.Accepted position) runs is =
    let found = accepted_by (standing_of plan world) (nat_le limit (length history)) (posted plan world entry.event) (length history) position (sym is) in
    record {
      runs = run_more plan history entry.event world runs
          ∙ ap settled_world found.1
          ∙ sym (after found.0 found.1);
      counted = found.2 ∙ sym (length-append history (entry.event ∷ []));
    }
  where
    after : (found : World × ℕ) → posted plan world entry.event ≡ Some found
        → ◌≡◌ {A = Option World} (Some (world_after plan world entry.event (replies.Accepted position))) (Some found.0)
    after found is = rw is refl

below : (full : Bool) (limit count position : ℕ) → nat_le limit count ≡ full → full ≡ false → position ≡ count + 1 → position ≤ limit
below full limit count position test passes is = let above : nat_le limit count ≡ false = test ∙ passes in grind (arith, nat_tests)

-- a history does not grow past its limit
within_after : (plan : List Site) (limit count : ℕ) (world : World) (event : Event) (reply : Reply) → count ≤ limit
    → reply ≡ answer plan limit count world event → counted_after count reply ≤ limit
within_after plan limit count world event (replies.Accepted position) within is =
    let found = accepted_by (standing_of plan world) (nat_le limit count) (posted plan world event) count position (sym is) in
    below (nat_le limit count) limit count position refl found.3 found.2
within_after plan limit count world event replies.PlanFinished within is = within
within_after plan limit count world event replies.Full within is = within
within_after plan limit count world event replies.Runaway within is = within

-- a legal log runs on
legal_run : (plan : List Site) (limit : ℕ) (before : List Event) (log : Log) → IsSome (run plan before)
    → AnswersEach plan limit before log → IsSome (run plan (before ++ history_of log))
legal_run plan limit before [] some answers = subst (λ events. IsSome (run plan events)) (sym (append-nil before)) some
legal_run plan limit before (logged ∷ log) some answers =
    let now = answers.0 in
    let step : Follows plan before now.0 logged.entry logged.reply = follows plan limit before now.0 logged.entry logged.reply now.1 now.2 in
    let next : IsSome (run plan (before ++ history_of (logged ∷ []))) = rw step.runs refl in
    subst (λ events. IsSome (run plan events))
    (append_assoc before (history_of (logged ∷ [])) (history_of log) ∙ ap (λ more. before ++ more) (sym (history-append (logged ∷ []) log)))
    (legal_run plan limit (before ++ history_of (logged ∷ [])) log next answers.1)

pub legal_log_runs : (plan : List Site) (history : List Entry) (limit : ℕ) (log : Log) → IsLegal plan history limit log
    → IsSome (run plan (events_of (history ++ accepted log)))
legal_log_runs plan history limit log legal =
    subst (λ events. IsSome (run plan events)) (sym (map-append (λ e. e.event) history (accepted log)))
    (legal_run plan limit (events_of history) log legal.runs legal.answers)

-- what was accepted is as fit as what was posted
pub fit_accepted : (log : Log) → list_all is_fit_entry (posted_in log) ≡ true → list_all is_fit_entry (accepted log) ≡ true
fit_accepted log fit =
    list_all-map is_fit_entry (λ (logged : LogEntry). logged.entry) (filter (λ logged. is_accepted logged.reply) log)
    ∙ list_all-filter (λ (logged : LogEntry). is_fit_entry logged.entry) (λ logged. is_accepted logged.reply) log
    (sym (list_all-map is_fit_entry (λ (logged : LogEntry). logged.entry) log) ∙ fit)

pub posting_more : (plan : List Site) (limit : ℕ) (entries : List Entry) (log : Log) (history : List Entry) (now next : State) (count : ℕ) (entry : Entry) (reply : Reply)
    → IsPosting plan limit entries log history now count
    → reply ≡ answer now.nodes limit count now.world entry.event
    → next ≡ settled_state now.nodes (world_after now.nodes now.world entry.event reply)
    → IsPosting plan limit (entries ++ entry ∷ []) (log ++ logged_as entry reply ∷ []) (history_after history entry reply) next (counted_after count reply)
posting_more plan limit entries log history now next count entry reply so_far is moved = record {
  each = map-append (λ l. l.entry) log (logged ∷ []) ∙ ap (λ es. es ++ entry ∷ []) so_far.each;
  answers = answers_more plan limit [] log logged now.world so_far.answers so_far.runs reply_is;
  accepts = history_grows history entry reply ∙ ap (λ h. h ++ accepted (logged ∷ [])) so_far.accepts ∙ sym (accepted-append log (logged ∷ []));
  runs = ap (run plan) (history-append log (logged ∷ [])) ∙ after.runs ∙ ap Some (sym world_is);
  rest = moved ∙ ap (λ nodes. settled_state nodes (world_after now.nodes now.world entry.event reply)) nodes_is ∙ ap (settled_state plan) (sym (ap (λ (s : State). s.world) moved));
  counted = ap (λ n. counted_after n reply) so_far.counted ∙ after.counted ∙ ap length (sym (history-append log (logged ∷ [])));
  within = within_after now.nodes limit count now.world entry.event reply so_far.within is;
}
  where
    logged : LogEntry
    logged = logged_as entry reply

    nodes_is : now.nodes ≡ plan
    nodes_is = ap (λ (s : State). s.nodes) so_far.rest

    reply_is : reply ≡ answer plan limit (length (history_of log)) now.world entry.event
    reply_is = is ∙ ap (λ nodes. answer nodes limit count now.world entry.event) nodes_is ∙ ap (λ n. answer plan limit n now.world entry.event) so_far.counted

    after : Follows plan (history_of log) now.world entry reply
    after = follows plan limit (history_of log) now.world entry reply so_far.runs reply_is

    world_is : next.world ≡ world_after plan now.world entry.event reply
    world_is = ap (λ (s : State). s.world) moved ∙ ap (λ nodes. world_after nodes now.world entry.event reply) nodes_is

-- one entry more with its reply, where the count is that of the history
pub posting_then : (plan : List Site) (limit : ℕ) (entries : List Entry) (log next_log : Log) (history next_history : List Entry) (now next : State)
    (entry : Entry) (reply : Reply) → IsPosting plan limit entries log history now (length history)
    → reply ≡ answer now.nodes limit (length history) now.world entry.event
    → next ≡ settled_state now.nodes (world_after now.nodes now.world entry.event reply)
    → next_log ≡ log ++ logged_as entry reply ∷ []
    → next_history ≡ history ++ accepted (logged_as entry reply ∷ [])
    → IsPosting plan limit (entries ++ entry ∷ []) next_log next_history next (length next_history)
posting_then plan limit entries log next_log history next_history now next entry reply so_far is moved logs grows =
    let posted = entries ++ entry ∷ [] in
    let after = history_after history entry reply in
    let made = posting_more plan limit entries log history now next (length history) entry reply so_far is moved in
    let counts : counted_after (length history) reply ≡ length after =
    made.counted ∙ length-map (accepted (log ++ logged_as entry reply ∷ [])) (λ e. e.event) ∙ ap length (sym made.accepts) in
    subst (λ l. IsPosting plan limit posted l next_history next (length next_history)) (sym logs)
    (subst (λ h. IsPosting plan limit posted (log ++ logged_as entry reply ∷ []) h next (length h)) (history_grows history entry reply ∙ sym grows)
    (subst (IsPosting plan limit posted (log ++ logged_as entry reply ∷ []) after next) counts made))
