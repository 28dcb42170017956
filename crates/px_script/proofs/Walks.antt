-- How a thread's walk through a log goes on as the log grows, and as it passes one line more.
use Rattle.std.proofs.Common.{◌≡◌, ℕ, ◌≤◌, List, [], ◌∷◌, ◌++◌, length, Some, refl, sym, ap, ◌∙◌, subst, arith}
use Rattle.std.specs.List.{slice_get}
use Rattle.std.proofs.iter.runs.Lists.{nth_left, nth_seam}
use Rattle.std.proofs.lemmas.List.{map-append, append-nil, append_assoc, length-append, length-map, length_push, take_all, take-append-le}
use Rattle.std.proofs.lemmas.Option.{slice_get_within}
use Rattle.px_core.specs.Plan.{Site}
use Rattle.px_event.specs.declared.entry.Entry.{Entry}
use Rattle.px_event.specs.declared.cond.Cond.{Cond}
use Rattle.px_event.specs.declared.event.Event.{Event}
use Rattle.px_event.specs.declared.reply.Reply.{Reply}
pub use Rattle.px_event.specs.Fit.{entry_of as posted_by}
use Rattle.px_script.specs.Follows.{PassesAt, place_behind, Walks}
use Rattle.px_script.specs.declared.line.Line.{Line}
use Rattle.px_script.specs.declared.line.What.{What}
use Rattle.px_script.specs.declared.line.What.TheVariants as whats
use Rattle.px_sem.specs.Asking.{IsMetBehind}
use Rattle.px_sem.specs.Log.{Log, logged_as, accepted, posted_in}

-- an element stays with more behind the list
pub slice_get-append : {X : Type 0} (xs ys : List X) (at : ℕ) (x : X) → slice_get xs at ≡ Some x → slice_get (xs ++ ys) at ≡ Some x
slice_get-append xs ys at x is = nth_left xs ys at (slice_get_within xs at x is) ∙ is

-- a line of this number
abbrev pub line_at : ℕ → What → Line
line_at number what = record { number = number; what = what }

module _ (plan : List Site) (first : List Entry) where
  -- the place behind a line isn't before it
  pub behind_is : (log : Log) (at : ℕ) (what : What) → at ≤ place_behind plan first log at what
  behind_is log at (whats.Post event) = omega arith
  behind_is log at (whats.Wait cond) = omega arith

  -- a walk stays within the log
  pub walks_within : (log : Log) (thread from : ℕ) (lines : List Line) → Walks plan first log thread from lines → from ≤ length log
  walks_within log thread from [] walk = walk
  walks_within log thread from (line ∷ lines) walk =
      omega (arith, walk.1, behind_is log walk.0 line.what, walks_within log thread (place_behind plan first log walk.0 line.what) lines walk.3)

  -- a line is passed at the same place over a log with more behind it
  passes_longer : (log more : Log) (thread at number : ℕ) (what : What) → place_behind plan first log at what ≤ length log
      → PassesAt plan first log thread at (line_at number what) → PassesAt plan first (log ++ more) thread at (line_at number what)
  passes_longer log more thread at number (whats.Post event) within passes =
      rw (map-append (λ logged. logged.entry) log more) (slice_get-append (posted_in log) (posted_in more) at _ passes)
  passes_longer log more thread at number (whats.Wait cond) within passes =
      subst (λ (front : Log). IsMetBehind plan (first ++ accepted front) cond) (sym (take-append-le at log more within)) passes

  -- the place behind a line doesn't depend on the log
  same_behind : (log more : Log) (at : ℕ) (what : What) → place_behind plan first log at what ≡ place_behind plan first (log ++ more) at what
  same_behind log more at (whats.Post event) = refl
  same_behind log more at (whats.Wait cond) = refl

  -- a walk from a place is one from a place before it
  walks_sooner : (log : Log) (thread from sooner : ℕ) (lines : List Line) → sooner ≤ from → Walks plan first log thread from lines
      → Walks plan first log thread sooner lines
  walks_sooner log thread from sooner [] order walk = omega (arith, order, walk)
  walks_sooner log thread from sooner (line ∷ lines) order walk = (walk.0, omega (arith, order, walk.1), walk.2, walk.3)

  -- lines that walk through a log, and those that walk on from its end through what came since, walk through both
  pub walks_joined : (log more : Log) (thread from : ℕ) (lines others : List Line) → Walks plan first log thread from lines
      → Walks plan first (log ++ more) thread (length log) others → Walks plan first (log ++ more) thread from (lines ++ others)
  walks_joined log more thread from [] others walk next = walks_sooner (log ++ more) thread (length log) from others walk next
  walks_joined log more thread from (line ∷ lines) others walk next =
      let behind = place_behind plan first log walk.0 line.what in (
        walk.0,
        walk.1,
        passes_longer log more thread walk.0 line.number line.what (walks_within log thread behind lines walk.3) walk.2,
        subst (λ (from : ℕ). Walks plan first (log ++ more) thread from (lines ++ others)) (same_behind log more walk.0 line.what)
            (walks_joined log more thread behind lines others walk.3 next),
      )

  -- and a line behind them that is passed at a place in what came since
  pub walks_then : (log more : Log) (thread from : ℕ) (lines : List Line) (line : Line) (at : ℕ) → Walks plan first log thread from lines
      → length log ≤ at → place_behind plan first (log ++ more) at line.what ≤ length (log ++ more)
      → PassesAt plan first (log ++ more) thread at line → Walks plan first (log ++ more) thread from (lines ++ line ∷ [])
  walks_then log more thread from lines line at walk later within passes =
      walks_joined log more thread from lines (line ∷ []) walk (at, later, passes, within)

  -- and the lines alone walk through both
  pub walks_longer : (log more : Log) (thread from : ℕ) (lines : List Line) → Walks plan first log thread from lines
      → Walks plan first (log ++ more) thread from lines
  walks_longer log more thread from lines walk =
      subst (λ (lines : List Line). Walks plan first (log ++ more) thread from lines) (append-nil lines)
      (walks_joined log more thread from lines [] walk (omega (arith, length-append log more)))

module _ (plan : List Site) (first : List Entry) where
  -- a line that posts is passed where its post has come, the last of all
  pub walks_post : (log others : Log) (thread from : ℕ) (lines : List Line) (number : ℕ) (event : Event) (reply : Reply)
      → Walks plan first log thread from lines
      → Walks plan first (log ++ (others ++ logged_as (posted_by thread number event) reply ∷ [])) thread from (lines ++ line_at number (whats.Post event) ∷ [])
  walks_post log others thread from lines number event reply walk =
      let entry = posted_by thread number event in
      let more = others ++ logged_as entry reply ∷ [] in
      let stands : slice_get (posted_in (log ++ more)) (length (log ++ others)) ≡ Some entry
      = ap (λ (entries : List Entry). slice_get entries (length (log ++ others)))
      (ap posted_in (sym (append_assoc log others (logged_as entry reply ∷ []))) ∙ map-append (λ logged. logged.entry) (log ++ others) (logged_as entry reply ∷ []))
      ∙ ap (λ (at : ℕ). slice_get (posted_in (log ++ others) ++ entry ∷ []) at) (sym (length-map (log ++ others) (λ logged. logged.entry)))
      ∙ nth_seam (posted_in (log ++ others)) entry in
      walks_then plan first log more thread from lines (line_at number (whats.Post event)) (length (log ++ others)) walk
      (omega (arith, length-append log others))
      (omega (arith, length-append log others, length-append log more, length_push others (logged_as entry reply)))
      stands

  -- a wait is passed where its condition is met behind all that has come
  pub walks_wait : (log more : Log) (thread from : ℕ) (lines : List Line) (number : ℕ) (cond : Cond) → Walks plan first log thread from lines
      → IsMetBehind plan (first ++ accepted (log ++ more)) cond
      → Walks plan first (log ++ more) thread from (lines ++ line_at number (whats.Wait cond) ∷ [])
  walks_wait log more thread from lines number cond walk met =
      walks_then plan first log more thread from lines (line_at number (whats.Wait cond)) (length (log ++ more)) walk
      (omega (arith, length-append log more)) (omega arith)
      (subst (λ (front : Log). IsMetBehind plan (first ++ accepted front) cond) (sym (take_all (length (log ++ more)) (log ++ more) (omega arith))) met)
