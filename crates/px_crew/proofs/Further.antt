-- Walks of a thread's lines one after another, from the place at which the one before has stopped.
use Rattle.std.proofs.Common.{◌≡◌, ◌≢◌, ℕ, ◌≤◌, List, ◌++◌, length, take, drop, Option, Some, None, IsSome, Result, Ok, Err, inl, inr, refl, sym, ap, ◌∙◌, subst, arith}
use Rattle.std.specs.List.{slice_get}
use Rattle.std.proofs.lemmas.List.{append_assoc, length-take, take-take, take-append-drop, drop-append-le}
use Rattle.std.proofs.lemmas.List.Elements.{filter_map-append}
use Rattle.std.proofs.lemmas.Option.{none-some, same_Some}
use Rattle.px_event.specs.declared.entry.Entry.{Entry}
use Rattle.px_script.specs.Order.{entry_of, posts_of, thread_entries}
use Rattle.px_script.specs.declared.line.Line.{Line}
use Rattle.px_script.specs.declared.line.What.{What}
use Rattle.px_script.specs.declared.line.What.TheVariants as whats
use Rattle.px_script.specs.declared.todo.Todo.{Todo}
use Rattle.px_script.specs.declared.worker.WorkEnd.TheVariants as works
use Rattle.px_script.specs.Follows.{Walks}
use Rattle.px_crew.specs.Board.{Board, IsLater}
use Rattle.px_crew.specs.Standstill.{IsHeld}
use Rattle.px_crew.specs.Walk.{lines_between, EndsAt, Walked}
use Rattle.px_crew.specs.Work.{work_end}
use Rattle.px_crew.specs.declared.walking.Reach.{Reach}
use Rattle.px_crew.specs.declared.walking.Stop.{Stop}
use Rattle.px_crew.specs.declared.walking.Stop.TheVariants as stops
use Rattle.px_crew.proofs.Passing.{Walking, later_then, walks_same}
use Rattle.px_script.proofs.Walks.{line_at, posted_by, walks_joined}

-- a front of lines and those behind it, up to a place, are the front up to that place
pub front_and_between : (lines : List Line) (from to : ℕ) → from ≤ to → take from lines ++ drop from (take to lines) ≡ take to lines
front_and_between lines from to order =
    ap (λ (front : List Line). front ++ drop from (take to lines)) (sym (take-take from to lines order)) ∙ take-append-drop from (take to lines)

lines_then : (lines : List Line) (from at to : ℕ) → from ≤ at → at ≤ to → at ≤ length lines
    → drop from (take to lines) ≡ drop from (take at lines) ++ drop at (take to lines)
lines_then lines from at to before after within =
    ap (drop from) (sym (front_and_between lines at to after))
    ∙ drop-append-le from (take at lines) (drop at (take to lines)) (omega (arith, length-take at lines))

-- lines that walk through what was shown, and those that walk on through what came since, walk through all
walks_behind : (old new : Board) (thread from : ℕ) (lines others : List Line) → IsLater old new → Walks old.plan old.first old.log thread from lines
    → Walks new.plan new.first new.log thread (length old.log) others → Walks new.plan new.first new.log thread from (lines ++ others)
walks_behind old new thread from lines others later walk next =
    walks_same new.plan new.plan new.first new.first (old.log ++ later.more) new.log thread from (lines ++ others) (lines ++ others) refl refl (sym later.log) refl
    (walks_joined new.plan new.first old.log later.more thread from lines others
    (walks_same old.plan new.plan old.first new.first old.log old.log thread from lines lines (sym later.plan) (sym later.first) refl refl walk)
    (walks_same new.plan new.plan new.first new.first new.log (old.log ++ later.more) thread (length old.log) others others refl refl later.log refl next))

-- where the lines before a walk were walked through what was shown then, all are through what is shown now
pub walks_on : (todo : Todo) (from : ℕ) (old new : Board) (reach : Reach) → Walked todo from old new reach
    → Walks old.plan old.first old.log todo.thread 0 (take from todo.lines) → Walks new.plan new.first new.log todo.thread 0 (take reach.at todo.lines)
walks_on todo from old new reach w walk =
    subst (λ (lines : List Line). Walks new.plan new.first new.log todo.thread 0 lines) (front_and_between todo.lines from reach.at w.further)
    (walks_behind old new todo.thread 0 (take from todo.lines) (drop from (take reach.at todo.lines)) w.later walk w.walks)

-- lines between two places and those up to a third
between_then : (todo : Todo) (from at to : ℕ) → from ≤ at → at ≤ to → at ≤ length todo.lines
    → thread_entries (lines_between from to todo) ≡ thread_entries (lines_between from at todo) ++ thread_entries (lines_between at to todo)
between_then todo from at to before after within =
    ap (posts_of todo.thread) (lines_then todo.lines from at to before after within)
    ∙ filter_map-append (entry_of todo.thread) (drop from (take at todo.lines)) (drop at (take to todo.lines))

ends_then : (todo : Todo) (at : ℕ) (old mid new : Board) (end : Result Unit Stop) → mid.broke ≡ old.broke → EndsAt todo at mid new end → EndsAt todo at old new end
ends_then todo at old mid new (Ok done) same ends = (ends.0, ends.1 ∙ same)
ends_then todo at old mid new (Err stop) same ends = (ends.0, ends.1, ends.2, ends.3 ∙ same, ends.4)

-- A WALK GOES ON from where one has come.
pub walked_then : (todo : Todo) (from at : ℕ) (old mid new : Board) (reach : Reach) → from ≤ at → Walking todo from at old mid → Walked todo at mid new reach
    → Walked todo from old new reach
walked_then todo from at old mid new reach before w next = record {
  further = omega (arith, before, next.further);
  within = next.within;
  later = later_then w.later next.later;
  made = next.made
      ∙ ap (λ (made : List Entry). made ++ thread_entries (lines_between at reach.at todo)) w.made
      ∙ append_assoc old.made (thread_entries (lines_between from at todo)) (thread_entries (lines_between at reach.at todo))
      ∙ ap (λ (made : List Entry). old.made ++ made) (sym (between_then todo from at reach.at before next.further w.within));
  walks = subst (λ (lines : List Line). Walks new.plan new.first new.log todo.thread (length old.log) lines)
      (sym (lines_then todo.lines from at reach.at before next.further w.within))
      (walks_behind mid new todo.thread (length old.log) (drop from (take at todo.lines)) (drop at (take reach.at todo.lines)) next.later w.walks next.walks);
  ends = ends_then todo reach.at old mid new reach.end w.broke next.ends;
}

-- where its worker hasn't met the failure of an append, none of its own has failed
pub unbroken_at : (todo : Todo) (at : ℕ) (old new : Board) (end : Result Unit Stop) → EndsAt todo at old new end → work_end end ≢ works.Disk → new.broke ≡ old.broke
unbroken_at todo at old new (Ok done) ends unbroken = ends.1
unbroken_at todo at old new (Err stops.Waits) ends unbroken = ends.4.2.broke ∙ ends.3
unbroken_at todo at old new (Err stops.Disk) ends unbroken = absurd (unbroken refl)
unbroken_at todo at old new (Err stops.NoMemory) ends unbroken = ends.4.0.broke ∙ ends.3

-- where it has, its seat has seen one
pub seen_at : (todo : Todo) (at : ℕ) (old new : Board) (end : Result Unit Stop) → EndsAt todo at old new end → work_end end ≡ works.Disk → IsSome new.failed
seen_at todo at old new (Ok done) ends broken = absurd (cc)
seen_at todo at old new (Err stops.Waits) ends broken = absurd (cc)
seen_at todo at old new (Err stops.Disk) ends broken =
    elim ends.4.2 [ inl mine ↦ subst (λ (found : Option Entry). IsSome found) (sym mine.failed) refl | inr finds ↦ finds.failed ]
seen_at todo at old new (Err stops.NoMemory) ends broken = absurd (cc)

-- where one of its own has failed, it was the post of its next line
pub next_at : (todo : Todo) (at : ℕ) (old new : Board) (end : Result Unit Stop) (entry : Entry) → EndsAt todo at old new end → old.broke ≡ None → new.broke ≡ Some entry
    → (todo.thread ≡ entry.thread) × (slice_get todo.lines at ≡ Some (line_at entry.line (whats.Post entry.event)))
next_at todo at old new (Ok done) entry ends unbroken broken = absurd (none-some entry (sym (ends.1 ∙ unbroken) ∙ broken))
next_at todo at old new (Err stops.Waits) entry ends unbroken broken = absurd (none-some entry (sym (ends.4.2.broke ∙ ends.3 ∙ unbroken) ∙ broken))
next_at todo at old new (Err stops.Disk) entry ends unbroken broken =
    let line = ends.0 in
    let stopped = ends.4 in
    elim stopped.2 [
      | inl mine ↦
          let same : posted_by todo.thread line.number stopped.0 ≡ entry = same_Some (posted_by todo.thread line.number stopped.0) entry (sym mine.broke ∙ broken) in
          subst (λ (entry : Entry). (todo.thread ≡ entry.thread) × (slice_get todo.lines at ≡ Some (line_at entry.line (whats.Post entry.event)))) same
          (refl, ends.2 ∙ ap (λ (what : What). Some (line_at line.number what)) stopped.1)
      | inr finds ↦ absurd (none-some entry (sym (finds.looked.broke ∙ ends.3 ∙ unbroken) ∙ broken))
    ]
next_at todo at old new (Err stops.NoMemory) entry ends unbroken broken = absurd (none-some entry (sym (ends.4.0.broke ∙ ends.3 ∙ unbroken) ∙ broken))

-- a walk that goes on was not ended by the disk
pub going_on : works.Going ≡ works.Disk → ⊥
going_on is = cc

pub walking_of : (todo : Todo) (from : ℕ) (old new : Board) (reach : Reach) → Walked todo from old new reach → work_end reach.end ≡ works.Going
    → Walking todo from reach.at old new
walking_of todo from old new reach w goes = record {
  within = w.within;
  later = w.later;
  made = w.made;
  broke = unbroken_at todo reach.at old new reach.end w.ends (λ broken. absurd (going_on (sym goes ∙ broken)));
  walks = w.walks;
}

-- it goes no further for now
pub held_at : (todo : Todo) (at : ℕ) (old new : Board) (end : Result Unit Stop) → EndsAt todo at old new end → work_end end ≡ works.Going
    → IsHeld new.plan new.first new.log todo at
held_at todo at old new (Ok done) ends goes = inl ends.0
held_at todo at old new (Err stops.Waits) ends goes =
    let line = ends.0 in
    let stopped = ends.4 in
    inr (stopped.0, (line.number, ends.2 ∙ ap (λ (what : What). Some (line_at line.number what)) stopped.1), stopped.3)
held_at todo at old new (Err stops.Disk) ends goes = absurd (cc)
held_at todo at old new (Err stops.NoMemory) ends goes = absurd (cc)
