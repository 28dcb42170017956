-- A walk that has come so far, and how it goes on.
use Rattle.std.proofs.Common.{◌≡◌, ℕ, ◌+◌, ◌<◌, ◌≤◌, List, [], ◌∷◌, ◌++◌, length, get_or, take, drop, Err, inl, inr, refl, sym, ap, ◌∙◌, subst, arith}
use Rattle.std.specs.List.{filter_map}
use Rattle.std.proofs.lemmas.List.{append-nil, append_assoc, length-take, drop_all, take_more, drop-append-le}
use Rattle.std.proofs.lemmas.List.Elements.{filter_map-append}
use Rattle.std.proofs.lemmas.Option.{slice_get_read}
use Rattle.px_core.specs.Plan.{Site}
use Rattle.px_event.specs.declared.cond.Cond.{Cond}
use Rattle.px_event.specs.declared.entry.Entry.{Entry}
use Rattle.px_event.specs.declared.event.Event.{Event}
use Rattle.px_exec.specs.Answers.{logged}
use Rattle.px_script.specs.Follows.{Walks}
use Rattle.px_script.specs.Order.{entry_of, thread_entries}
use Rattle.px_script.specs.declared.line.Line.{Line}
use Rattle.px_script.specs.declared.line.What.{What}
use Rattle.px_script.specs.declared.line.What.TheVariants as whats
use Rattle.px_script.specs.declared.todo.Todo.{Todo}
use Rattle.px_sem.specs.Asking.{IsMetBehind}
use Rattle.px_sem.specs.Log.{Log, accepted}
use Rattle.px_crew.specs.Board.{Board, history_on, IsLater, IsLooked, IsAnswered}
use Rattle.px_crew.specs.Walk.{PassesLine, StopsAt, lines_between, Walked}
use Rattle.px_crew.specs.declared.walking.Stop.{Stop}
use Rattle.px_crew.specs.declared.walking.Stop.TheVariants as stops
use Rattle.px_script.proofs.Walks.{line_at, posted_by, walks_post, walks_wait, walks_longer}

-- ---- boards that show more

pub later_at_once : (board : Board) → IsLater board board
later_at_once board = record { plan = refl; first = refl; more = []; log = sym (append-nil board.log) }

pub later_then : {old mid new : Board} → IsLater old mid → IsLater mid new → IsLater old new
later_then {old} a b = record {
  plan = b.plan ∙ a.plan;
  first = b.first ∙ a.first;
  more = a.more ++ b.more;
  log = b.log ∙ ap (λ (log : Log). log ++ b.more) a.log ∙ append_assoc old.log a.more b.more;
}

pub answered_later : {old new : Board} {entry : Entry} → IsAnswered old new entry → IsLater old new
answered_later {old} {new} {entry} a = record {
  plan = a.plan;
  first = a.first;
  more = a.others ++ logged entry a.reply ∷ [];
  log = a.log ∙ append_assoc old.log a.others (logged entry a.reply ∷ []);
}

-- the same walk, of other names
pub walks_same : (plan plan' : List Site) (first first' : List Entry) (log log' : Log) (thread from : ℕ) (lines lines' : List Line) → plan ≡ plan' → first ≡ first' → log ≡ log'
    → lines ≡ lines' → Walks plan first log thread from lines → Walks plan' first' log' thread from lines'
walks_same plan plan' first first' log log' thread from lines lines' p f l s walk =
    subst (λ (plan : List Site). Walks plan first' log' thread from lines') p
    (subst (λ (first : List Entry). Walks plan first log' thread from lines') f
    (subst (λ (log : Log). Walks plan first log thread from lines') l
    (subst (λ (lines : List Line). Walks plan first log thread from lines) s walk)))

-- ---- so many lines are passed, and none has stopped the walk

pub record Walking (todo : Todo) (from at : ℕ) (old new : Board) : Type 0 where
  pub within : at ≤ length todo.lines
  pub later : IsLater old new
  pub made : new.made ≡ old.made ++ thread_entries (lines_between from at todo)
  pub broke : new.broke ≡ old.broke
  pub walks : Walks new.plan new.first new.log todo.thread (length old.log) (drop from (take at todo.lines))

pub walking_none : (todo : Todo) (from : ℕ) (board : Board) → from ≤ length todo.lines → Walking todo from from board board
walking_none todo from board within =
    let none = drop_all from (take from todo.lines) (omega (arith, length-take from todo.lines)) in
    record {
      within = within;
      later = later_at_once board;
      made = sym (ap (λ (lines : List Line). board.made ++ filter_map (entry_of todo.thread) lines) none ∙ append-nil board.made);
      broke = refl;
      walks = walks_same board.plan board.plan board.first board.first board.log board.log todo.thread (length board.log) [] (drop from (take from todo.lines)) refl refl refl (sym none) (omega arith);
    }

-- one line more between
lines_more : (todo : Todo) (from at : ℕ) (line : Line) → from ≤ at → at < length todo.lines → line ≡ get_or todo.lines at line
    → drop from (take (at + 1) todo.lines) ≡ drop from (take at todo.lines) ++ line ∷ []
lines_more todo from at line before within is =
    ap (drop from) (take_more todo.lines at line within ∙ ap (λ (l : Line). take at todo.lines ++ l ∷ []) (sym is))
    ∙ drop-append-le from (take at todo.lines) (line ∷ []) (omega (arith, length-take at todo.lines))

walking_post : (todo : Todo) (from at : ℕ) (old mid new : Board) (number : ℕ) (event : Event) → Walking todo from at old mid → from ≤ at → at < length todo.lines
    → line_at number (whats.Post event) ≡ get_or todo.lines at (line_at number (whats.Post event)) → IsAnswered mid new (posted_by todo.thread number event)
    → Walking todo from (at + 1) old new
unfolding answered_later
walking_post todo from at old mid new number event w before within is a =
    let line = line_at number (whats.Post event) in
    let later = answered_later a in
    record {
      within = omega arith;
      later = later_then w.later later;
      made = a.made ∙ ap (λ (made : List Entry). made ++ posted_by todo.thread number event ∷ []) w.made
          ∙ append_assoc old.made (thread_entries (lines_between from at todo)) (posted_by todo.thread number event ∷ [])
          ∙ ap (λ (made : List Entry). old.made ++ made)
          (sym (ap (filter_map (entry_of todo.thread)) (lines_more todo from at line before within is) ∙ filter_map-append (entry_of todo.thread) (drop from (take at todo.lines)) (line ∷ [])));
      broke = a.broke ∙ w.broke;
      walks = walks_same mid.plan new.plan mid.first new.first (mid.log ++ later.more) new.log todo.thread (length old.log) _ _ (sym later.plan) (sym later.first) (sym later.log)
          (sym (lines_more todo from at line before within is))
          (walks_post mid.plan mid.first mid.log a.others todo.thread (length old.log) (drop from (take at todo.lines)) number event a.reply w.walks);
    }

walking_wait : (todo : Todo) (from at : ℕ) (old mid new : Board) (number : ℕ) (cond : Cond) → Walking todo from at old mid → from ≤ at → at < length todo.lines
    → line_at number (whats.Wait cond) ≡ get_or todo.lines at (line_at number (whats.Wait cond)) → IsLooked mid new → IsMetBehind new.plan (history_on new) cond
    → Walking todo from (at + 1) old new
walking_wait todo from at old mid new number cond w before within is looked met =
    let line = line_at number (whats.Wait cond) in
    let later = looked.later in
    record {
      within = omega arith;
      later = later_then w.later later;
      made = looked.made ∙ w.made
          ∙ ap (λ (made : List Entry). old.made ++ made)
          (sym (ap (filter_map (entry_of todo.thread)) (lines_more todo from at line before within is) ∙ filter_map-append (entry_of todo.thread) (drop from (take at todo.lines)) (line ∷ []) ∙ append-nil _));
      broke = looked.broke ∙ w.broke;
      walks = walks_same mid.plan new.plan mid.first new.first (mid.log ++ later.more) new.log todo.thread (length old.log) _ _ (sym later.plan) (sym later.first) (sym later.log)
          (sym (lines_more todo from at line before within is))
          (walks_wait mid.plan mid.first mid.log later.more todo.thread (length old.log) (drop from (take at todo.lines)) number cond w.walks
          (subst (λ (plan : List Site). IsMetBehind plan (mid.first ++ accepted (mid.log ++ later.more)) cond) later.plan
          (subst (λ (first : List Entry). IsMetBehind new.plan (first ++ accepted (mid.log ++ later.more)) cond) later.first
          (subst (λ (log : Log). IsMetBehind new.plan (new.first ++ accepted log) cond) later.log met))));
    }

-- it goes on by a line that is passed
pub walking_on : (todo : Todo) (from at : ℕ) (old mid new : Board) (line : Line) → Walking todo from at old mid → from ≤ at → at < length todo.lines
    → line ≡ get_or todo.lines at line → PassesLine todo.thread line mid new → Walking todo from (at + 1) old new
walking_on todo from at old mid new line w before within is passes = by line.what is passes
  where
    by : (what : What) → line_at line.number what ≡ get_or todo.lines at (line_at line.number what) → PassesLine todo.thread (line_at line.number what) mid new
        → Walking todo from (at + 1) old new
    by (whats.Post event) is passes = walking_post todo from at old mid new line.number event w before within is passes
    by (whats.Wait cond) is passes = walking_wait todo from at old mid new line.number cond w before within is passes.0 passes.1

-- ---- the end of a walk

-- a line that stops the walk posts nothing
stopped_later : (thread : ℕ) (line : Line) (mid new : Board) (stop : Stop) → StopsAt thread line mid new stop → IsLater mid new
stopped_later thread line mid new stops.Waits stopped = stopped.2.later
stopped_later thread line mid new stops.Disk stopped = elim stopped.2 [ inl broken ↦ broken.later | inr finds ↦ finds.looked.later ]
stopped_later thread line mid new stops.NoMemory stopped = stopped.0.later

stopped_made : (thread : ℕ) (line : Line) (mid new : Board) (stop : Stop) → StopsAt thread line mid new stop → new.made ≡ mid.made
stopped_made thread line mid new stops.Waits stopped = stopped.2.made
stopped_made thread line mid new stops.Disk stopped = elim stopped.2 [ inl broken ↦ broken.made | inr finds ↦ finds.looked.made ]
stopped_made thread line mid new stops.NoMemory stopped = stopped.0.made

pub walked_to : (todo : Todo) (from at : ℕ) (old mid new : Board) (line : Line) (stop : Stop) → Walking todo from at old mid → from ≤ at → at < length todo.lines
    → line ≡ get_or todo.lines at line → StopsAt todo.thread line mid new stop → Walked todo from old new (record { at = at; end = Err stop })
walked_to todo from at old mid new line stop w before within is stopped =
    let later = stopped_later todo.thread line mid new stop stopped in
    record {
      further = before;
      within = w.within;
      later = later_then w.later later;
      made = stopped_made todo.thread line mid new stop stopped ∙ w.made;
      walks = walks_same mid.plan new.plan mid.first new.first (mid.log ++ later.more) new.log todo.thread (length old.log) _ _ (sym later.plan) (sym later.first) (sym later.log) refl
          (walks_longer mid.plan mid.first mid.log later.more todo.thread (length old.log) (drop from (take at todo.lines)) w.walks);
      ends = (line, mid, slice_get_read todo.lines (length todo.lines) at line refl within is, w.broke, stopped);
    }
