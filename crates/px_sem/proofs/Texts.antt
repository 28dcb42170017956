-- How the text of a run grows.
use Rattle.std.proofs.Common.{◌≡◌, ℕ, Some, zero, suc, ◌+◌, ◌≤◌, inl, inr, List, [], ◌++◌, refl, arith, ap, ◌∙◌, sym, add-one, append-nil, append_assoc}
use Rattle.std.proofs.lemmas.Bool.{cases_lt}
use Rattle.px_core.specs.Plan.{Site}
use Rattle.px_event.specs.declared.entry.Entry.{Entry}
use Rattle.px_sem.specs.World.{World, standing_of}
use Rattle.px_sem.specs.Log.{Log, events_of, accepted}
use Rattle.px_sem.specs.Step.{moves}
use Rattle.px_sem.specs.Run.{after_steps, settled, run}
use Rattle.px_sem.specs.Text.{step_text, steps_text, quiet_text, settled_text, trace, log_lines, standing_text, text_of}
use Rattle.px_sem.proofs.Settles.{settled_count}

pub steps_text_none : (plan : List Site) (from : World) → steps_text plan from 0 ≡ []
unfolding steps_text
steps_text_none plan from = refl

pub steps_text_more : (plan : List Site) (from : World) (k : ℕ)
    → steps_text plan from (k + 1) ≡ steps_text plan from k ++ step_text (k + 1) (moves plan (after_steps plan from k))
unfolding steps_text
steps_text_more plan from k = rw add-one refl

-- the text of fewer steps is a front
pub steps_text_front : (plan : List Site) (from : World) (j k : ℕ) → j ≤ k
    → (more : List ℕ) × (steps_text plan from k ≡ steps_text plan from j ++ more)
unfolding steps_text
steps_text_front plan from j zero h = let is : j ≡ 0 = omega arith in ([], rw is refl)
steps_text_front plan from j (suc k) h = elim (cases_lt k j) [
  | inl above ↦ let is : j ≡ suc k = omega arith in ([], rw is (sym (append-nil _)))
  | inr below ↦
      let front = steps_text_front plan from j k below in
      let last : List ℕ = step_text (suc k) (moves plan (after_steps plan from k)) in
      (front.0 ++ last, ap (λ text. text ++ last) front.1 ∙ append_assoc (steps_text plan from j) front.0 last)
]

-- the text of a world that settles
pub settled_text_is : (plan : List Site) (from to : World) (count : ℕ) → settled plan from ≡ Some (to, count)
    → settled_text plan from ≡ steps_text plan from count ++ quiet_text count
settled_text_is plan from to count is = rw (settled_count plan from to count is) refl

-- the text of a log whose run exists
pub text_of_is : (plan : List Site) (history : List Entry) (log : Log) (world : World)
    → run plan (events_of (history ++ accepted log)) ≡ Some world
    → text_of plan history log ≡ trace plan (history ++ accepted log) ++ (log_lines log ++ standing_text (standing_of plan world))
text_of_is plan history log world is = rw is refl
