-- The text of micro steps on its way to the sink.
use Rattle.std.proofs.Common.{◌≡◌, ℕ, ◌+◌, ◌≤◌, Bool, true, false, List, ◌++◌, Some, IsSome, ap, ◌∙◌, sym, append_assoc, arith}
use Rattle.std.specs.Option.{unwrap_or}
use Rattle.px_value.proofs.General.{told_of}
use Rattle.px_core.specs.Plan.{Site}
use Rattle.px_sem.specs.World.{World}
use Rattle.px_sem.specs.declared.moves.Move.{Move}
use Rattle.px_sem.specs.Stepper.{State, Steps}
use Rattle.px_sem.specs.Run.{settled, steps_until_quiet}
use Rattle.px_sem.specs.Text.{step_text, steps_text, quiet_text, settled_text}
use Rattle.px_sem.proofs.Settles.{IsUnderway, underway_at_once, underway_after_step, moves_of_step, underway_within, settles_at, settled_count}
use Rattle.px_sem.proofs.Texts.{steps_text_none, steps_text_more, steps_text_front, settled_text_is}
use Rattle.px_output.specs.Printing.{Buffers}
use Rattle.px_output.specs.Printing.{run_text}
use Rattle.px_output.specs.View.{View, OnlyPrints}
use Rattle.px_output.proofs.Printed.{buffers_none, goes_on, only_same, only_more}

-- so many steps of a run are printed
pub record IsTracing (from : State) (old : View) (p : List ℕ) (now : State) (count : ℕ) (new : View) (q : List ℕ) : Type 0 where
  pub underway : IsUnderway from now count
  pub buffers : Buffers old p new q (steps_text from.nodes from.world count)
  pub only : OnlyPrints old new

pub tracing_at_once : (from : State) (old : View) (p : List ℕ) → IsTracing from old p from 0 old p
tracing_at_once from old p =
    record { underway = underway_at_once from; buffers = rw (steps_text_none from.nodes from.world) (buffers_none old p); only = only_same old }

-- a step that was taken, with its moves
pub record IsStepped (now next : State) (shown : List Move) : Type 0 where
  pub made : List Move
  pub answer : Bool
  pub yes : answer ≡ true
  pub steps : Steps now next made answer
  pub are : shown ≡ made

stepped_on : (from now next : State) (count : ℕ) (shown : List Move) → IsUnderway from now count → IsStepped now next shown → IsUnderway from next (count + 1)
stepped_on from now next count shown u s = underway_after_step from now next count s.made s.answer u s.yes s.steps

-- the text of one step more
pub text_more : (from now next : State) (count : ℕ) (shown : List Move) → IsUnderway from now count → IsStepped now next shown
    → steps_text from.nodes from.world (count + 1) ≡ steps_text from.nodes from.world count ++ step_text (count + 1) shown
text_more from now next count shown u s =
    steps_text_more from.nodes from.world count
    ∙ ap (λ ms. steps_text from.nodes from.world count ++ step_text (count + 1) ms)
    (sym (s.are ∙ moves_of_step from now next count s.made s.answer u s.yes s.steps))

pub tracing_more : (from now next : State) (count : ℕ) (shown : List Move) (old mid new : View) (p q r : List ℕ)
    → IsTracing from old p now count mid q → IsStepped now next shown → Buffers mid q new r (step_text (count + 1) shown) → OnlyPrints mid new
    → IsTracing from old p next (count + 1) new r
tracing_more from now next count shown old mid new p q r t s buffers only = record {
  underway = stepped_on from now next count shown t.underway s;
  buffers = rw (text_more from now next count shown t.underway s)
      (goes_on old mid new p q r (steps_text from.nodes from.world count) (step_text (count + 1) shown) t.buffers buffers);
  only = only_more old mid new t.only only;
}

-- what of a run is behind its first steps
pub run_left : (from now : State) (count : ℕ) → IsUnderway from now count → IsSome (settled from.nodes from.world)
    → (more : List ℕ) × (run_text from.nodes from.world ≡ steps_text from.nodes from.world count ++ more)
run_left from now count u some =
    steps_text_front from.nodes from.world count (steps_until_quiet from.nodes from.world) (underway_within from now count u some).0

-- and behind one step more
pub step_left : (from now next : State) (count : ℕ) (shown : List Move) → IsUnderway from now count → IsStepped now next shown
    → IsSome (settled from.nodes from.world)
    → (later : List ℕ) × (run_text from.nodes from.world ≡ steps_text from.nodes from.world count ++ (step_text (count + 1) shown ++ later))
step_left from now next count shown u s some =
    let more = run_left from next (count + 1) (stepped_on from now next count shown u s) some in (
      more.0,
      more.1 ∙ ap (λ text. text ++ more.0) (text_more from now next count shown u s)
          ∙ append_assoc (steps_text from.nodes from.world count) (step_text (count + 1) shown) more.0,
    )

-- one more step is still within the run
pub tracing_within : (from now next : State) (count : ℕ) (old new : View) (p q : List ℕ) (made : List Move) (answer : Bool)
    → IsTracing from old p now count new q → IsSome (settled from.nodes from.world)
    → answer ≡ true → Steps now next made answer
    → (count + 1 ≤ steps_until_quiet from.nodes from.world) × (steps_until_quiet from.nodes from.world ≤ 100000)
tracing_within from now next count old new p q made answer t some a s =
    underway_within from next (count + 1) (underway_after_step from now next count made answer t.underway a s) some

pub tracing_whole : (from now next : State) (count : ℕ) (old new : View) (p q : List ℕ) (made : List Move) (answer : Bool)
    → IsTracing from old p now count new q → IsSome (settled from.nodes from.world)
    → answer ≡ false → Steps now next made answer
    → (settled from.nodes from.world ≡ Some (next.world, count)) × Buffers old p new q (run_text from.nodes from.world)
tracing_whole from now next count old new p q made answer t some a s =
    let within = underway_within from now count t.underway some in
    let low = within.0 in
    let high = within.1 in
    let at = settles_at from now next count made answer t.underway (omega arith) a s in
    let takes : steps_until_quiet from.nodes from.world ≡ count =
    ap (λ o. unwrap_or o 0) (settled_count from.nodes from.world next.world count at) in
    (at, rw takes t.buffers)

-- ---- a world that settles: its steps, and then their number

pub settling_is : (plan : List Site) (world to : World) (count : ℕ) → settled plan world ≡ Some (to, count)
    → settled_text plan world ≡ run_text plan world ++ quiet_text count
settling_is plan world to count is =
    settled_text_is plan world to count is
    ∙ ap (λ o. steps_text plan world (unwrap_or o 0) ++ quiet_text count) (sym (settled_count plan world to count is))

pub run_within : (plan : List Site) (world : World) → IsSome (settled plan world)
    → (later : List ℕ) × (settled_text plan world ≡ run_text plan world ++ later)
run_within plan world some =
    let (found, is) = told_of (settled plan world) some in
    (quiet_text found.1, settling_is plan world found.0 found.1 is)
