-- The waits at which threads stand.
use Rattle.std.proofs.Common.{◌≡◌, ◌⊎◌, ℕ, ◌+◌, ◌<◌, ◌≤◌, List, [], ◌∷◌, ◌++◌, length, get_or, drop, Option, Some, None, refl, sym, ap, ◌∙◌, inl, inr}
use Rattle.std.specs.List.{slice_get}
use Rattle.std.specs.Option.{option_and_then, option_to_list}
use Rattle.std.proofs.lemmas.List.{append-nil, append_assoc, drop_more, drop_all, get_or-map}
use Rattle.std.proofs.lemmas.Option.{slice_get_past, slice_get_read}
use Rattle.px_event.specs.declared.cond.Cond.{Cond}
use Rattle.px_script.specs.declared.line.Line.{Line}
use Rattle.px_script.specs.declared.line.What.{What}
use Rattle.px_script.specs.declared.stall.Stall.{Stall}
use Rattle.px_script.specs.declared.todo.Todo.{Todo}
use Rattle.px_script.specs.declared.worker.Worker.{Worker}
use Rattle.px_crew.specs.Standstill.{wait_of, wait_at, waits_of}
use Rattle.px_crew.specs.Work.{places_of}
use Rattle.px_script.proofs.Walks.{line_at}

-- ---- the wait at a place

pub no_wait : (todo : Todo) (at : ℕ) → length todo.lines ≤ at → wait_at todo at ≡ None
no_wait todo at past = ap (option_and_then (wait_of todo.thread)) (slice_get_past todo.lines at past)

-- the line at a place, as it was read
pub line_there : (todo : Todo) (lines : List Line) (at : ℕ) (line : Line) (what : What) → lines ≡ todo.lines → at < length lines → line ≡ get_or lines at line
    → line.what ≡ what → slice_get todo.lines at ≡ Some (line_at line.number what)
line_there todo lines at line what same within is kind =
    ap (λ (lines : List Line). slice_get lines at) (sym same) ∙ slice_get_read lines (length lines) at line refl within is
    ∙ ap (λ (what : What). Some (line_at line.number what)) kind

-- by the line there
pub wait_there : (todo : Todo) (lines : List Line) (at : ℕ) (line : Line) (what : What) → lines ≡ todo.lines → at < length lines → line ≡ get_or lines at line
    → line.what ≡ what → wait_at todo at ≡ wait_of todo.thread (line_at line.number what)
wait_there todo lines at line what same within is kind =
    ap (option_and_then (wait_of todo.thread)) (line_there todo lines at line what same within is kind)

-- nothing is appended where there is no wait
pub appends_none : (waits : List Stall) (wait : Option Stall) → wait ≡ None → waits ≡ waits ++ option_to_list wait
appends_none waits wait none = sym (ap (λ (wait : Option Stall). waits ++ option_to_list wait) none ∙ append-nil waits)

-- ---- the waits so far, and those of the threads that are left

pub waits_more : (waits : List Stall) (threads : List Todo) (places : List ℕ) (i : ℕ) (todo : Todo) (place : ℕ) → i < length threads → i < length places
    → todo ≡ get_or threads i todo → place ≡ get_or places i 0
    → (waits ++ option_to_list (wait_at todo place)) ++ waits_of (drop (i + 1) threads) (drop (i + 1) places) ≡ waits ++ waits_of (drop i threads) (drop i places)
waits_more waits threads places i todo place in_threads in_places is at =
    append_assoc waits (option_to_list (wait_at todo place)) (waits_of (drop (i + 1) threads) (drop (i + 1) places))
    ∙ ap (λ (rest : List Stall). waits ++ rest)
    (sym (ap (λ (threads : List Todo). waits_of threads (drop i places)) (drop_more threads i todo in_threads ∙ ap (λ (t : Todo). t ∷ drop (i + 1) threads) (sym is))
    ∙ ap (λ (places : List ℕ). waits_of (todo ∷ drop (i + 1) threads) places) (drop_more places i 0 in_places ∙ ap (λ (p : ℕ). p ∷ drop (i + 1) places) (sym at))))

-- the place of one of the workers
pub place_at : {S : Type 0} (workers : List (Worker S)) (i : ℕ) (e : Worker S) → i < length workers
    → get_or (places_of workers) i 0 ≡ (get_or workers i e).at
place_at {S} workers i e within = get_or-map (λ (worker : Worker S). worker.at) workers i e 0 within

-- where either list is at its end, none is left
pub waits_end : (threads : List Todo) (places : List ℕ) (i : ℕ) → (length threads ≤ i) ⊎ (length places ≤ i) → waits_of (drop i threads) (drop i places) ≡ []
waits_end threads places i (inl past) = ap (λ (threads : List Todo). waits_of threads (drop i places)) (drop_all i threads past)
waits_end threads places i (inr past) = ap (waits_of (drop i threads)) (drop_all i places past) ∙ none_at (drop i threads)
  where
    none_at : (threads : List Todo) → waits_of threads [] ≡ []
    none_at [] = refl
    none_at (todo ∷ threads) = refl

pub pushed : (before after : List Stall) (stall : Stall) (cond : Cond) (wait : Option Stall) → after ≡ before ++ stall ∷ [] → wait ≡ Some (record stall { cond = cond }) → stall.cond ≡ cond
    → after ≡ before ++ option_to_list wait
pushed before after stall cond wait is there same =
    is ∙ ap (λ (wait : Option Stall). before ++ option_to_list wait) (ap (λ (cond : Cond). let s : Option Stall = Some (record stall { cond = cond }) in s) same ∙ sym there)
