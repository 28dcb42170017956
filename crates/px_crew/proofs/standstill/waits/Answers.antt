use Rattle.std.proofs.Common.{◌≡◌, ◌≤◌, ◌⊎◌, ◌++◌, List, length, drop, ap, sym, ◌∙◌, arith, append-nil, inl, inr, min, ◌+◌}
use Rattle.std.specs.Iterator.Adapters.{zip_first, zip_second}
use Rattle.std.specs.Slice.Iter.{iter_rest}
use Rattle.std.proofs.lemmas.Bool.{cases_lt}
use Rattle.std.proofs.lemmas.List.{length_push, length-map}
use Rattle.std.proofs.lemmas.Slice.Zip.{zip_turn, zip_end}
use Rattle.px_script.specs.declared.stall.Stall.{Stall}
use Rattle.px_script.specs.declared.worker.Worker.{Worker}
use Rattle.px_crew.specs.Standstill.{waits_of}
use Rattle.px_crew.specs.Work.{places_of}
use Rattle.px_crew.proofs.Standing.{waits_more, waits_end, place_at}
use Rattle.px_crew.proofs.standstill.waits.Goals as goal

pub loop-todo-preserved : goal.loop-todo-preserved
loop-todo-preserved g c =
    let threads = c.args.threads.now in
    let workers = c.args.workers.now in
    let places = places_of workers in
    let xs = c.loop-todo.yielded in
    let e = c.into_iter-todo-iterator.ensures.into_iter_gives in
    let turn = zip_turn threads workers xs c.into_iter-todo-iterator.result c.loop-todo.todo-iterator c.next.new.self c.next.result (ap iter_rest (ap zip_first e) ∙ ap iter_rest c.zip-todo-items.ensures.first ∙ c.iter.ensures.rest)
    (ap iter_rest (ap zip_second e) ∙ c.zip-todo-items.ensures.second.0) c.loop-todo.yielded_by (c.in-Some.todo, c.in-Some.worker) c.in-Some.is c.next.ensures.steps in
    rw (length_push xs (c.in-Some.todo, c.in-Some.worker))
    (ap (λ (waits : List Stall). waits ++ waits_of (drop (length xs + 1) threads) (drop (length xs + 1) places)) c.in_ok-push_wait.ensures
    ∙ waits_more c.loop-todo.waits.items threads places (length xs) c.in-Some.todo.now c.in-Some.worker.now.at turn.0
    (omega (arith, turn.1, length-map workers (λ w. w.at)))
    (turn.2 _)
    (ap (λ (w : Worker g.row.S.Denot). w.at) (turn.3 c.in-Some.worker.now) ∙ sym (place_at workers (length xs) c.in-Some.worker.now turn.1))
    ∙ c.loop-todo.invariant)

pub returns : goal.returns
returns g c =
    let threads = c.args.threads.now in
    let workers = c.args.workers.now in
    let places = places_of workers in
    let xs = c.loop-todo.yielded in
    let e = c.into_iter-todo-iterator.ensures.into_iter_gives in
    let all : length xs ≡ min (length threads) (length workers)
    = zip_end threads workers xs c.into_iter-todo-iterator.result c.loop-todo.todo-iterator c.next.new.self c.next.result (ap iter_rest (ap zip_first e) ∙ ap iter_rest c.zip-todo-items.ensures.first ∙ c.iter.ensures.rest)
    (ap iter_rest (ap zip_second e) ∙ c.zip-todo-items.ensures.second.0) c.loop-todo.yielded_by c.in-None.is c.next.ensures.steps in
    let past : (length threads ≤ length xs) ⊎ (length places ≤ length xs)
    = elim (cases_lt (length threads) (length places)) [ inl less ↦ inl (omega (arith, length-map workers (λ w. w.at))) | inr more ↦ inr (omega (arith, length-map workers (λ w. w.at))) ] in
    sym (append-nil c.loop-todo.waits.items)
    ∙ ap (λ (waits : List Stall). c.loop-todo.waits.items ++ waits) (sym (waits_end threads places (length xs) past))
    ∙ c.loop-todo.invariant
