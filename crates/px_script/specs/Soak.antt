-- The script of `soak`: reports of one state by one thread, made from two numbers.
use Rattle.std.specs.Prelude.{ℕ, ◌+◌, ◌*◌, ◌%◌, List, [], ◌∷◌, map, codes, pos}
use Rattle.std.specs.List.{range_with_len}
use Rattle.px_event.specs.declared.event.Event.TheVariants as events
use Rattle.px_value.specs.declared.value.Value.TheVariants as values
use Rattle.px_script.specs.declared.line.Line.{Line}
use Rattle.px_script.specs.declared.line.What.TheVariants as whats
use Rattle.px_script.specs.declared.todo.Todo.{Todo}

-- what line k reports: the hundreds rise with k, and the rest goes its way from the seed
abbrev pub soak_level : ℕ → ℕ → ℕ
soak_level seed k = 100 * k + (seed + 37 * k) % 100

abbrev pub soak_line : ℕ → ℕ → Line
soak_line seed k =
    record { number = k; what = whats.Post (events.Report (codes "level") [] (values.Integer (pos (soak_level seed k)))) }

-- so many lines, from 1 on
abbrev pub soak_lines : ℕ → ℕ → List Line
soak_lines count seed = map (soak_line seed) (range_with_len 1 count)

-- thread 1 has all of them
abbrev pub soak_threads : ℕ → ℕ → List Todo
soak_threads count seed = record { thread = 1; lines = soak_lines count seed } ∷ []
