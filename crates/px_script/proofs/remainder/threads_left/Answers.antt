use Rattle.std.proofs.Common.{◌≡◌, slice_index, rules}
use Rattle.px_script.specs.Remainder.{last_line, left_of}
use Rattle.px_script.specs.declared.todo.Todo.{Todo}
use Rattle.px_script.proofs.Remainders.{rest_more}
use Rattle.px_script.proofs.remainder.threads_left.Goals as goal

pub loop-thread-preserved : goal.loop-thread-preserved
loop-thread-preserved c =
    let todo : Todo = c.in-Some.field-0 in
    let left : Todo = record { thread = c.in-Some.thread; lines = c.lines_above-lines.result } in
    let last : slice_index c.last_lines-last.result todo.thread ≡ last_line todo.thread c.args.history.now = c.last_lines-last.ensures todo.thread in
    let is : left ≡ left_of c.args.history.now todo = search rules in
    search (rules, rest_more c.loop-thread.yielded c.args.history.now todo c.loop-thread.left.items left c.loop-thread.invariant is)
