use Rattle.std.proofs.Common.{◌∙◌, ◌+◌, arith}
use Rattle.std.proofs.lemmas.List.{length_push}
use Rattle.px_script.proofs.Kept.{todos_more}
use Rattle.px_script.proofs.threads.ThreadLines.into_threads.Goals as goal

pub loop-lines-preserved : goal.loop-lines-preserved
loop-lines-preserved c = record {
  threads = c.in_ok-push_todo.ensures
      ∙ todos_more c.loop-lines.yielded c.loop-lines.threads.items (record { thread = c.loop-lines.thread + 1; lines = c.in-Some.lines })
      c.loop-lines.invariant.threads (omega (arith, c.loop-lines.invariant.thread));
  thread = omega (arith, c.loop-lines.invariant.thread, length_push c.loop-lines.yielded c.in-Some.lines);
}
