use Rattle.std.proofs.Common.{length, ap, arith}
use Rattle.px_crew.proofs.Standing.{no_wait, wait_there, appends_none, pushed}
use Rattle.px_crew.proofs.standstill.push_wait.Goals as goal

pub returns-in_default : goal.returns-in_default
returns-in_default c =
    appends_none _ _ (no_wait c.args.todo.now c.args.at (omega (arith, c.in_default.ensures.lookup.3, ap length c.as_slice.ensures)))

pub returns-in_ok-push-in-Wait : goal.returns-in_ok-push-in-Wait
returns-in_ok-push-in-Wait c =
    let line = c.in-Some.line.now in
    let there = c.in-Some.ensures.lookup.3 in
    pushed _ _ _ c.in-Wait.cond _ c.in_ok-push-in-Wait.ensures.items
    (wait_there c.args.todo.now c.as_slice.result.now c.args.at line _ c.as_slice.ensures there.0 (there.1 line) c.in-Wait.is)
    c.in_ok-cond-in-Wait.ensures

pub returns-in-Post : goal.returns-in-Post
returns-in-Post c =
    let line = c.in-Some.line.now in
    let there = c.in-Some.ensures.lookup.3 in
    appends_none _ _ (wait_there c.args.todo.now c.as_slice.result.now c.args.at line _ c.as_slice.ensures there.0 (there.1 line) c.in-Post.is)
