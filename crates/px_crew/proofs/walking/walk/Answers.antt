use Rattle.std.proofs.Common.{◌≡◌, List, length, get_or, arith, sym, subst, ap, IsTrue}
use Rattle.std.proofs.lemmas.List.Sums.{AllPass-from_list_all}
use Rattle.px_event.specs.Fit.{is_fit_entry}
use Rattle.px_script.specs.Order.{entry_of, thread_entries}
use Rattle.px_script.specs.declared.line.Line.{Line}
use Rattle.px_script.proofs.Thins.{each_given}
use Rattle.px_crew.specs.Walk.{IsFitLine}
use Rattle.px_crew.proofs.Passing.{walking_none, walking_on, walked_to}
use Rattle.px_crew.proofs.Seats.{gone_none, gone_then}
use Rattle.px_crew.proofs.walking.walk.Goals as goal

pub loop-at-init : goal.loop-at-init
loop-at-init g c = record {
  walking = walking_none c.args.todo.now c.args.from _ c.requires.within;
  own = c.requires.own;
  on = gone_none c.requires.made;
}

pub pass-requires-clause-fit : goal.pass-requires-clause-fit
pass-requires-clause-fit g c κs within =
    let todo = c.args.todo.now in
    let line = c.index-lines-at.result in
    subst (IsFitLine todo.thread) (sym (subst (λ (lines : List Line). line ≡ get_or lines c.loop-at.at line) c.as_slice-lines.ensures c.index-lines-at.is))
    (each_given (λ entry. IsTrue (is_fit_entry entry)) (entry_of todo.thread) todo.lines
    (AllPass-from_list_all is_fit_entry (thread_entries todo) c.requires.fit)
    c.loop-at.at line (omega (arith, c.loop-at-test.true, ap length c.as_slice-lines.ensures)))

pub returns-in-Err-clause-walked : goal.returns-in-Err-clause-walked
returns-in-Err-clause-walked g c =
    let line = c.index-lines-at.result in
    walked_to c.args.todo.now c.args.from c.loop-at.at _ _ _ line c.in-Err.stop c.loop-at.invariant.walking (omega arith)
    (omega (arith, c.loop-at-test.true, ap length c.as_slice-lines.ensures))
    (subst (λ (lines : List Line). line ≡ get_or lines c.loop-at.at line) c.as_slice-lines.ensures c.index-lines-at.is) c.in-Err.ensures.passes

pub returns-in-Err-clause-on : goal.returns-in-Err-clause-on
returns-in-Err-clause-on g c = gone_then c.loop-at.invariant.on c.in-Err.ensures.on

pub loop-at-preserved : goal.loop-at-preserved
loop-at-preserved g c =
    let line = c.index-lines-at.result in
    record {
      walking = walking_on c.args.todo.now c.args.from c.loop-at.at _ _ _ line c.loop-at.invariant.walking (omega arith)
          (omega (arith, c.loop-at-test.true, ap length c.as_slice-lines.ensures))
          (subst (λ (lines : List Line). line ≡ get_or lines c.loop-at.at line) c.as_slice-lines.ensures c.index-lines-at.is) c.in_default.ensures.passes;
      own = c.in_default.ensures.own;
      on = gone_then c.loop-at.invariant.on c.in_default.ensures.on;
    }
