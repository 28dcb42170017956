use Rattle.std.proofs.lemmas.Result.{err_from_is_err_and}
use Rattle.px_event.specs.Reading.{arguments_at}
use Rattle.px_event.proofs.Arguments.{goes_on, ends_so, is_done}
use Rattle.px_event.proofs.bytes.values.arguments_of.Goals as goal

pub returns-in_err-argument : goal.returns-in_err-argument
returns-in_err-argument c =
    let p = err_from_is_err_and c.from_residual.result c.from_residual.ensures.1 in
    rw (p.1, p.2)
    (ends_so c.in_err-argument.field-0.0 c.loop.values.items c.args.count c.loop.counter c.loop.reader c.argument_of.new.reader (arguments_at c.args.count c.args.reader.now) c.loop-test.true c.in_err-argument.ensures c.loop.invariant)

pub loop-preserved : goal.loop-preserved
loop-preserved c =
    rw c.in_ok-push.ensures.items
    (goes_on c.loop.values.items c.args.count c.loop.counter c.loop.reader c.in_ok-argument.argument c.argument_of.new.reader (arguments_at c.args.count c.args.reader.now) c.loop-test.true c.in_ok-argument.ensures c.loop.invariant)

pub returns : goal.returns
returns c = is_done c.loop.values.items c.args.count c.loop.counter c.loop.reader (arguments_at c.args.count c.args.reader.now) c.loop-test.false c.loop.invariant
