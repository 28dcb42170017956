use Rattle.std.proofs.Common.{ap}
use Rattle.px_check.specs.Globals.{callables_data}
use Rattle.px_check.proofs.Naming.{callable_more}
use Rattle.px_check.proofs.globals.by_name.Goals as goal

pub loop-callable-preserved : goal.loop-callable-preserved
loop-callable-preserved c =
    callable_more _ c.loop-callable.callables.items c.pop.new.self.items c.in-Some.callable
    (callables_data c.loop-callable.named) (callables_data c.push.new.self) c.in-Some.ensures.items
    (ap callables_data c.in_ok-push.ensures.ok) c.loop-callable.invariant
