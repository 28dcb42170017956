use Rattle.std.proofs.Common.{◌≡◌, length, rules}
use Rattle.px_syntax.specs.ExprFaults.{count_faults}
use Rattle.px_check.proofs.Judging.{call_noted}
use Rattle.px_check.proofs.scope.Scope.call.Goals as goal

pub returns : goal.returns
returns c =
    let call = c.args.call.now in
    let count : c.len.result ≡ length call.args.items = search rules in
    call_noted (λ known count. count_faults known call.name count) c.args.self.now call.args.items _ _ _ _ _ _ _ _ c.command-callable.ensures count
    c.deref.ensures.value c.parameters_of.ensures c.note_count.ensures.found c.arguments.ensures
