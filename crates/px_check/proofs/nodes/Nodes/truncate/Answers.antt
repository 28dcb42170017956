use Rattle.std.proofs.Common.{◌<◌, ◌-◌, length, drop, ap, ◌∙◌, arith}
use Rattle.px_check.proofs.Scoping.{dropped_one}
use Rattle.px_check.proofs.nodes.Nodes.truncate.Goals as goal

pub loop-self-preserved : goal.loop-self-preserved
loop-self-preserved c =
    let more : c.args.len < length c.loop-self.self = omega arith in
    ap (λ xs. drop (length xs - c.args.len) xs) c.leave.ensures
    ∙ dropped_one c.loop-self.self c.args.len more ∙ c.loop-self.invariant
