use Rattle.std.proofs.Common.{sym, ◌∙◌}
use Rattle.px_micro.proofs.Resting.{state_is}
use Rattle.px_micro.proofs.wanting.state_at.Goals as goal

pub returns : goal.returns
returns c = c.state_of.ensures ∙ sym (state_is c.args.parts.now c.args.node c.requires.node)
