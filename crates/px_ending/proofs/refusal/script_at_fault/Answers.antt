use Rattle.std.proofs.Common.{append_assoc, rules}
use Rattle.px_ending.proofs.refusal.script_at_fault.Goals as goal

pub returns : goal.returns
returns c = simp append_assoc (search rules)
