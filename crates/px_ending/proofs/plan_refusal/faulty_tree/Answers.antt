use Rattle.std.proofs.Common.{append_assoc, rules}
use Rattle.px_ending.proofs.plan_refusal.faulty_tree.Goals as goal

pub returns-in-Fault : goal.returns-in-Fault
returns-in-Fault c = rw c.in-Fault.is (simp append_assoc (search rules))
