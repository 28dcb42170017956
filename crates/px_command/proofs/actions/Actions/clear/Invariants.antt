use Rattle.std.proofs.Common.{◌≡◌, ◌≤◌, IsNone, length, replicate, take}
use Rattle.px_flat.specs.declared.act.Act.TheVariants as acts
use Rattle.px_command.proofs.actions.Actions.clear.Given as goal

-- nothing is under way in the first nodes
abbrev pub invariant-loop-node : goal.invariant-loop-node
invariant-loop-node l = record {
  long : length l.self-inside.acts.contents.values ≡ length l.fn.self.contents.values;
  idle : take l.node l.self-inside.acts.contents.values ≡ take l.node (replicate (length l.fn.self.contents.values) acts.Idle);
  unmarked : IsNone l.self-inside.acts.contents.marked;
  seen : l.self-inside.acts.seen ≡ l.fn.self.seen;
  room : l.fn.self.room ≤ l.self-inside.acts.room;
}
