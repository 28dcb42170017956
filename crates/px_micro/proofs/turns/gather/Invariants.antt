use Rattle.std.proofs.Common.{◌≡◌, take}
use Rattle.px_micro.specs.Turns.{AreTurns, KnowsWritten, moves_told}
use Rattle.px_micro.proofs.turns.gather.Given as goal

abbrev pub invariant-loop-one : goal.invariant-loop-one
invariant-loop-one l = record {
  so_far : AreTurns l.parts (take l.one-index l.going) l.turns;
  moves : l.turns.moves.items ≡ moves_told l.parts l.tells (take l.one-index l.going);
  known : KnowsWritten l.turns;
}
