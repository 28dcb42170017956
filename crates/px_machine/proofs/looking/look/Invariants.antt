use Rattle.std.proofs.Common.{◌≡◌, ◌≢◌, ◌<◌, length, AllPairs, IfSome}
use Rattle.px_links.specs.Links.{rest_of}
use Rattle.px_machine.specs.Queue.{IsWoken}
use Rattle.px_machine.specs.Right.{IsNow, IsRight}
use Rattle.px_machine.proofs.Looks.{HaveLookedBut}
use Rattle.px_machine.proofs.looking.look.Given as goal

abbrev pub invariant-woken : goal.invariant-woken
invariant-woken l = record {
  looked : HaveLookedBut l.parts l.kept l.going.items (rest_of l.kept.queue l.at);
  right : IsRight l.parts l.kept;
  now : IsNow l.parts l.kept;
  conditions : l.kept.conditions ≡ l.initial.kept.conditions;
  once : AllPairs (λ a b. a ≢ b) (rest_of l.kept.queue l.at);
  within : IfSome l.at (λ node. node < l.kept.queue.cells);
  woken : IfSome l.at (λ node. IsWoken l.kept.queue node);
}

abbrev pub decreases-woken : goal.decreases-woken
decreases-woken l = length (rest_of l.kept.queue l.at)
