use Rattle.std.proofs.Common.{rules}
use Rattle.std.proofs.lemmas.List.Sorted.{IsNonDecreasingBy-from_sort_by_key}
use Rattle.px_parts.specs.Parts.{plan_in, world_in}
use Rattle.px_micro.specs.declared.sight.Going.{Going}
use Rattle.px_machine.proofs.Choosing.{in_order}
use Rattle.px_machine.proofs.contest.contest.Goals as goal

pub returns : goal.returns
returns c =
    let parts = c.args.parts.now in
    in_order (plan_in parts) (world_in parts) c.push_winners.new.going.items c.sort_unstable_by_key.new.self.items
    c.in_ok-push_winners.ensures c.sort_unstable_by_key.ensures.permutation
    (IsNonDecreasingBy-from_sort_by_key (λ (one : Going). one.node) _ c.sort_unstable_by_key.ensures.sorted (λ a r q k. search rules))
