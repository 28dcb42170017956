-- All nodes as candidates.
use Rattle.std.proofs.Common.{◌≡◌, ℕ, ◌<◌, List, length, subst, sym, arith}
use Rattle.std.specs.List.{range_with_len}
use Rattle.std.proofs.lemmas.List.FromFn.{length-range_with_len, get_or-range_with_len}
use Rattle.px_core.specs.Plan.{Site}
use Rattle.px_sem.specs.World.{World}
use Rattle.px_micro.specs.Candidates.{AreCandidates}
use Rattle.px_micro.proofs.Lists.{range_below, range_has}

all_nodes : (plan : List Site) (world : World) → AreCandidates plan world (range_with_len 0 (length plan))
all_nodes plan world = record {
  rise = λ i j d before inside.
      let far : j < length plan = omega (arith, inside, length-range_with_len 0 (length plan)) in
      let near : i < length plan = omega (arith, far, before) in
      omega (arith, before, get_or-range_with_len 0 (length plan) i d near, get_or-range_with_len 0 (length plan) j d far);
  within = range_below (length plan);
  all = λ node inside goes. range_has (length plan) node inside;
}

pub are_candidates : (plan : List Site) (world : World) (nodes : List ℕ) → nodes ≡ range_with_len 0 (length plan)
    → AreCandidates plan world nodes
are_candidates plan world nodes all = subst (AreCandidates plan world) (sym all) (all_nodes plan world)
