use Rattle.std.proofs.Common.{◌≡◌, ◌≢◌, ◌<◌, ℕ, List, length, AllPairs, ap, sym, ◌∙◌, subst, arith}
use Rattle.std.specs.List.{filter_map}
use Rattle.std.proofs.lemmas.Result.{IfOk-weaker}
use Rattle.px_core.specs.Plan.{Site}
use Rattle.px_flat.specs.Flat.{plan_of}
use Rattle.px_flat.proofs.Known.{IsSound}
use Rattle.px_flat.proofs.Tables.{flat_sound}
use Rattle.px_links.specs.Lists.{nth}
use Rattle.px_links.proofs.Once.{once-nth}
use Rattle.px_tally.specs.Tally.{is_counted}
use Rattle.px_assign.specs.Claims.{AreAllStarting, AreOf, AreWinners}
use Rattle.px_assign.specs.Keeping.{claims_data}
use Rattle.px_assign.specs.Ordering.{first_at, first_wanting}
use Rattle.px_assign.proofs.Places.{first_found}
use Rattle.px_assign.proofs.Variables.{IsTallyOf, length-variables}
use Rattle.px_assign.proofs.Winning.{each, once, starting, within}
use Rattle.px_assign.proofs.claims.Claims.winners.Goals as goal
use Rattle.px_assign.proofs.claims.Claims.winners.Goals.{After-winners}

abbrev firsts : After-winners → List ℕ
firsts c = filter_map (first_wanting (is_counted c.self.inside.wanting) c.self.inside.firsts.writers.items)
    (nth c.self.inside.contested.lists 0)

-- as they are told by their places
abbrev told : After-winners → List ℕ
told c = filter_map (first_at c.self.inside.firsts.places.items c.self.inside.firsts.writers.items)
    (nth c.self.inside.contested.lists 0)

told_firsts : (c : After-winners) → told c ≡ firsts c
told_firsts c = ap (λ first. filter_map first (nth c.self.inside.contested.lists 0)) (λ i variable.
    first_found c.self.inside.wanting c.self.inside.firsts.writers.items c.self.inside.firsts.places.items
    c.self.invariant.firsts variable i)

module _ (c : After-winners) (plan : List Site) (of : AreOf plan c.args.self.now) where
  -- what they are, said of the fields
  known : AreOf plan (claims_data c.self.inside)
  known = subst (AreOf plan) (sym c.self.view_is) of

  wanted : IsTallyOf plan c.self.inside.wanting
  wanted = record {
    variables = known.variables;
    sized = c.self.invariant.tallies.wanting_sized ∙ ap length known.variables ∙ length-variables plan;
  }

  held : IsTallyOf plan c.self.inside.holding
  held = record {
    variables = c.self.invariant.tallies.same ∙ known.variables;
    sized = c.self.invariant.tallies.holding_sized ∙ ap length (c.self.invariant.tallies.same ∙ known.variables)
        ∙ length-variables plan;
  }

  some : 0 < length c.self.inside.contested.lists
  some = omega (arith, c.self.invariant.lists)

  apart : AllPairs (λ a b. a ≢ b) (nth c.self.inside.contested.lists 0)
  apart = once-nth c.self.inside.contested.lists 0 c.each_once.ensures.once

  are : AreWinners plan (claims_data c.self.inside) (firsts c)
  are = record {
    once = once plan c.self.inside.firsts.writers.items known.writers c.self.inside.wanting c.self.inside.holding wanted held
        c.self.inside.contested c.self.invariant.contested some apart;
    within = within plan c.self.inside.firsts.writers.items known.writers c.self.inside.wanting c.self.inside.holding wanted held
        c.self.inside.contested c.self.invariant.contested some;
    each = each plan c.self.inside.firsts.writers.items known.writers c.self.inside.wanting c.self.inside.holding wanted held
        c.self.inside.contested c.self.invariant.contested some;
  }

  start : IsSound plan → AreAllStarting plan (claims_data c.self.inside) (firsts c)
  start sound world writers node there =
      are.each node there
      ∙ starting plan c.self.inside.wanting.counting c.self.inside.holding.counting sound
      wanted.sized held.sized world writers node there

pub returns-clause-winners : goal.returns-clause-winners
returns-clause-winners c plan of =
    let at = (goal.at.returns-clause-winners c).After-winners in
    IfOk-weaker c.winners.result (λ winners. winners.items ≡ told at)
    (λ winners. AreWinners plan c.args.self.now winners.items)
    (λ winners is. subst (AreWinners plan c.args.self.now) (sym (is ∙ told_firsts at))
    (subst (λ claims. AreWinners plan claims (firsts at)) c.self.view_is (are at plan of)))
    c.winners.ensures

pub returns-clause-starting : goal.returns-clause-starting
returns-clause-starting c flat of =
    let at = (goal.at.returns-clause-starting c).After-winners in
    IfOk-weaker c.winners.result (λ winners. winners.items ≡ told at)
    (λ winners. AreAllStarting (plan_of flat) c.args.self.now winners.items)
    (λ winners is. subst (AreAllStarting (plan_of flat) c.args.self.now) (sym (is ∙ told_firsts at))
    (subst (λ claims. AreAllStarting (plan_of flat) claims (firsts at)) c.self.view_is
    (start at (plan_of flat) of (flat_sound flat))))
    c.winners.ensures
