use Rattle.std.proofs.Common.{◌<◌, ◌≤◌, ℕ, Bool, length, get_or, min, subst, sym, ◌∙◌, arith}
use Rattle.std.proofs.lemmas.List.{get_or_read}
use Rattle.px_tally.specs.Tally.{is_counted}
use Rattle.px_assign.specs.Ordering.{place_wanting}
use Rattle.px_assign.proofs.Places.{coming, leaving}
use Rattle.px_assign.proofs.firsts.Firsts.turn.Goals as goal
use Rattle.px_assign.proofs.firsts.Firsts.turn.Goals.{then-counts, else-counts}

pub first_from-requires-clause-before : goal.first_from-requires-clause-before
first_from-requires-clause-before c =
    let firsts = c.args.self.now in
    let wants : ℕ → Bool = is_counted c.args.wanting.now in
    let place : ℕ = get_or firsts.places.items c.args.variable 0 in
    let read = get_or_read firsts.places.items c.args.variable c.index-from.result.now
    (omega (arith, c.requires.variable, c.requires.variables)) c.index-from.ensures 0 in
    elim c.if-counts.branch [
      | then-counts w ↦
          let here : c.args.node < length firsts.ranks.items = omega (arith, c.requires.node, c.requires.ranked.sized) in
          let rank = get_or_read firsts.ranks.items c.args.node w.index.result.now here w.index.ensures 0
          ∙ c.requires.ranked.right c.args.node here in
          subst (λ from. from ≤ place_wanting wants firsts.writers.items c.args.variable) (sym (w.from-is ∙ w.min-from.ensures))
          (coming wants c.args.node c.args.variable firsts.writers.items (min c.index-from.result.now w.index.result.now)
          (omega (arith, read, c.requires.before)) (omega (arith, rank)))
      | else-counts w ↦
          subst (λ from. from ≤ place_wanting wants firsts.writers.items c.args.variable) (sym (w.from-is ∙ read))
          (leaving wants c.args.node c.args.variable firsts.writers.items place c.requires.before
          (sym c.counts.ensures ∙ w.if-counts.false))
    ]
