use Rattle.std.proofs.Common.{◌≡◌, ℕ, ◌+◌, sym, subst, ◌∙◌, arith, length, get_or}
use Rattle.std.proofs.lemmas.Option.{slice_get-get_or}
use Rattle.px_plan_parse.specs.declared.depth.Walk.{Walk}
use Rattle.px_plan_parse.proofs.Depths.{IsWalked, deep_first, none_deep, walk_begins, walk_within, walked_more}
use Rattle.px_plan_parse.proofs.depth.first_too_deep.Goals as goal

pub returns-then-is_too_deep : goal.returns-then-is_too_deep
returns-then-is_too_deep c =
    let t = c.index-tokens-at.result in
    deep_first c.args.tokens.now c.loop-at.at c.loop-at.walk c.loop-at.invariant (get_or c.args.tokens.now c.loop-at.at t)
    (slice_get-get_or c.args.tokens.now c.loop-at.at t c.loop-at-test.true)
    (sym c.is_too_deep.ensures ∙ c.if-is_too_deep.true)

pub behind-walk-requires-clause-within : goal.behind-walk-requires-clause-within
behind-walk-requires-clause-within c = walk_within c.args.tokens.now c.loop-at.at c.loop-at.walk c.loop-at.invariant

pub loop-at-preserved : goal.loop-at-preserved
loop-at-preserved c =
    let t = c.index-tokens-at.result in
    subst (λ (walk : Walk). IsWalked c.args.tokens.now (c.loop-at.at + 1) walk) (sym c.behind-walk.ensures)
    (walked_more c.args.tokens.now c.loop-at.at c.loop-at.walk c.loop-at.invariant (get_or c.args.tokens.now c.loop-at.at t)
    (slice_get-get_or c.args.tokens.now c.loop-at.at t c.loop-at-test.true)
    (sym c.is_too_deep.ensures ∙ c.if-is_too_deep.false))

pub loop-at-init : goal.loop-at-init
loop-at-init c = walk_begins c.args.tokens.now

pub returns : goal.returns
returns c =
    let all : c.loop-at.at ≡ length c.args.tokens.now = omega (arith, c.loop-at-test.false, c.loop-at.auto.at-end) in
    none_deep c.args.tokens.now c.loop-at.walk (subst (λ (n : ℕ). IsWalked c.args.tokens.now n c.loop-at.walk) all c.loop-at.invariant)
