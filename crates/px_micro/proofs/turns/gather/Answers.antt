use Rattle.std.proofs.Common.{◌≡◌, take, ap, sym, ◌∙◌, subst}
use Rattle.std.proofs.lemmas.List.{take_more, take_all}
use Rattle.px_micro.specs.Turns.{AreTurns, moves_told}
use Rattle.px_micro.proofs.Turning.{moves_then, turns_more}
use Rattle.px_micro.proofs.turns.gather.Goals as goal

pub loop-one-preserved : goal.loop-one-preserved
loop-one-preserved c = record {
  so_far = subst (λ going. AreTurns c.args.parts.now going c.add.new.self)
      (sym (take_more c.args.going.now c.loop-one.one-index _ c.loop-one-test.true))
      (turns_more c.args.parts.now (take c.loop-one.one-index c.args.going.now) _ c.loop-one.turns c.add.new.self
      c.loop-one.invariant.so_far c.in_ok-add.ensures.added);
  moves = subst (λ going. c.add.new.self.moves.items ≡ moves_told c.args.parts.now c.args.tells going)
      (sym (take_more c.args.going.now c.loop-one.one-index _ c.loop-one-test.true))
      (moves_then c.args.parts.now c.args.tells (take c.loop-one.one-index c.args.going.now) _ c.loop-one.turns.moves.items
      c.add.new.self.moves.items c.loop-one.invariant.moves c.in_ok-add.ensures.moves);
  known = c.in_ok-add.ensures.written;
}

pub returns-clause-turns : goal.returns-clause-turns
returns-clause-turns c =
    subst (λ going. AreTurns c.args.parts.now going c.loop-one.turns)
    (take_all c.loop-one.one-index c.args.going.now c.loop-one-test.false) c.loop-one.invariant.so_far

pub returns-clause-moves : goal.returns-clause-moves
returns-clause-moves c =
    c.loop-one.invariant.moves
    ∙ ap (moves_told c.args.parts.now c.args.tells) (take_all c.loop-one.one-index c.args.going.now c.loop-one-test.false)
