use Rattle.px_turn.proofs.Closing.{finds, finds_whole}
use Rattle.px_turn.proofs.turn.Turn.close.Goals as goal

pub unwrap-requires : goal.unwrap-requires
unwrap-requires g c = finds _ _ _ _ _ _ _ _ c.requires.own.1 c.requires.first c.requires.out.2 c.requires.all
    c.close_with-closed.ensures.values.2 c.take-value.ensures.value

pub returns : goal.returns
returns g c = finds_whole _ _ _ _ _ _ _ _ _ c.requires.own.1 c.requires.first c.requires.out.2 c.requires.all
    c.close_with-closed.ensures.values.2 c.take-value.ensures.value c.unwrap.ensures
