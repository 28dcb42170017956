use Rattle.std.proofs.Common.{◌≡◌, List, [], ◌∷◌, ◌++◌, Option, Some, ap, ◌∙◌}
use Rattle.px_turn.proofs.Opening.{opens}
use Rattle.px_turn.proofs.turn.Turn.new.Goals as goal

pub new-requires : goal.new-requires
new-requires g c =
    let slots : c.push.new.self.items ≡ Some c.args.value ∷ [] =
    c.in_default.ensures.items
    ∙ ap (λ (l : List (Option g.row.T.Denot)). l ++ Some c.args.value ∷ []) c.new-slots.ensures.items in
    opens _ _ _ c.args.value _ _ c.of-opening.ensures slots (g.met.T.Listed.stays c.args.value)
    c.entries-count.ensures.count c.entries-count.ensures.few
