use Rattle.std.proofs.Common.{ℕ, List, ◌∷◌, Option, Some, arith, ap, sym, ◌∙◌}
use Rattle.atomic_table.specs.Table.{rest}
use Rattle.px_turn.proofs.Ticketing.{takes_ticket}
use Rattle.px_turn.proofs.turn.Turn.enter.Goals as goal

pub fetch_add-ticket-requires : goal.fetch_add-ticket-requires
fetch_add-ticket-requires g c =
    (c.requires.own.0 ∙ sym c.self.view_is, omega arith, takes_ticket _ _ _ _ _ _ c.requires.out.1 c.requires.out.2)

pub exchange-requires : goal.exchange-requires
exchange-requires g c = let lies = c.wait.ensures.value in (
  c.wait.ensures.own.0 ∙ sym c.self.view_is,
  (Some lies.0, lies.1 ∙ ap (λ (slots : List (ℕ × Option g.row.T.Denot)). (0, Some lies.0) ∷ rest slots) (sym lies.1)),
)
