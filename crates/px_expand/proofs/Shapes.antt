-- The shape of a plain block, by the number of its actions.
use Rattle.std.proofs.Common.{◌≡◌, ◌<◌, ◌≤◌, List, [], ◌∷◌, length, map, get_or, refl, sym, ap, arith}
use Rattle.px_value.proofs.General.{only_one}
use Rattle.px_syntax.specs.declared.block.Action.{Action}
use Rattle.px_syntax.specs.Block.{action_of, actions_in_turn}
use Rattle.px_expand.specs.Kinds.{Children, alone, plain_shape}

pub one :
    (actions : List Action) (action : Action)
    → length actions < 2 → get_or actions 0 action ≡ action → 1 ≤ length actions
    → plain_shape (actions_in_turn (map action_of actions)) ≡ alone (action_of action)
one actions action short is some =
    ap (λ actions. plain_shape (actions_in_turn (map action_of actions)))
    (only_one actions action (omega (arith, short, some)) (sym is))

pub several :
    (actions : List Action) → 2 ≤ length actions → plain_shape (actions_in_turn (map action_of actions)) ≡ Children
several [] long = absurd (omega arith)
several (action ∷ []) long = absurd (omega arith)
several (first ∷ second ∷ rest) long = refl
