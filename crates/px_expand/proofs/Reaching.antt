-- How far the paths of actions and of `else if`s reach, one after another.
use Rattle.std.proofs.Common.{◌≡◌, ℕ, zero, suc, ◌+◌, ◌<◌, ◌≤◌, max, min, List, [], ◌∷◌, map, drop, length, get_or, sym, ap, ◌∙◌, add-one, arith}
use Rattle.px_value.specs.Name.{generated_name}
use Rattle.px_syntax.specs.declared.block.Action.{Action, out-Action}
use Rattle.px_syntax.specs.declared.block.Guarded.{Guarded}
use Rattle.px_syntax.specs.Block.{Actions, ElseIfs, NoElseIfs, ElseIf, else_ifs_in_turn, body_of, guarded_of}
use Rattle.px_syntax.proofs.Trees.{in_turn, action_is}
use Rattle.px_expand.specs.Core.{name_of}
use Rattle.px_expand.specs.Names.{named}
use Rattle.px_expand.specs.Size.{guarded_nodes, else_if_nodes, through, actions_reach, body_reach, else_if_reach}
use Rattle.px_expand.proofs.Actions.{reach_at}

-- ---- one action more

pub action_reached : (actions : List Action) (index : ℕ) (action : Action)
    → index < length actions → action ≡ get_or actions index action → (place : ℕ)
    → actions_reach (suc place) (in_turn (drop index actions))
    ≡ max
    (through (named (out-Action action).label (generated_name (place + 1))) (body_reach (body_of (out-Action action).body)))
    (actions_reach (suc (place + 1)) (in_turn (drop (index + 1) actions)))
action_reached actions index action within is place =
    let body : ℕ = body_reach (body_of (out-Action action).body) in
    let rest : Actions = in_turn (drop (index + 1) actions) in
    reach_at actions index action (suc place) within is
    ∙ ap (λ tree. max (through (name_of (suc place) tree) body) (actions_reach (suc (suc place)) rest)) (action_is action)
    ∙ ap (λ number. max (through (named (out-Action action).label (generated_name number)) body) (actions_reach (suc number) rest))
    (sym (add-one place))

-- ---- `else if`s

pub one_of_else_ifs : (others : List Guarded) (place : ℕ) (guarded : Guarded) → place < length others
    → guarded ≡ get_or others place guarded
    → guarded_nodes (guarded_of guarded) ≤ else_if_nodes (else_ifs_in_turn (map guarded_of others))
one_of_else_ifs [] place guarded within is = absurd (omega arith)
one_of_else_ifs (first ∷ rest) zero guarded within is =
    let same = ap (λ one. guarded_nodes (guarded_of one)) is in
    omega (arith, same)
one_of_else_ifs (first ∷ rest) (suc place) guarded within is =
    let others = one_of_else_ifs rest place guarded (omega arith) is in
    omega (arith, others)

-- beyond the limit it is the same how far
pub far_is_far : (last : ℕ) (others : ElseIfs)
    → min (else_if_reach (min last 5001) others) 5001 ≡ min (else_if_reach last others) 5001
far_is_far last NoElseIfs = omega arith
far_is_far last (ElseIf guarded others) =
    let more = far_is_far last others in
    omega (arith, more)
