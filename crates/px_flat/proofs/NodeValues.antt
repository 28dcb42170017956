-- What a numbered expression has of a node is what the plan's own expression has of it in the world that parts stand for.
use Rattle.std.proofs.Common.{◌≡◌, ℕ, ◌<◌, true, List, sym, length, Bool}
use Rattle.px_value.specs.declared.value.Value.{Value}
use Rattle.px_value.specs.declared.value.Value.TheVariants as values
use Rattle.px_core.specs.Expr as terms
use Rattle.px_core.specs.Fit.{Node, CommandNode, UpdateNode, path_is_there, is_command, is_update, AreDistinct, has_site}
use Rattle.px_core.specs.Plan.{Site}
use Rattle.px_sem.specs.Expressions.{outcome_value, failure_value, handle_value, handle_of, is_acknowledged}
use Rattle.px_sem.specs.World.{NodeRecord, LookState, Report, record_at}
use Rattle.px_flat.specs.declared.act.Act.{Act}
use Rattle.px_flat.specs.Layout.{state_cell, outcome_cell, failure_cell, handle_cell, acknowledgement_cell}
use Rattle.px_flat.specs.Numbered.{node_of, held}
use Rattle.px_flat.specs.Parts.{IsParts, world_of, record_in, act_of}
use Rattle.px_flat.specs.Values.{HasValue}
use Rattle.px_flat.proofs.Worlds.{record_at-world_of, site_there, node_of-path}
use Rattle.px_flat.proofs.Worlds.{state_value-state_in, outcome_value-outcome_in, failure_value-failure_in}
use Rattle.px_flat.proofs.Worlds.{handle_value-action_in, is_acknowledged-action_in}

module _ (plan : List Site) (cells : List Value) (reports : List (LookState × Report)) (acts : List Act) (path : List ℕ)
    (distinct : AreDistinct plan) (parts : IsParts plan cells acts) where
  -- a value of a node's record that a cell has, of a node that is there
  node_value : (is_kind : Site → Bool) (cell : List Site → ℕ → ℕ) (value_in : NodeRecord → Value)
      → has_site is_kind path plan ≡ true
      → ((node : ℕ) → node < length plan → value_in (record_in plan cells acts node) ≡ held cells (cell plan node))
      → held cells (cell plan (node_of plan path)) ≡ value_in (record_at (world_of plan cells reports acts) path)
  node_value is_kind cell value_in there same =
      let found = site_there is_kind path plan there in
      rw (
        sym found.path_is,
        node_of-path plan found.node distinct found.within,
        record_at-world_of plan cells reports acts found.node distinct found.within,
      ) (sym (same found.node found.within))

  pub state_value : path_is_there plan (Node path) ≡ true → HasValue plan cells reports acts (terms.StateOf path)
  state_value there = node_value (λ site. true) state_cell (λ r. values.State r.state) there
      (λ node within. state_value-state_in _ (parts.nodes node within).state)

  pub outcome_of_value : path_is_there plan (Node path) ≡ true → HasValue plan cells reports acts (terms.OutcomeOf path)
  outcome_of_value there = node_value (λ site. true) outcome_cell (λ r. outcome_value r.outcome) there
      (λ node within. outcome_value-outcome_in _ (parts.nodes node within).outcome)

  pub failure_of_value : path_is_there plan (Node path) ≡ true → HasValue plan cells reports acts (terms.FailureOf path)
  failure_of_value there = node_value (λ site. true) failure_cell (λ r. failure_value r.failure) there
      (λ node within. failure_value-failure_in _ (parts.nodes node within).failure)

  pub handle_of_value : path_is_there plan (CommandNode path) ≡ true → HasValue plan cells reports acts (terms.HandleOf path)
  handle_of_value there =
      node_value (λ site. is_command site.head.kind) handle_cell (λ r. handle_value (handle_of r.action)) there
      (λ node within. handle_value-action_in (act_of acts node) _ _ (parts.nodes node within).handle)

  pub acknowledged_value : path_is_there plan (UpdateNode path) ≡ true → HasValue plan cells reports acts (terms.Acknowledged path)
  acknowledged_value there = node_value (λ site. is_update site.head.kind) acknowledgement_cell
      (λ r. values.Boolean (is_acknowledged r.action)) there
      (λ node within. is_acknowledged-action_in (act_of acts node) _ _ (parts.nodes node within).acknowledgement)
