-- The guards of a node by what is seen of it are those that the semantics asks.
use Rattle.std.proofs.Common.{◌≡◌, ℕ, ◌<◌, List, length, ap, sym, ◌∙◌}
use Rattle.px_value.specs.declared.enums.NodeState.{NodeState}
use Rattle.px_core.specs.Plan.{Site}
use Rattle.px_sem.specs.declared.guards.Guards.{Guards}
use Rattle.px_sem.specs.Guards.{each_child, is_at_rest}
use Rattle.px_sem.specs.World.{World, NodeRecord, parent_state}
use Rattle.px_flat.specs.Numbered.{ConditionsNumbered, numbered_conditions}
use Rattle.px_flat.specs.Row.{site_in}
use Rattle.px_parts.specs.declared.parts.Parts.{Parts}
use Rattle.px_tables.specs.Reading.{read_by}
use Rattle.px_told.specs.declared.asks.Asks.{Asks}
use Rattle.px_micro.specs.Above.{asked_of}
use Rattle.px_micro.specs.Guarded.{guards_at, guards_in}
use Rattle.px_parts.specs.Parts.{AreStanding, plan_in, world_in, record_of, value_in}
use Rattle.px_micro.specs.declared.truths.Truths.{Truths}
use Rattle.px_micro.specs.Truths.{truths_in}
use Rattle.px_parts.proofs.Found.{record_is}
use Rattle.px_micro.proofs.Seeing.{truths_by, truths_are}

-- what is seen of a node whose record is this
abbrev seen : List Site → World → Site → NodeRecord → ℕ → Guards
seen plan now site r node =
    guards_in site.head.kind r (parent_state now site) (asked_of plan now node)
    (each_child is_at_rest plan now site.path) (truths_in plan now site.head.conditions)

pub guards_are : (parts : Parts) (node : ℕ) → node < length (plan_in parts)
    → seen (plan_in parts) (world_in parts) (site_in (plan_in parts) node) (record_of parts node) node
    ≡ guards_at parts node
guards_are parts node here =
    ap (λ r. seen (plan_in parts) (world_in parts) (site_in (plan_in parts) node) r node) (sym (record_is parts node here))

-- what is read of a node, by what is asked of it and by its numbered conditions
abbrev looked : Parts → ℕ → Asks → Truths → Guards
looked parts node asked truths =
    guards_in (site_in (plan_in parts) node).head.kind (record_of parts node)
    (parent_state (world_in parts) (site_in (plan_in parts) node)) asked
    (each_child is_at_rest (plan_in parts) (world_in parts) (site_in (plan_in parts) node).path) truths

pub reads_are : (parts : Parts) (node : ℕ) (state : NodeState) (asked : Asks) (conditions : ConditionsNumbered)
    → AreStanding parts → node < length (plan_in parts) → asked ≡ asked_of (plan_in parts) (world_in parts) node
    → conditions ≡ numbered_conditions (plan_in parts) (site_in (plan_in parts) node).head.conditions
    → read_by state (looked parts node asked (truths_by (value_in parts) conditions)) ≡ read_by state (guards_at parts node)
reads_are parts node state asked conditions stand here asked_is are =
    ap (read_by state) ((λ i. looked parts node (asked_is i) (truths_are parts node conditions stand here are i))
    ∙ guards_are parts node here)
