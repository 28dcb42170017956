-- What is seen of a node by its number is what the semantics asks of it by its path.
use Rattle.std.proofs.Common.{◌≡◌, ℕ, ◌<◌, false, List, length, refl, ap, sym, ◌∙◌, arith}
use Rattle.std.proofs.lemmas.Grind.{common_steps}
use Rattle.px_value.specs.declared.enums.NodeState.TheVariants as states
use Rattle.px_value.specs.declared.value.Value.{Value}
use Rattle.px_value.specs.Truth.{truth_of}
use Rattle.px_core.specs.Plan.{Site, no_term}
use Rattle.px_sem.specs.World.{World, NodeRecord, parent_state}
use Rattle.px_flat.specs.Numbered.{Numbered, ConditionsNumbered, numbered_conditions}
use Rattle.px_flat.specs.Row.{site_in}
use Rattle.px_flat.proofs.NodeTerms.{have_values}
use Rattle.px_flat.proofs.Sites.{found_site}
use Rattle.px_flat.proofs.Tables.{flat_sound}
use Rattle.px_parts.specs.declared.parts.Parts.{Parts}
use Rattle.px_told.specs.Asking.{either}
use Rattle.px_micro.specs.Above.{asked_by, asked_of, asked_below, asks_at, asks_in}
use Rattle.px_parts.specs.Parts.{plan_in, world_in, record_of, value_in, AreStanding}
use Rattle.px_parts.proofs.Found.{record_is}
use Rattle.px_micro.specs.declared.truths.Truths.{Truths}
use Rattle.px_micro.specs.Truths.{truths_in}
use Rattle.px_micro.proofs.Ancestors.{IsTop, IsUnder}

-- the truths of numbered conditions
abbrev pub truths_by : (Numbered → Value) → ConditionsNumbered → Truths
truths_by worth conditions = record {
  start = truth_of (worth conditions.start);
  end = truth_of (worth conditions.end);
  exit = truth_of (worth conditions.exit);
  skip = truth_of (worth conditions.skip);
  repeat = truth_of (worth conditions.repeat);
  pre = truth_of (worth conditions.pre);
  post = truth_of (worth conditions.post);
  invariant = truth_of (worth conditions.invariant);
}

pub truths_are : (parts : Parts) (node : ℕ) (conditions : ConditionsNumbered) → AreStanding parts
    → node < length (plan_in parts)
    → conditions ≡ numbered_conditions (plan_in parts) (site_in (plan_in parts) node).head.conditions
    → truths_by (value_in parts) conditions
    ≡ truths_in (plan_in parts) (world_in parts) (site_in (plan_in parts) node).head.conditions
truths_are parts node conditions stand here are =
    let have = have_values (plan_in parts) parts.cells.contents.values parts.reports.reports parts.actions.contents.values node
    (flat_sound parts.flat) here stand in
    ap (truths_by (value_in parts)) are ∙ (λ i. record {
      start = truth_of (have.conditions 0 no_term (omega arith) i);
      end = truth_of (have.conditions 1 no_term (omega arith) i);
      exit = truth_of (have.conditions 2 no_term (omega arith) i);
      skip = truth_of (have.conditions 3 no_term (omega arith) i);
      repeat = truth_of (have.conditions 4 no_term (omega arith) i);
      pre = truth_of (have.conditions 5 no_term (omega arith) i);
      post = truth_of (have.conditions 6 no_term (omega arith) i);
      invariant = truth_of (have.conditions 7 no_term (omega arith) i);
    })

pub asks_are : (parts : Parts) (node : ℕ) (truths : Truths) → node < length (plan_in parts)
    → truths ≡ truths_in (plan_in parts) (world_in parts) (site_in (plan_in parts) node).head.conditions
    → asks_in (record_of parts node) truths.exit truths.invariant truths.end
    ≡ asks_at (plan_in parts) (world_in parts) (site_in (plan_in parts) node).path
asks_are parts node truths here are = grind (arith, common_steps, record_is, found_site, flat_sound)

-- what is asked of the children of a node
pub asked_below_is : (plan : List Site) (now : World) (node : ℕ)
    → either (asks_at plan now (site_in plan node).path) (asked_of plan now node) ≡ asked_below plan now node
asked_below_is plan now node = refl

pub asked_under : (plan : List Site) (now : World) (node : ℕ) (under : IsUnder plan node)
    → asked_below plan now under.parent ≡ asked_of plan now node
asked_under plan now node under = ap (asked_by plan now) (sym under.above)

pub asked_at_top : (plan : List Site) (now : World) (node : ℕ) → IsTop plan node
    → record { exit = false; invariant = false; end = false } ≡ asked_of plan now node
asked_at_top plan now node top = ap (asked_by plan now) (sym top.above)

-- the state of a node's parent
pub parent_is : (parts : Parts) (node : ℕ) (under : IsUnder (plan_in parts) node) → node < length (plan_in parts)
    → (record_of parts under.parent).state ≡ parent_state (world_in parts) (site_in (plan_in parts) node)
parent_is parts node under here =
    rw under.above (ap (λ (r : NodeRecord). r.state) (sym (record_is parts under.parent (omega (arith, under.before, here)))))

pub parent_at_top : (parts : Parts) (node : ℕ) → IsTop (plan_in parts) node
    → states.Executing ≡ parent_state (world_in parts) (site_in (plan_in parts) node)
parent_at_top parts node top = rw top.above refl
