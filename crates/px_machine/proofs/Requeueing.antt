-- What is kept, with another queue: what speaks of no queue stays.
use Rattle.std.proofs.Common.{◌≡◌, ℕ, ◌<◌, true, List, length, is_none, ap, sym, ◌∙◌, subst, inl, inr}
use Rattle.std.proofs.lemmas.Bool.{cases_eq}
use Rattle.px_core.specs.Plan.{Site}
use Rattle.px_links.specs.Links.{LinksData, is_absent, SameCounts}
use Rattle.px_cached.proofs.OneList.{not_both}
use Rattle.px_parts.specs.declared.parts.Parts.{Parts}
use Rattle.px_parts.specs.Parts.{plan_in}
use Rattle.px_micro.specs.declared.sight.Going.{Going}
use Rattle.px_machine.specs.declared.kept.Kept.{Kept}
use Rattle.px_machine.specs.Kept.{IsOfPlan}
use Rattle.px_machine.specs.Queue.{HasPassed, HaveGone, IsBehind}
use Rattle.px_machine.specs.Right.{IsRight}
use Rattle.px_machine.specs.Stepping.{HasChosen}
use Rattle.px_machine.specs.Still.{IsStill}
use Rattle.px_machine.specs.Told.{Agrees, IsCaughtUp}

abbrev pub with_queue : Kept → LinksData → Kept
with_queue kept queue = record kept { queue = queue }

plan_with : (plan : List Site) (kept : Kept) (queue : LinksData) → IsOfPlan plan kept → SameCounts kept.queue queue
    → IsOfPlan plan (with_queue kept queue)
plan_with plan kept queue is counts = record {
  conditions = is.conditions;
  states = is.states;
  tree = is.tree;
  parents = is.parents;
  groups = is.groups;
  claims = is.claims;
  wanting = is.wanting;
  holding = is.holding;
  cells = counts.0 ∙ is.cells;
  lists = counts.1 ∙ is.lists;
  few = is.few;
}

agrees_with : (nodes : ℕ) (kept : Kept) (queue : LinksData) → Agrees nodes kept → Agrees nodes (with_queue kept queue)
agrees_with nodes kept queue so = record { busy = so.busy; holding = so.holding; told = so.told }

caught_with : (parts : Parts) (kept : Kept) (queue : LinksData) (node : ℕ) → IsCaughtUp parts kept node
    → IsCaughtUp parts (with_queue kept queue) node
caught_with parts kept queue node is = record { state = is.state; asks = is.asks }

still_with : (parts : Parts) (kept : Kept) (queue : LinksData) (node : ℕ) → IsStill parts kept node
    → IsStill parts (with_queue kept queue) node
still_with parts kept queue node is = record { marked = is.marked; stays = is.stays }

-- with a queue in which whoever isn't behind was not, or was caught up meanwhile, and whoever is absent was, or is still
requeued : (parts : Parts) (kept : Kept) (queue : LinksData) → IsRight parts kept → SameCounts kept.queue queue
    → ((node : ℕ) → node < length (plan_in parts) → (IsBehind queue node → ⊥) → IsCaughtUp parts kept node)
    → ((node : ℕ) → node < length (plan_in parts) → is_absent queue node ≡ true → IsStill parts kept node)
    → IsRight parts (with_queue kept queue)
requeued parts kept queue right counts caught stays = record {
  of_plan = plan_with (plan_in parts) kept queue right.of_plan counts;
  agrees = agrees_with (length (plan_in parts)) kept queue right.agrees;
  caught_up = λ node here apart. caught_with parts kept queue node (caught node here apart);
  still = λ node here absent. still_with parts kept queue node (stays node here absent);
}

-- ---- a node was caught up, and is woken

pub right_after_pass : (parts : Parts) (kept : Kept) (queue : LinksData) (node : ℕ) → IsRight parts kept
    → IsCaughtUp parts kept node → HasPassed kept.queue queue node → IsRight parts (with_queue kept queue)
right_after_pass parts kept queue node right caught passed =
    requeued parts kept queue right passed.counts (λ other here apart. elim (cases_eq other node) [
      | inl same ↦ subst (IsCaughtUp parts kept) (sym same) caught
      | inr differs ↦ right.caught_up other here (λ behind. apart (passed.others other differs ∙ behind))
    ]) (λ other here absent. elim (cases_eq other node) [
      | inl same ↦ absurd (not_both queue node 1 passed.woken (ap (is_absent queue) (sym same) ∙ absent))
      | inr differs ↦ right.still other here (ap is_none (sym (passed.others other differs)) ∙ absent)
    ])

-- ---- those that go have gone

pub right_after_going : (parts : Parts) (kept : Kept) (queue : LinksData) (going : List Going) → IsRight parts kept
    → HasChosen parts kept going → HaveGone kept.queue queue going → IsRight parts (with_queue kept queue)
right_after_going parts kept queue going right chosen gone =
    requeued parts kept queue right gone.counts (λ node here apart. right.caught_up node here (chosen.nobody node))
    (λ node here absent. chosen.others node here (λ goes. not_both queue node 0 (gone.gone node goes) absent))
