-- What is kept stays right where what it reads stays: whoever isn't behind has the own record and the truths that it had.
use Rattle.std.proofs.Common.{◌≡◌, ℕ, ◌<◌, true, false, not, List, length, get_or, nat_eq, ap, sym, ◌∙◌, subst, arith}
use Rattle.px_value.specs.declared.enums.NodeState.TheVariants as states
use Rattle.px_core.specs.declared.conditions.ConditionKind.{ConditionKind}
use Rattle.px_core.specs.declared.conditions.ConditionKind.TheVariants as which
use Rattle.px_core.specs.Plan.{Site}
use Rattle.px_sem.specs.Guards.{is_active, is_at_rest}
use Rattle.px_sem.specs.World.{NodeRecord}
use Rattle.px_flat.specs.Row.{parent_number}
use Rattle.px_links.specs.Links.{is_absent}
use Rattle.px_tally.specs.Tally.{is_counted, total}
use Rattle.px_told.specs.Told.{AreTold, own_at, told_at}
use Rattle.px_cached.specs.Cached.{kept_truth}
use Rattle.px_cached.proofs.OneList.{not_both}
use Rattle.px_parts.specs.declared.parts.Parts.{Parts}
use Rattle.px_parts.specs.Parts.{plan_in}
use Rattle.px_micro.specs.Above.{asks_in}
use Rattle.px_machine.specs.declared.kept.Kept.{Kept}
use Rattle.px_machine.specs.Kept.{IsOfPlan, own_seen, parent_state}
use Rattle.px_machine.specs.Queue.{IsBehind}
use Rattle.px_machine.specs.Right.{IsRight}
use Rattle.px_machine.specs.Told.{Agrees, IsCaughtUp}
use Rattle.px_machine.proofs.Arrivals.{HasTheSame, parent_same}
use Rattle.px_machine.proofs.Changing.{still_same}

-- All but the conditions, the queue and the parts is the same; who was behind is, and who waits nowhere did.
pub record IsFramed (old new : Parts) (before after : Kept) : Type 0 where
  pub plan : plan_in new ≡ plan_in old
  pub of_plan : IsOfPlan (plan_in old) after
  pub states : after.states ≡ before.states
  pub told : after.told ≡ before.told
  pub busy : after.busy ≡ before.busy
  pub claims : after.claims ≡ before.claims
  pub behind : (node : ℕ) → IsBehind before.queue node → IsBehind after.queue node
  pub absent : (node : ℕ) → is_absent after.queue node ≡ true → is_absent before.queue node ≡ true
  pub own : (node : ℕ) → node < length (plan_in old) → (IsBehind after.queue node → ⊥) → own_seen new node ≡ own_seen old node
  pub truths : (node : ℕ) (kind : ConditionKind) → node < length (plan_in old) → (IsBehind after.queue node → ⊥)
      → kept_truth after.conditions node kind ≡ kept_truth before.conditions node kind

module _ (old new : Parts) (before after : Kept) (framed : IsFramed old new before after) (right : IsRight old before) where
  inside : (node : ℕ) → node < length (plan_in new) → node < length (plan_in old)
  inside node here = omega (arith, here, ap length framed.plan)

  agrees : Agrees (length (plan_in old)) after
  agrees = record {
    busy = λ node here.
        (λ i. is_counted (framed.busy i) node) ∙ right.agrees.busy node here
        ∙ (λ i. not (is_at_rest (get_or (sym framed.states i).items node states.Inactive)));
    holding = λ node here.
        (λ i. get_or (framed.claims i).holding node false) ∙ right.agrees.holding node here
        ∙ (λ i. is_active (get_or (sym framed.states i).items node states.Inactive));
    told = subst AreTold (sym framed.told) right.agrees.told;
  }

  caught_up : (node : ℕ) → node < length (plan_in old) → (IsBehind after.queue node → ⊥) → IsCaughtUp new after node
  caught_up node here apart =
      let was = right.caught_up node here (λ before. apart (framed.behind node before)) in
      record {
        state = (λ i. get_or (framed.states i).items node states.Inactive) ∙ was.state
            ∙ ap (λ (r : NodeRecord). r.state) (sym (framed.own node here apart));
        asks = (λ i. own_at (framed.told i) node) ∙ was.asks
            ∙ (λ i. asks_in (sym (framed.own node here apart) i) (sym (framed.truths node which.Exit here apart) i)
            (sym (framed.truths node which.Invariant here apart) i) (sym (framed.truths node which.End here apart) i));
      }

  six_same : (node : ℕ) → node < length (plan_in old) → (IsBehind after.queue node → ⊥) → HasTheSame old new before after node
  six_same node here apart = record {
    plan = framed.plan;
    own = framed.own node here apart;
    parent = ap (λ (sites : List Site). parent_state after (parent_number sites node)) framed.plan
        ∙ parent_same before after framed.states (parent_number (plan_in old) node);
    told = λ i. told_at (framed.told i) node;
    rest = λ i. nat_eq (total (framed.busy i) node) 0;
    truths = λ i. record {
      start = framed.truths node which.Start here apart i;
      end = framed.truths node which.End here apart i;
      exit = framed.truths node which.Exit here apart i;
      skip = framed.truths node which.Skip here apart i;
      repeat = framed.truths node which.Repeat here apart i;
      pre = framed.truths node which.Pre here apart i;
      post = framed.truths node which.Post here apart i;
      invariant = framed.truths node which.Invariant here apart i;
    };
  }

  pub right_framed : IsRight new after
  right_framed = record {
    of_plan = subst (λ (sites : List Site). IsOfPlan sites after) (sym framed.plan) framed.of_plan;
    agrees = subst (λ (sites : List Site). Agrees (length sites) after) (sym framed.plan) agrees;
    caught_up = λ node here apart. caught_up node (inside node here) apart;
    still = λ node here absent.
        still_same old new before after node
        (six_same node (inside node here) (λ behind. not_both after.queue node 0 behind absent))
        (λ i. get_or (framed.claims i).wanting node false)
        (right.still node (inside node here) (framed.absent node absent));
  }
