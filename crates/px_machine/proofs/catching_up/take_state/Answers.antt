use Rattle.std.proofs.Common.{◌≡◌, length, set, refl, ap, sym, ◌∙◌, rules, arith}
use Rattle.std.proofs.lemmas.Bool.{not-false}
use Rattle.std.proofs.lemmas.List.{get_or_default}
use Rattle.px_value.specs.contracts.enums.NodeState.{the_type as state_type}
use Rattle.px_value.specs.declared.enums.NodeState.TheVariants as states
use Rattle.px_event.proofs.Equality.{bare_eq-decides}
use Rattle.px_flat.specs.Flat.{plan_of}
use Rattle.px_machine.specs.Kept.{kept_state}
use Rattle.px_machine.proofs.Changing.{same_taken}
use Rattle.px_machine.proofs.Places.{parents_long, variables_long}
use Rattle.px_machine.proofs.catching_up.take_state.Goals as goal

pub count-requires-clause-busy : goal.count-requires-clause-busy
count-requires-clause-busy c =
    omega (arith, c.requires.node, ap length c.requires.plan.parents, parents_long (plan_of c.args.flat.now))

pub count-requires-clause-claims : goal.count-requires-clause-claims
count-requires-clause-claims c =
    omega (arith, c.requires.node, variables_long (plan_of c.args.flat.now) c.args.kept.now.claims c.requires.plan.claims)

pub returns-else-ne : goal.returns-else-ne
returns-else-ne c =
    let old = c.args.kept.now in
    let node = c.args.node in
    let alike : c.args.state ≡ c.replace-before.result =
    (bare_eq-decides state_type (search rules) c.args.state c.replace-before.result).0 (not-false _ (sym c.ne.ensures ∙ c.if-ne.false)) in
    let same : c.args.state ≡ kept_state old node =
    alike ∙ c.replace-before.ensures.value ∙ c.index_mut.ensures.value
    ∙ get_or_default old.states.items node _ states.Inactive (omega (arith, c.requires.node, c.requires.plan.states)) in
    same_taken (plan_of c.args.flat.now) old _ node c.args.state c.requires.node c.requires.agrees refl
    (ap (set old.states.items node) c.replace-before.ensures.after) same
