use Rattle.std.proofs.Common.{ap, sym, ◌∙◌}
use Rattle.std.specs.Option.{unwrap_or}
use Rattle.px_value.specs.declared.enums.Outcome.TheVariants.{Success}
use Rattle.px_sem.specs.declared.standing.Standing.TheVariants.{Finished}
use Rattle.px_parts.proofs.Found.{some_node, root_finished, root_running}
use Rattle.px_parts.proofs.parts.Parts.standing.Goals as goal

pub state_of-requires-clause-node : goal.state_of-requires-clause-node
state_of-requires-clause-node c = some_node c.args.self.now

pub returns-in-Finished : goal.returns-in-Finished
returns-in-Finished c =
    (λ i. Finished ((c.unwrap_or.ensures ∙ ap (λ outcome. unwrap_or outcome Success) c.outcome_of.ensures) i)
    (c.failure_of.ensures i))
    ∙ root_finished c.args.self.now (sym c.state_of.ensures ∙ c.in-Finished.is)

pub returns-in_default : goal.returns-in_default
returns-in_default c = root_running c.args.self.now (λ is. c.in_default.not-Finished (c.state_of.ensures ∙ is))
