use Rattle.std.proofs.Common.{◌∙◌}
use Rattle.std.proofs.lemmas.Result.{IfOk-weaker}
use Rattle.px_parts.specs.Parts.{plan_in, world_in}
use Rattle.px_naive.proofs.Ranges.{are_candidates}
use Rattle.px_naive.proofs.Stepped.{steps_are}
use Rattle.px_naive.proofs.naive.NaiveStepper.step.Goals as goal

pub micro-requires-clause-candidates : goal.micro-requires-clause-candidates
micro-requires-clause-candidates c =
    let naive = c.args.self.now in
    are_candidates (plan_in naive.parts) (world_in naive.parts) c.deref.result.now (c.deref.ensures.value ∙ naive.all)

pub returns-clause-ok : goal.returns-clause-ok
returns-clause-ok c =
    let naive = c.args.self.now in
    IfOk-weaker c.micro.result _ _ (steps_are naive.begun naive.parts c.micro.new.parts) c.micro.ensures.stepped
