use Rattle.px_compile.proofs.Refusals.{one_tree, one_plan, no_refusal, one_refusal}
use Rattle.px_compile.proofs.laws.one_answer.Goals as goal

pub returns-clause-one_tree : goal.returns-clause-one_tree
returns-clause-one_tree c = λ a b s t. one_tree c.args.bytes.now a b s t

pub returns-clause-one_plan : goal.returns-clause-one_plan
returns-clause-one_plan c = λ a b s t. one_plan c.args.bytes.now a b s t

pub returns-clause-no_refusal : goal.returns-clause-no_refusal
returns-clause-no_refusal c = λ plan fault some made refused. no_refusal c.args.bytes.now plan fault some made refused

pub returns-clause-one_refusal : goal.returns-clause-one_refusal
returns-clause-one_refusal c = λ f g hf hg a b. one_refusal c.args.bytes.now f g hf hg a b
