use Rattle.px_lex.proofs.Unique.{one_way, no_fault, one_fault}
use Rattle.px_lex.proofs.laws.one_answer.Goals as goal

pub returns-clause-one_way : goal.returns-clause-one_way
returns-clause-one_way c = λ a b s t. one_way c.args.text.now a b s t

pub returns-clause-no_fault : goal.returns-clause-no_fault
returns-clause-no_fault c = λ tokens fault some s f. no_fault c.args.text.now tokens fault s some f

pub returns-clause-one_fault : goal.returns-clause-one_fault
returns-clause-one_fault c = λ f g hf hg a b. one_fault c.args.text.now f g hf hg a b
