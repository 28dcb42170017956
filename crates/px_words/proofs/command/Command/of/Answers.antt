use Rattle.std.proofs.Common.{map}
use Rattle.std.specs.String.{string_bytes}
use Rattle.std.proofs.lemmas.Result.{IfOk-weaker}
use Rattle.px_words.proofs.Limits.{run_fits, resume_fits, soak_fits, fit_answer}
use Rattle.px_words.proofs.command.Command.of.Goals as goal

pub returns-in-run-clause-within : goal.returns-in-run-clause-within
returns-in-run-clause-within c = IfOk-weaker c.run.result _ _ (λ found is. fit_answer found _ is (run_fits (map string_bytes c.in-Some.words.now))) c.run.ensures

pub returns-in-resume-clause-within : goal.returns-in-resume-clause-within
returns-in-resume-clause-within c = IfOk-weaker c.resume.result _ _ (λ found is. fit_answer found _ is (resume_fits (map string_bytes c.in-Some.words.now))) c.resume.ensures

pub returns-in-soak-clause-within : goal.returns-in-soak-clause-within
returns-in-soak-clause-within c = IfOk-weaker c.soak.result _ _ (λ found is. fit_answer found _ is (soak_fits (map string_bytes c.in-Some.words.now))) c.soak.ensures
