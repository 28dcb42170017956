use Rattle.px_journal.proofs.Meaning.{one_list_of_names, one_meaning_text, one_meaning_history}
use Rattle.px_journal.proofs.laws.one_meaning.Goals as goal

pub returns-clause-text : goal.returns-clause-text
returns-clause-text c = λ bytes text other history others first second. one_meaning_text bytes text other history others first second

pub returns-clause-history : goal.returns-clause-history
returns-clause-history c = λ bytes text other history others first second. one_meaning_history bytes text other history others first second

pub returns-clause-names : goal.returns-clause-names
returns-clause-names c = λ bytes names others first second. one_list_of_names bytes names others first second
