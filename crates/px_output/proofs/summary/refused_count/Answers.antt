use Rattle.std.proofs.Common.{◌∙◌, rules, tests}
use Rattle.std.specs.Prelude.{not}
use Rattle.std.proofs.lemmas.Iterator.{YieldsList-from_slice}
use Rattle.std.proofs.lemmas.Iterator.Consumers.{YieldsList-from_filter, count_from_yields_List}
use Rattle.std.proofs.lemmas.List.Sums.{length-filter}
use Rattle.px_sem.specs.Log.{is_accepted}
use Rattle.px_sem.specs.declared.log.LogEntry.{LogEntry}
use Rattle.px_output.proofs.summary.refused_count.Goals as goal

pub returns : goal.returns
returns c =
    count_from_yields_List c.filter.result _ c.count.ensures.ran
    (YieldsList-from_filter _ (λ (logged : LogEntry). not (is_accepted logged.reply)) (YieldsList-from_slice c.args.log.now (cc)) c.filter.ensures.closure
    (λ x b q k. search (rules, tests)))
    ∙ length-filter (λ (logged : LogEntry). not (is_accepted logged.reply)) c.args.log.now
