use Rattle.std.proofs.Common.{sym, ap, ◌∙◌, arith}
use Rattle.std.proofs.lemmas.List.{map_push}
use Rattle.px_value.proofs.General.{handed_on}
use Rattle.px_syntax.specs.Block.{item_data}
use Rattle.px_syntax.specs.BlockGrammar.{item}
use Rattle.px_plan_parse.specs.Start.{is_item}
use Rattle.px_plan_parse.proofs.Parts.{front_ends, front_lacks, front_more}
use Rattle.px_plan_parse.proofs.Spans.{local_item}
use Rattle.px_plan_parse.proofs.Starts.{item_starts, not_there, start_same, starts_there}
use Rattle.px_plan_parse.proofs.item.items.Goals as goal

pub returns-in_err-item-clause-fault : goal.returns-in_err-item-clause-fault
returns-in_err-item-clause-fault c =
    handed_on _ _ _ c.from_residual.ensures.1 (front_lacks c.loop-alloc.invariant (λ others part from end o. tt) (λ others place last. tt)
    (starts_there c.args.tokens.now c.loop-alloc.at is_item
    (ap is_item (sym c.start_at.ensures.value) ∙ sym c.is_item.ensures ∙ c.loop-alloc-test.true)) local_item c.in_err-item.ensures.fault)

pub loop-alloc-preserved : goal.loop-alloc-preserved
loop-alloc-preserved c =
    rw (c.in_ok-push.ensures.items, map_push item_data c.loop-alloc.items.items c.in_ok-item.item)
    (front_more c.loop-alloc.invariant (λ others part from end o. tt) (λ others place last. tt)
    (starts_there c.args.tokens.now c.loop-alloc.at is_item
    (ap is_item (sym c.start_at.ensures.value) ∙ sym c.is_item.ensures ∙ c.loop-alloc-test.true)) c.in_ok-item.ensures.ok)

pub returns-clause-ok : goal.returns-clause-ok
returns-clause-ok c =
    front_ends c.loop-alloc.invariant (λ others agree. not_there c.args.tokens.now c.loop-alloc.at item is_item item_starts
    (ap is_item (sym c.start_at.ensures.value) ∙ sym c.is_item.ensures ∙ c.loop-alloc-test.false) others
    (start_same c.args.tokens.now others c.loop-alloc.at (agree c.loop-alloc.at (omega arith))))
