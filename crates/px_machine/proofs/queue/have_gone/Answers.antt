use Rattle.std.proofs.Common.{sym, subst}
use Rattle.std.proofs.lemmas.List.{take_more}
use Rattle.px_machine.specs.Queue.{HaveGone}
use Rattle.px_machine.proofs.Waiting.{gone_more, none_gone}
use Rattle.px_machine.proofs.queue.have_gone.Goals as goal

pub loop-one-init : goal.loop-one-init
loop-one-init c = none_gone c.args.queue.now c.rest.new.queue c.rest.ensures c.requires.nobody c.requires.lists

pub loop-one-preserved : goal.loop-one-preserved
loop-one-preserved c =
    subst (HaveGone c.args.queue.now c.push_back_absent.new.self)
    (sym (take_more c.args.going.now c.loop-one.one-index _ c.loop-one-test.true))
    (gone_more c.args.queue.now c.loop-one.queue c.push_back_absent.new.self _ _ c.loop-one.invariant
    c.push_back_absent.ensures.holders c.push_back_absent.ensures.counts)
