use Rattle.std.proofs.Common.{refl, sym, subst}
use Rattle.std.proofs.lemmas.List.{take_more}
use Rattle.px_cached.proofs.OneList.{holders_then, now_noted}
use Rattle.px_machine.specs.declared.kept.Kept.{Kept}
use Rattle.px_machine.specs.Noticing.{HaveNotedActs}
use Rattle.px_machine.proofs.News.{acts_more}
use Rattle.px_machine.proofs.noticing.note_acts.Goals as goal

pub loop-node-preserved : goal.loop-node-preserved
loop-node-preserved c =
    let old = c.loop-node.kept in
    let queue = c.push_back_absent.new.self in
    let pushed = c.push_back_absent.ensures in
    let new : Kept = record old { queue = queue } in
    subst (HaveNotedActs c.args.kept.now new) (sym (take_more c.news-news.result.now c.loop-node.node-index 0 c.loop-node-test.true))
    (acts_more c.args.kept.now old new _ _ c.loop-node.invariant
    (record { flat = refl; truths = refl; seen = refl; states = refl; told = refl; busy = refl; claims = refl }) refl
    (record { added = holders_then old.queue queue _ 0 pushed.holders; counts = pushed.counts }) (now_noted old.queue queue _ 0 pushed.holders))
