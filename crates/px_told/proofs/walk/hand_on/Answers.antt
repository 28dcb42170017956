use Rattle.std.proofs.Common.{sym, ◌∙◌}
use Rattle.px_told.proofs.Handing.{handed_start, handed_past, handed_at, handed_end}
use Rattle.px_told.proofs.Same.{same_asks}
use Rattle.px_told.proofs.walk.hand_on.Goals as goal

pub below-init : goal.below-init
below-init c = handed_start c.args.tree.now c.requires.tree c.args.own.now c.args.told.now c.args.heard.now c.args.list
    c.args.node c.requires.told c.requires.node c.requires.list c.requires.others

pub below-preserved-then-eq : goal.below-preserved-then-eq
below-preserved-then-eq c = handed_past c.args.tree.now c.requires.tree c.args.own.now c.args.told.now c.args.heard.now
    c.args.list c.args.node c.requires.told c.requires.node c.requires.list c.requires.others c.below.told c.below.heard
    c.below.at c.below.invariant c.below-test.true
    (sym (same_asks c.asked_of-asked.result _ (sym c.if-eq.ensures)) ∙ c.asked_of-asked.ensures)

pub below-preserved : goal.below-preserved
below-preserved c = handed_at c.args.tree.now c.requires.tree c.args.own.now c.args.told.now c.args.heard.now
    c.args.list c.args.node c.requires.told c.requires.node c.requires.list c.requires.others c.below.told c.below.heard
    c.below.at c.below.invariant c.below-test.true c.asked_of-asked.result c.asked_of-asked.ensures (sym c.if-eq.ensures)
    c.push_back_absent.new.self c.push_back_absent.ensures.links c.push_back_absent.ensures.holders
    c.push_back_absent.ensures.counts

pub returns-clause-told : goal.returns-clause-told
returns-clause-told c = handed_end c.args.tree.now c.requires.tree c.args.own.now c.args.told.now c.args.heard.now c.args.list
    c.args.node c.requires.told c.requires.node c.requires.list c.requires.others c.below.told c.below.heard c.below.at
    c.below.invariant c.below-test.false
