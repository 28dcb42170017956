use Rattle.std.proofs.Common.{◌≡◌, ◌+◌, rules, length, get_or, sym, subst, arith}
use Rattle.std.proofs.lemmas.List.{get_or_default}
use Rattle.px_flat.specs.Flat.{plan_of}
use Rattle.px_cached.specs.declared.reading.Reader.{Reader}
use Rattle.px_cached.specs.Conditions.{all_sources}
use Rattle.px_cached.specs.Reading.{AreReadersBelow}
use Rattle.px_cached.proofs.Listening.{AreAdded, all_added, one_added}
use Rattle.px_cached.proofs.reading.listeners.Goals as goal

pub loop-reader-preserved : goal.loop-reader-preserved
loop-reader-preserved c =
    let plan = plan_of c.args.flat.now in
    let network = c.args.network.now in
    let readers = c.deref-reader-items.result.now in
    let at = c.loop-reader.reader-index in
    let none : Reader = record { source = 0; part = 0 } in
    let below = subst (λ readers. AreReadersBelow plan network readers (length network)) (sym c.deref-reader-items.ensures.value)
    c.in_ok-readers.ensures in
    let all : c.in-Some.sources ≡ all_sources plan = search rules in
    let there = below.within at none c.loop-reader-test.true in
    subst (λ listeners. AreAdded c.in-Some.sources (length network) readers listeners (at + 1)) (sym c.add.ensures.listeners)
    (one_added c.in-Some.sources (length network) readers c.loop-reader.listeners at c.loop-reader-test.true
    c.loop-reader.invariant (get_or readers at none) (λ d. get_or_default readers at d none c.loop-reader-test.true)
    (omega (arith, there.0, all)))

pub returns-clause-listening : goal.returns-clause-listening
returns-clause-listening c =
    let plan = plan_of c.args.flat.now in
    let network = c.args.network.now in
    let readers = c.deref-reader-items.result.now in
    let below = subst (λ readers. AreReadersBelow plan network readers (length network)) (sym c.deref-reader-items.ensures.value)
    c.in_ok-readers.ensures in
    let all : c.in-Some.sources ≡ all_sources plan = search rules in
    let end : c.loop-reader.reader-index ≡ length readers =
    omega (arith, c.loop-reader-test.false, c.loop-reader.auto.reader-index-end) in
    all_added plan network readers c.loop-reader.listeners below
    (subst (λ sources. AreAdded sources (length network) readers c.loop-reader.listeners (length readers)) all
    (subst (AreAdded c.in-Some.sources (length network) readers c.loop-reader.listeners) end c.loop-reader.invariant))
