use Rattle.std.proofs.Common.{◌≡◌, ◌<◌, nat_eq, false, length, sym, subst, ◌∙◌, arith, rules, tests}
use Rattle.std.proofs.lemmas.Bool.{le-ltb}
use Rattle.std.proofs.lemmas.List.{get_or_read, length-map}
use Rattle.std.proofs.lemmas.Iterator.Search.{any_from_yields_List}
use Rattle.std.proofs.lemmas.Iterator.Consumers.{YieldsList-from_first}
use Rattle.px_listen.specs.Listening.{ListenData, dependents_of, is_dependent}
use Rattle.px_listen.specs.Walking.{watchers_in}
use Rattle.px_listen.proofs.Adding.{above-bound}
use Rattle.px_listen.proofs.listeners.Listeners.has.Goals as goal

pub returns-then-watcher-index : goal.returns-then-watcher-index
returns-then-watcher-index c = any_from_yields_List (nat_eq c.args.watcher) _ _ _ c.any.ensures.ran
    (YieldsList-from_first (λ x. x) (λ rest. rest) (dependents_of c.args.self.now c.args.source) c.dependents.ensures)
    (λ x b q k. search (rules, tests))

pub returns-else-watcher-index : goal.returns-else-watcher-index
returns-else-watcher-index c =
    let l = c.self.inside in
    le-ltb c.args.watcher c.index.result.now c.if-watcher-index.false
    ∙ sym (subst (λ (now : ListenData). c.args.source < length now.dependents → is_dependent now c.args.source c.args.watcher ≡ false)
    c.self.view_is
    (λ there. above-bound l.watchers.value l.links l.watcher_of.items l.bounds.items c.self.invariant.pairs
    c.args.source c.args.watcher c.index.result.now
    (sym (get_or_read l.bounds.items c.args.source c.index.result.now (omega (
      arith,
      there,
      c.self.invariant.pairs.bounded,
      length-map l.links.lists (watchers_in l.watcher_of.items),
    )) c.index.ensures 0)) c.if-watcher-index.false)
    c.requires)
