use Rattle.std.proofs.Common.{◌≡◌, ◌<◌, ◌+◌, false, max, length, set, sym, ap, subst, ◌∙◌, arith}
use Rattle.std.specs.Prelude.{if◌then◌else◌}
use Rattle.std.proofs.lemmas.List.{get_or_read, length-map}
use Rattle.px_listen.specs.Keeping.{ArePairs, listening}
use Rattle.px_listen.specs.Listening.{ListenData, is_dependent, pairs_of, with_dependent}
use Rattle.px_listen.specs.Walking.{watchers_in}
use Rattle.px_listen.proofs.Adding.{added}
use Rattle.px_listen.proofs.listeners.Listeners.add.Goals as goal
use Rattle.px_listen.proofs.listeners.Listeners.add.Goals.{After-max}

-- what the fields are then
then_added : (c : After-max)
    → ArePairs c.self.inside.watchers.value c.push_back_absent.new.self c.push_reserved.new.self.items
    (set c.self.inside.bounds.items c.args.source c.max.result)
    × (listening c.self.inside.watchers.value c.push_back_absent.new.self c.push_reserved.new.self.items
    ≡ with_dependent c.args.self.now c.args.source c.args.watcher)
then_added c =
    let l = c.self.inside in
    let kept = c.self.invariant.pairs in
    subst (λ (now : ListenData). c.args.source < length now.dependents → c.args.watcher < now.watchers
    → pairs_of now < now.room → is_dependent now c.args.source c.args.watcher ≡ false
    → ArePairs l.watchers.value c.push_back_absent.new.self c.push_reserved.new.self.items
    (set l.bounds.items c.args.source c.max.result)
    × (listening l.watchers.value c.push_back_absent.new.self c.push_reserved.new.self.items
    ≡ with_dependent now c.args.source c.args.watcher)) c.self.view_is
    (λ there small few new.
    let within : c.args.source < length l.links.lists =
    omega (arith, there, length-map l.links.lists (watchers_in l.watcher_of.items)) in
    let bound = get_or_read l.bounds.items c.args.source c.index_mut-bound.result.now
    (omega (arith, within, kept.bounded)) c.index_mut-bound.ensures.value 0 in
    added l.watchers.value l.links l.watcher_of.items l.bounds.items kept c.args.source c.args.watcher within small few new
    c.len-cell.result c.push_back_absent.new.self c.push_reserved.new.self.items c.max.result
    (c.len-cell.ensures ∙ l.watcher_of.ok.0) c.push_back_absent.ensures.links c.push_back_absent.ensures.holders
    c.push_reserved.ensures.items (c.max.ensures ∙ ap (λ read. max read (c.args.watcher + 1)) bound))
    c.requires.source c.requires.watcher c.requires.room (sym c.if-has.ensures)

pub invariant_of-self : goal.invariant_of-self
invariant_of-self c =
    let kept = c.self.invariant in
    record {
      pairs = (then_added (goal.at.invariant_of-self c).After-max).0;
      room = omega (arith, kept.room, c.push_back_absent.ensures.counts.0, c.push_reserved.ensures.capacity);
      cells = omega (arith, kept.cells, c.push_back_absent.ensures.counts.0);
      watchers = kept.watchers;
    }

pub returns-clause-listeners : goal.returns-clause-listeners
returns-clause-listeners c =
    let now = c.args.self.now in
    (then_added (goal.at.returns-clause-listeners c).After-max).1
    ∙ ap (λ there. if there then now else with_dependent now c.args.source c.args.watcher) c.if-has.ensures
