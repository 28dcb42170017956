use Rattle.std.proofs.Common.{◌<◌, [], ◌∷◌, ◌++◌, length, map, ap, sym, ◌∙◌, subst, append_assoc, append-nil, All, rules}
use Rattle.std.specs.Prelude.{IsPermutation}
use Rattle.std.proofs.lemmas.List.{get_or_default}
use Rattle.std.proofs.lemmas.List.Elements.{All-push}
use Rattle.std.proofs.lemmas.List.Sorted.{All-permutation, answers_always}
use Rattle.px_cached.specs.declared.watching.Watcher.{Watcher}
use Rattle.px_cached.specs.Network.{part_at}
use Rattle.px_cached.specs.Watching.{Answers, IsWatcher, part_of}
use Rattle.px_cached.proofs.Watched.{in_order, next_in, with_other, with_watcher}
use Rattle.px_cached.proofs.watching.Watch.of.Goals as goal

pub loop-part-preserved-in-Continue-1 : goal.loop-part-preserved-in-Continue-1
loop-part-preserved-in-Continue-1 c =
    let so_far = c.loop-part.invariant in
    let parts = c.args.parts.now in
    let part = c.in-Some.part in
    let watch = c.loop-part.watch in
    let yielded = c.loop-part.yielded in
    let rest = so_far.front ∙ ap (λ left. yielded ++ left) c.in-Some.ensures.steps in
    let inside = next_in (λ part. part < length parts) yielded c.next.new.self c.args.dependents part rest c.requires in
    let watcher : Watcher = record { turn = c.in-Some-turn_of.turn; part = part } in
    record {
      front = rest ∙ sym (append_assoc yielded (part ∷ []) c.next.new.self);
      each = subst (λ watchers. IsPermutation (watch.others.items ++ map part_of watchers) (yielded ++ part ∷ []))
          (sym c.in_ok-push-in-Some-turn_of.ensures.items)
          (with_watcher watch.others.items watch.watchers.items yielded so_far.each watcher);
      within = so_far.within;
      watchers = subst (All (IsWatcher parts c.args.name)) (sym c.in_ok-push-in-Some-turn_of.ensures.items)
          (All-push (IsWatcher parts c.args.name) watch.watchers.items watcher so_far.watchers (
            inside,
            λ plan. subst (Answers plan c.args.name c.in-Some-turn_of.turn)
                (c.index-parts-part.is ∙ get_or_default parts part c.index-parts-part.result (part_at [] 0) inside)
                (c.in-Some-turn_of.ensures plan),
          ));
    }

pub loop-part-preserved : goal.loop-part-preserved
loop-part-preserved c =
    let so_far = c.loop-part.invariant in
    let parts = c.args.parts.now in
    let part = c.in-Some.part in
    let watch = c.loop-part.watch in
    let yielded = c.loop-part.yielded in
    let rest = so_far.front ∙ ap (λ left. yielded ++ left) c.in-Some.ensures.steps in
    let inside = next_in (λ part. part < length parts) yielded c.next.new.self c.args.dependents part rest c.requires in
    record {
      front = rest ∙ sym (append_assoc yielded (part ∷ []) c.next.new.self);
      each = subst (λ others. IsPermutation (others ++ map part_of watch.watchers.items) (yielded ++ part ∷ []))
          (sym c.in_ok-push-in-None-turn_of.ensures.items)
          (with_other watch.others.items watch.watchers.items yielded so_far.each part);
      within = subst (All (λ part. part < length parts)) (sym c.in_ok-push-in-None-turn_of.ensures.items)
          (All-push (λ part. part < length parts) watch.others.items part so_far.within inside);
      watchers = so_far.watchers;
    }

pub returns : goal.returns
returns c =
    let so_far = c.loop-part.invariant in
    let watch = c.loop-part.watch in
    let sorted = c.sort_unstable_by_key.new.self.items in
    let all = sym (so_far.front ∙ ap (λ left. c.loop-part.yielded ++ left) c.in-None.ensures.steps.0 ∙ append-nil c.loop-part.yielded) in
    record {
      each = in_order watch.others.items watch.watchers.items c.args.dependents
          (subst (IsPermutation (watch.others.items ++ map part_of watch.watchers.items)) all so_far.each) sorted
          c.sort_unstable_by_key.ensures.permutation;
      within = so_far.within;
      watchers = All-permutation (IsWatcher c.args.parts.now c.args.name) watch.watchers.items sorted
          c.sort_unstable_by_key.ensures.permutation so_far.watchers;
      rising = c.sort_unstable_by_key.ensures.sorted (λ (watcher : Watcher). watcher.turn.from)
          (answers_always _ _ _ (λ f a r g h. search rules));
    }
