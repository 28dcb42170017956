use Rattle.std.proofs.Common.{◌++◌, codes}
use Rattle.std.specs.Iterator.Adapters.{zip_first, zip_second}
use Rattle.std.specs.Slice.Iter.{iter_rest}
use Rattle.std.proofs.lemmas.Slice.Zip.{Zip-more, either_empty_from_Zip}
use Rattle.px_value.proofs.General.{begins_further, on_err}
use Rattle.px_sem.specs.Text.{pair_text}
use Rattle.px_trace.proofs.Appends.{keeps_on}
use Rattle.px_trace.proofs.Parting.{pairs_begun, no_pairs, pairs_ended}
use Rattle.px_trace.proofs.effects.push_pairs.Goals as goal

pub loop-name-init : goal.loop-name-init
loop-name-init c =
    let first = c.in_ok-push_pair.ensures.ok in
    let next = c.next in
    let some = c.in-Some in
    let moved = c.into_iter-name-iterator.ensures.into_iter_gives in
    let left =
    Zip-more c.zip-pairs.result next.new.self next.result (some.name, some.value) some.is next.ensures.steps
    in (
      pairs_begun pair_text c.args.names.now c.args.values.now some.name.now some.value.now _ _ _ _
          (cc (left.0, c.iter.ensures.rest, c.zip-pairs.ensures.first, moved))
          (cc (left.1, c.iter-2.ensures.rest, c.zip-pairs.ensures.second, moved)) first,
      keeps_on _ _ _ first,
    )

pub returns-in_err-push_pair-2-clause-err : goal.returns-in_err-push_pair-2-clause-err
returns-in_err-push_pair-2-clause-err c =
    let comma = begins_further _ _ _ c.loop-name.invariant.1 (keeps_on _ _ _ c.in_ok-push_all.ensures.ok) in
    on_err _ (begins_further _ _ _ comma c.in_err-push_pair-2.ensures.err)

pub returns-in-None-clause-ok : goal.returns-in-None-clause-ok
returns-in-None-clause-ok c =
    let left = c.loop-name.name-iterator in
    let next = c.next-in-loop-name in
    pairs_ended (λ pair. codes ", " ++ pair_text pair) (iter_rest (zip_first left)) (iter_rest (zip_second left)) _ _
    (either_empty_from_Zip left next.new.self next.result c.in-None.is next.ensures.steps) c.loop-name.invariant.0

pub returns-in_default-clause-ok : goal.returns-in_default-clause-ok
returns-in_default-clause-ok c =
    let next = c.next in
    let ended = either_empty_from_Zip c.zip-pairs.result next.new.self next.result c.in_default.is next.ensures.steps in
    let zipped = c.zip-pairs.ensures in
    no_pairs pair_text c.args.names.now c.args.values.now c.args.out.now.items
    (rw (← c.iter.ensures.rest, ← c.iter-2.ensures.rest, ← zipped.first, ← zipped.second) ended)
