use Rattle.std.proofs.Common.{◌≡◌, ◌<◌, ◌++◌, length, All}
use Rattle.std.specs.Prelude.{IsPermutation}
use Rattle.px_cached.specs.Watching.{IsWatcher, parts_of}
use Rattle.px_cached.proofs.watching.Watch.of.Given as goal

abbrev pub invariant-loop-part : goal.invariant-loop-part
invariant-loop-part l = record {
  front : l.fn.dependents ≡ l.yielded ++ l.part-iterator;
  each : IsPermutation (parts_of l.watch) l.yielded;
  within : All (λ part. part < length l.parts) l.watch.others.items;
  watchers : All (IsWatcher l.parts l.name) l.watch.watchers.items;
}
