use Rattle.std.proofs.Common.{◌≡◌, ℕ, ◌<◌, length, get_or, None}
use Rattle.px_flat.specs.Flat.{plan_of}
use Rattle.px_flat.specs.Sources.{Reports}
use Rattle.px_listen.specs.Listening.{dependents_of}
use Rattle.px_cached.specs.declared.watching.Watch.{Watch}
use Rattle.px_cached.specs.Conditions.{source_number}
use Rattle.px_cached.specs.Watching.{IsWatch}
use Rattle.px_cached.proofs.watching.watches.Given as goal

abbrev pub invariant-loop-name : goal.invariant-loop-name
invariant-loop-name l = record {
  names : length l.watches.items ≡ l.name;
  each : (name : ℕ) (d : Watch) → name < l.name → IsWatch l.parts name
      (dependents_of l.listeners (source_number (plan_of l.flat) (Reports name None))) (get_or l.watches.items name d);
}
