use Rattle.std.proofs.Common.{◌≡◌, ◌++◌, map, take}
use Rattle.std.specs.List.{All}
use Rattle.px_flat.specs.Flat.{plan_of}
use Rattle.px_flat.specs.NumberedData.{expr_data, in_turn}
use Rattle.px_flat.specs.Sources.{sources_in_each}
use Rattle.px_flat.specs.Within.{IsWithin}
use Rattle.px_cached.specs.Reading.{readers_of}
use Rattle.px_cached.proofs.reading.+push_sources.Given as goal

abbrev pub invariant-push_each-loop-expr : goal.invariant-push_each-loop-expr
invariant-push_each-loop-expr l = record {
  readers : l.readers.items ≡ l.initial.readers.items ++ readers_of (plan_of l.flat) l.part
      (sources_in_each (plan_of l.flat) (in_turn (map expr_data (take l.expr-index l.exprs))));
  within : All (λ expr. IsWithin (plan_of l.flat) (expr_data expr)) l.exprs;
}
