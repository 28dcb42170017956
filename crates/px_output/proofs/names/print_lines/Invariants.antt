use Rattle.std.proofs.Common.{◌≡◌, ◌+◌, List, length}
use Rattle.px_event.specs.declared.named.NamedEntry.{NamedEntry}
use Rattle.px_output.specs.View.{view, OnlyPrints}
use Rattle.px_output.proofs.Naming.{Are, IsNaming}
use Rattle.px_output.proofs.names.print_lines.Given as goal

abbrev pub invariant-loop-history : goal.invariant-loop-history
invariant-loop-history g l = record {
  naming : (named : List NamedEntry) → Are l.fn.history l.fn.names named
      → IsNaming named (view g.H.Host l.fn.host) l.fn.printer l.position l.history l.names (view g.H.Host l.host) l.printer;
  only : OnlyPrints (view g.H.Host l.fn.host) (view g.H.Host l.host);
  counted : l.position + length l.history ≡ length l.fn.history;
}

abbrev pub decreases-loop-history : goal.decreases-loop-history
decreases-loop-history g l = length l.history
