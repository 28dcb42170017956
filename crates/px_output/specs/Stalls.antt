-- The lines behind a log whose script is stalled.
use Rattle.std.specs.Prelude.{ℕ, List}
use Rattle.std.specs.List.{flat_map}
use Rattle.px_script.specs.declared.stall.Stall.{Stall}
use Rattle.px_sem.specs.Text.{stall_line}

-- a line for each wait at which a thread stands
abbrev pub stall_lines : List Stall → List ℕ
stall_lines stalls = flat_map (λ stall. stall_line stall.thread stall.line stall.cond) stalls
