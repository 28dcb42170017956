-- Where the call isn't one of those that fail, a growth was refused, so the text had no room.
use Rattle.std.proofs.Common.{◌≡◌, true, arith, length-take}
use Rattle.std.specs.Prelude.{Result, Ok, Err, OnErr, is_err}
use Rattle.std.proofs.lemmas.Grind.{common_steps}
use Rattle.px_ports.proofs.mem_host.MemHostHost.emit.Goals as goal
use Rattle.px_ports.proofs.mem_host.MemHostHost.emit.Goals.{then-fails-via-then-fails, then-fails-via-else-fails+then-is_err}

at_err : {T E P : Type 0} (r : Result T E) → is_err r ≡ true → OnErr r P → P
at_err (Ok x) is refused = cc
at_err (Err e) is refused = refused

pub returns-then-fails-clause-next : goal.returns-then-fails-clause-next
returns-then-fails-clause-next c =
    let listed = rw (c.saturating_add-self-inside.ensures, c.deref.ensures.value) at c.is_listed-fails.ensures in
    elim c.then-fails.branch [
      | then-fails-via-then-fails w ↦ rw (← c.self.view_is, w.self-inside-is) record {
        ok = tt;
        count = tt;
        failed = λ unlisted. cc;
        after = grind (arith, common_steps);
      }
      | then-fails-via-else-fails+then-is_err w ↦ rw (← c.self.view_is, w.self-inside-is) record {
        ok = tt;
        count = tt;
        failed = λ unlisted. let full = at_err w.extend_from_slice.result (cc) w.extend_from_slice.ensures.full in omega (arith, length-take c.min-count.result c.args.bytes.now);
        after = grind (arith, common_steps);
      }
    ]
