use Rattle.std.proofs.Common.{refl, sym}
use Rattle.px_run.specs.Reading.{Content}
use Rattle.px_run.proofs.reading.fetch_script.Goals as goal

pub returns-in-Ok-clause-ok : goal.returns-in-Ok-clause-ok
returns-in-Ok-clause-ok g c =
    (Content c.in_ok-bytes.bytes.items, c.in_ok-bytes.ensures.ok, rw (sym c.deref.ensures.value) c.in-Ok.ensures.ok)

pub returns-in-Err-Fault-clause-err : goal.returns-in-Err-Fault-clause-err
returns-in-Err-Fault-clause-err g c =
    let fault = rw c.in-Err-Fault.field-0-is at c.in-Err-Fault.ensures.fault in (
      Content c.in_ok-bytes.bytes.items,
      c.in_ok-bytes.ensures.ok,
      (c.in-Err-Fault.line, c.in-Err-Fault.kind, rw (sym c.deref.ensures.value) fault, refl),
    )
