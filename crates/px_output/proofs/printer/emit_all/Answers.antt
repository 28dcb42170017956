use Rattle.std.proofs.Common.{refl}
use Rattle.px_output.proofs.Printed.{emitting_at_once, emitting_more}
use Rattle.px_output.proofs.printer.emit_all.Goals as goal

pub loop-rest-init : goal.loop-rest-init
loop-rest-init g c = emitting_at_once _ _

pub loop-rest-preserved : goal.loop-rest-preserved
loop-rest-preserved g c =
    emitting_more _ _ _ _ c.loop-rest.rest.now c.in-Ok.count _ c.loop-rest.invariant
    (record {
      emitted = c.in-Ok.ensures.emitted;
      writes = c.in-Ok.ensures.cause;
      idles = c.in-Ok.ensures.idle;
      files = c.in-Ok.ensures.files;
      read_faults = c.in-Ok.ensures.read_faults;
    })
    refl
