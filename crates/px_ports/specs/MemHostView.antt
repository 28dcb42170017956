-- What the fields of a host in memory stand for.
use Rattle.std.specs.Vec.{vec_capacity}
use Rattle.px_ports.specs.MemFile.{files_of}
use Rattle.px_ports.specs.MemHost.{MemHostState}
use Rattle.px_ports.specs.declared.mem_host.MemHost.TheInside.{Inside}

-- the state that the fields keep
abbrev pub host_state : Inside → MemHostState
host_state host = record {
  files = files_of host.files.items;
  failing_fetches = host.failing_fetches.items;
  failing_emits = host.failing_emits.items;
  piece = host.piece;
  fetches = host.fetches;
  emits = host.emits;
  failed = host.failed;
  text = host.text.items;
  room = vec_capacity host.text;
  write_faults = host.write_faults;
  idle = host.idle;
}
