use Rattle.px_tables.proofs.Readings.{dest_same}
use Rattle.px_tables.proofs.laws.reading.Goals as goal

pub returns : goal.returns
returns c = dest_same
