use Rattle.px_script.proofs.Cuts.{cut_end}
use Rattle.px_script.proofs.text.trim.Goals as goal

pub range-requires-clause-end_boundary : goal.range-requires-clause-end_boundary
range-requires-clause-end_boundary c = rw (c.blanks_at_end.ensures.blanks, c.as_bytes.ensures.value) (cut_end c.trim_start-text.result.now)
