use Rattle.px_value.specs.Name.{continues_identifier}
use Rattle.px_value.proofs.Ascii.{continues_ascii}
use Rattle.px_lex.proofs.Cuts.{cut_front}
use Rattle.px_lex.proofs.Spans.{taken_pass, left_stops}
use Rattle.px_lex.proofs.word.split_run.Goals as goal

pub split_at-requires : goal.split_at-requires
split_at-requires c = rw (c.run_length.ensures, c.as_bytes.ensures.value) (cut_front continues_identifier continues_ascii c.args.text.now c.utf8.text)

pub returns-clause-run : goal.returns-clause-run
returns-clause-run c =
    taken_pass continues_identifier c.args.text.now c.split_at.result.0.now (rw (c.run_length.ensures, c.as_bytes.ensures.value) at c.split_at.ensures.front)

pub returns-clause-longest : goal.returns-clause-longest
returns-clause-longest c =
    left_stops continues_identifier c.args.text.now c.split_at.result.1.now (rw (c.run_length.ensures, c.as_bytes.ensures.value) at c.split_at.ensures.back)
