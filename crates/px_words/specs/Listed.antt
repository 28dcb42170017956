-- The operands and the limit that a line stands for.
use Rattle.clap.specs.Words.{found_of, rows_of}
use Rattle.px_words.specs.declared.line.Line.{Line}
use Rattle.px_words.specs.Limited.{Limited, with_limit}
use Rattle.px_words.specs.Line.{operands_in}

abbrev pub listed : Line → Limited
listed line = with_limit line.limit (operands_in (rows_of (found_of line.found)))
