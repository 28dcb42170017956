use Rattle.std.proofs.Common.{◌∙◌, map}
use Rattle.std.specs.String.{string_bytes}
use Rattle.clap.specs.Words.{app_of, found_of, rows_of}
use Rattle.px_words.proofs.Found.{line_found}
use Rattle.px_words.proofs.line.Line.read.Goals as goal

pub returns-in-Ok : goal.returns-in-Ok
returns-in-Ok c =
    c.of.ensures
    ∙ line_found (app_of c.args.syntax) (map string_bytes c.args.words.now) (rows_of (found_of c.in-Ok.found)) c.requires c.in-Ok.ensures.matches c.in-Ok.ensures.kinds
