use Rattle.std.proofs.Common.{◌∙◌, ap, map}
use Rattle.std.specs.Option.{option_and_then}
use Rattle.std.specs.String.{string_bytes}
use Rattle.std.proofs.lemmas.Result.{IfOk-weaker}
use Rattle.clap.specs.Words.{App}
use Rattle.px_words.specs.Line.{line_in, rows_read}
use Rattle.px_words.proofs.Finished.{plain_read}
use Rattle.px_words.proofs.line.Line.plain.Goals as goal

pub returns : goal.returns
returns c =
    IfOk-weaker c.read.result _ _
    (λ line is. is ∙ ap (λ (app : App). option_and_then line_in (rows_read app (map string_bytes c.args.words.now))) c.in_ok-with_operands.ensures ∙ plain_read c.args.words.now) c.read.ensures
