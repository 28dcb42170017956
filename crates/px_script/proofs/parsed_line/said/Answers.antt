use Rattle.std.proofs.Common.{◌≡◌, rules, sym}
use Rattle.std.specs.Str.{IsUtf8}
use Rattle.px_script.specs.Kinds.{plan_of}
use Rattle.px_script.proofs.Saids.{no_text, text_says}
use Rattle.px_script.proofs.parsed_line.said.Goals as goal

pub returns-in-Err : goal.returns-in-Err
returns-in-Err c =
    no_text (plan_of c.args.kinds.now) c.args.bytes.now (rw c.split_bytes.ensures.word at (sym c.if-are_word.ensures)) c.in-Err.ensures.cases.0

pub returns-in-Ok : goal.returns-in-Ok
returns-in-Ok c =
    let same : c.in-Ok.text.now ≡ c.args.bytes.now = search rules in
    let utf8 : IsUtf8 c.args.bytes.now = search rules in
    rw (← text_says (plan_of c.args.kinds.now) c.args.bytes.now (rw c.split_bytes.ensures.word at (sym c.if-are_word.ensures)) utf8, ← same)
    c.said_in_text.ensures
