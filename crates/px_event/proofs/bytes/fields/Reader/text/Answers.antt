use Rattle.std.proofs.Common.{◌≡◌, true, false}
use Rattle.std.specs.Str.{is_utf8}
use Rattle.std.proofs.lemmas.Str.{is_utf8-from_IsUtf8}
use Rattle.px_value.proofs.General.{not_utf8}
use Rattle.px_event.proofs.Fields.{text_is, text_is_none}
use Rattle.px_event.proofs.bytes.fields.Reader.text.Goals as goal

pub returns-in-Ok : goal.returns-in-Ok
returns-in-Ok c =
    let utf8 : is_utf8 c.in_ok-text.text.now ≡ true = is_utf8-from_IsUtf8 c.in_ok-text.text.now c.in-Ok.ensures.cases.1 in
    rw c.in-Ok.ensures.cases.0 (text_is c.args.self.now (c.from.result, c.u16.new.self) (c.in_ok-text.text.now, c.front.new.self) (rw c.from.ensures c.in_ok-size.ensures) c.in_ok-text.ensures utf8)

pub returns-in-Err : goal.returns-in-Err
returns-in-Err c =
    let other : is_utf8 c.in_ok-text.text.now ≡ false = not_utf8 c.in_ok-text.text.now c.in-Err.ensures.cases.0 in
    text_is_none c.args.self.now (c.from.result, c.u16.new.self) (c.in_ok-text.text.now, c.front.new.self) (rw c.from.ensures c.in_ok-size.ensures) c.in_ok-text.ensures other
