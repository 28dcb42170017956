use Rattle.std.proofs.Common.{◌≡◌, true}
use Rattle.std.specs.Str.{is_utf8}
use Rattle.std.proofs.lemmas.Str.{is_utf8-from_IsUtf8}
use Rattle.px_event.proofs.ToldValues.{shown_plain}
use Rattle.px_event.proofs.event.is_plain.Goals as goal

pub returns-in-Text : goal.returns-in-Text
returns-in-Text c =
    let text : is_utf8 c.as_str.result.now ≡ true = is_utf8-from_IsUtf8 c.as_str.result.now c.as_str.utf8 in
    shown_plain c.args.value.now c.in-Text.text c.as_str.result.now c.in-Text.is c.as_str.ensures.value text
