use Rattle.std.proofs.Common.{◌≡◌, ◌∙◌, ap, ap₂, map, rules}
use Rattle.std.specs.Option.{option_and_then}
use Rattle.std.specs.String.{string_bytes}
use Rattle.std.proofs.lemmas.Result.{IfOk-weaker}
use Rattle.clap.specs.Words.{App, app_of, is_simple_and_free, rule_of, with_rule}
use Rattle.px_words.specs.Line.{events_rule, limited_app, line_in, rows_read}
use Rattle.px_words.proofs.Finished.{limited_read}
use Rattle.px_words.proofs.line.Line.limited.Goals as goal

pub read-requires : goal.read-requires
read-requires c =
    let event_is : rule_of c.long-events.result ≡ events_rule = search rules in
    let app_is : app_of c.in_ok-arg.field-0 ≡ limited_app = c.in_ok-arg.ensures.shape (search rules) ∙ ap₂ with_rule c.in_ok-syntax.ensures event_is in
    ap is_simple_and_free app_is

pub returns : goal.returns
returns c =
    let event_is : rule_of c.long-events.result ≡ events_rule = search rules in
    let app_is : app_of c.in_ok-arg.field-0 ≡ limited_app = c.in_ok-arg.ensures.shape (search rules) ∙ ap₂ with_rule c.in_ok-syntax.ensures event_is in
    IfOk-weaker c.read.result _ _
    (λ line is. is ∙ ap (λ (app : App). option_and_then line_in (rows_read app (map string_bytes c.args.words.now))) app_is ∙ limited_read c.args.words.now) c.read.ensures
