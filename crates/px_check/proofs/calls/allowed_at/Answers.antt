use Rattle.std.proofs.Common.{◌<◌, length, ap, sym, ◌∙◌}
use Rattle.std.proofs.lemmas.Bool.{ltb-true}
use Rattle.px_syntax.specs.ValueType.{allowed_as}
use Rattle.px_check.proofs.Calling.{allowed_by}
use Rattle.px_check.proofs.calls.allowed_at.Goals as goal

pub returns-in-Some : goal.returns-in-Some
returns-in-Some c =
    let place = c.args.place in
    let within : place < length c.args.parameters.now =
    ltb-true place (length c.args.parameters.now) (sym c.in-Some.ensures.lookup.0) in
    ap allowed_as c.named_type.ensures
    ∙ allowed_by c.args.parameters.now place c.in-Some.parameter.now within c.in-Some.ensures.lookup.1
