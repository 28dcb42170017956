use Rattle.std.proofs.lemmas.Str.Pattern.{strip_prefix_char}
use Rattle.px_script.proofs.Signs.{sign_stripped}
use Rattle.px_script.proofs.place.behind_sign.Goals as goal

pub returns : goal.returns
returns c =
    sign_stripped c.args.sign c.args.text.now c.strip_prefix.result
    (strip_prefix_char c.args.sign c.args.text.now c.strip_prefix.result c.strip_prefix.ensures.cases c.requires)
