use Rattle.px_lex.proofs.Numbers.{parsed}
use Rattle.px_lex.proofs.number.value.Goals as goal

pub returns : goal.returns
returns c = rw c.ok.ensures.value (parsed c.args.base c.args.digits.now _ c.requires.high c.requires.digits c.from_str_radix.ensures.value)
