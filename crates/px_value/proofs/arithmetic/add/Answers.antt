use Rattle.std.specs.Prelude.{◌+ℤ◌}
use Rattle.std.proofs.Common.{arith}
use Rattle.std.proofs.lemmas.Int.{to_z-of_z}
use Rattle.px_value.proofs.Integers.{fitting}
use Rattle.px_value.proofs.arithmetic.add.Goals as goal

pub returns-in-Integer-Integer : goal.returns-in-Integer-Integer
returns-in-Integer-Integer c = grind (arith, to_z-of_z, fitting (c.in-Integer-Integer.a +ℤ c.in-Integer-Integer.b))
