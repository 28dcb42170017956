use Rattle.std.specs.Prelude.{◌-ℤ◌, ◌*ℤ◌}
use Rattle.std.proofs.Common.{arith}
use Rattle.std.proofs.lemmas.Int.{to_z-of_z}
use Rattle.px_value.proofs.Integers.{fitting, dividing}
use Rattle.px_value.proofs.arithmetic.of_integers.Goals as goal

pub returns-in-Minus : goal.returns-in-Minus
returns-in-Minus c = grind (arith, to_z-of_z, fitting (c.args.a -ℤ c.args.b))

pub returns-in-Times : goal.returns-in-Times
returns-in-Times c = grind (arith, to_z-of_z, fitting (c.args.a *ℤ c.args.b))

pub returns-in-Over : goal.returns-in-Over
returns-in-Over c = grind (arith, to_z-of_z, dividing c.args.a c.args.b)
