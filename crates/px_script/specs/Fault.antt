-- What is wrong with a line of a script, and the number that is told of it.
use Rattle.std.specs.Prelude.{ℕ}
use Rattle.px_script.specs.declared.fault.FaultKind.{FaultKind}
use Rattle.px_script.specs.declared.fault.FaultKind.TheVariants.{BadLine, BadNode, BadValue, BadThread, TooManyLines, OtherName}

abbrev pub number_of : FaultKind → ℕ
number_of BadLine = 1
number_of BadNode = 2
number_of BadValue = 3
number_of BadThread = 4
number_of TooManyLines = 5
number_of OtherName = 6
