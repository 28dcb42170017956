-- The names of nodes.
use Rattle.std.specs.Prelude.{ℕ, List, Option, None, Some}
use Rattle.px_syntax.specs.declared.expr.Identifier.{Identifier}

-- the label of a node, or the name that it has without one
abbrev pub named : Option Identifier → List ℕ → List ℕ
named None unlabelled = unlabelled
named (Some label) unlabelled = label.name
