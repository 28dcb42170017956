-- How a plan is laid out.
use Rattle.std.specs.Prelude.{ℕ, List, [], ◌∷◌, Option, Some, None, codes}
use Rattle.std.specs.List.{flat_map, join_by}
use Rattle.px_syntax.specs.declared.expr.Identifier.{Identifier}
use Rattle.px_syntax.specs.declared.plan.Parameter.{Parameter}
use Rattle.px_syntax.specs.declared.word.TypeName.{TypeName}
use Rattle.px_syntax.specs.Plan.{DeclarationData, Command, Lookup, PlanTree}
use Rattle.px_print.specs.BlockLayout.{line, type_text, label_text, block_text}
use Rattle.px_print.specs.ExprLayout.{enclosed}
use Rattle.px_print.specs.Texts.{◌then◌}

-- a name behind a blank, where there is one
abbrev pub name_text : Option Identifier → List ℕ
name_text None = []
name_text (Some name) = codes " " then name.name

abbrev pub parameter_text : Parameter → List ℕ
parameter_text parameter = type_text parameter.of_type then name_text parameter.name

-- in parentheses where there are any
abbrev pub parameters_text : List Parameter → List ℕ
parameters_text [] = []
parameters_text (first ∷ rest) = enclosed (join_by parameter_text (codes ", ") (first ∷ rest))

-- the type of a command's answer, where it has one
abbrev pub answer_text : Option TypeName → List ℕ
answer_text None = []
answer_text (Some of_type) = type_text of_type then codes " "

abbrev pub declaration_text : DeclarationData → List ℕ
declaration_text (Command answer name parameters) =
    answer_text answer then codes "Command " then name.name then parameters_text parameters then codes ";"
declaration_text (Lookup answer name parameters) =
    type_text answer then codes " Lookup " then name.name then parameters_text parameters then codes ";"

-- THE LAYOUT: a line for each declaration, and then the root with its label
abbrev pub layout : PlanTree → List ℕ
layout tree =
    flat_map (λ declaration. line [] (declaration_text declaration)) tree.declarations
    then line [] (label_text tree.label then block_text [] tree.root)
