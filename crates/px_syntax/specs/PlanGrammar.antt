-- Which tokens spell a plan.
use Rattle.std.specs.Prelude.{List, [], ◌∷◌, length}
use Rattle.px_lex.specs.declared.keyword.Keyword.TheVariants as words
use Rattle.px_lex.specs.declared.sign.Sign.TheVariants as signs
use Rattle.px_lex.specs.declared.token.Token.{Token}
use Rattle.px_syntax.specs.declared.plan.Parameter.{Parameter}
use Rattle.px_syntax.specs.BlockGrammar.{type_word, label, block}
use Rattle.px_syntax.specs.Form.{Form, sign, keyword, identifier, nothing, ◌then◌, either, maybe, each, with_commas}
use Rattle.px_syntax.specs.Plan.{DeclarationData, Command, Lookup, PlanTree}

abbrev pub parameter : Parameter → Form
parameter parts = type_word parts.of_type then maybe identifier parts.name

-- parameters in parentheses, which may be left out where there are none
abbrev pub parameters : List Parameter → Form
parameters [] = either nothing (sign signs.OpenParen then sign signs.CloseParen)
parameters (first ∷ rest) =
    sign signs.OpenParen then with_commas parameter (first ∷ rest) then sign signs.CloseParen

abbrev pub declaration : DeclarationData → Form
declaration (Command answer name parts) =
    maybe type_word answer then keyword words.Command
    then identifier name then parameters parts then sign signs.Semicolon
declaration (Lookup answer name parts) =
    type_word answer then keyword words.Lookup
    then identifier name then parameters parts then sign signs.Semicolon

abbrev pub plan : PlanTree → Form
plan tree = each declaration tree.declarations then label tree.label then block tree.root

-- the tokens spell the plan
abbrev pub Spells : PlanTree → List Token → Type 0
Spells tree tokens = plan tree tokens 0 (length tokens)
