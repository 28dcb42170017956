-- What stands behind the first tokens of a form, up to where it ends by itself.
use Rattle.std.specs.Prelude.{◌≡◌, ◌⊎◌, ℕ, ℤ, List, [], ◌∷◌, Option, Some, None}
use Rattle.px_lex.specs.declared.keyword.Keyword.TheVariants as words
use Rattle.px_lex.specs.declared.sign.Sign.{Sign}
use Rattle.px_lex.specs.declared.sign.Sign.TheVariants as signs
use Rattle.px_lex.specs.declared.token.TokenKind.{TokenKind}
use Rattle.px_syntax.specs.declared.block.ListedLiteral.{ListedLiteral}
use Rattle.px_syntax.specs.declared.expr.Identifier.{Identifier}
use Rattle.px_syntax.specs.declared.expr.Literal.{Literal}
use Rattle.px_syntax.specs.declared.fault.ParseFault.{ParseFault}
use Rattle.px_syntax.specs.declared.fault.ParseFault.TheVariants as faults
use Rattle.px_syntax.specs.declared.plan.Parameter.{Parameter}
use Rattle.px_syntax.specs.declared.word.BlockForm.{BlockForm}
use Rattle.px_syntax.specs.declared.word.BlockForm.TheVariants as forms
use Rattle.px_syntax.specs.Block.{VariableData, ItemData, PairData, Actions, BranchTree}
use Rattle.px_syntax.specs.BlockGrammar.{branch, each_action, form_word, item, listed, pair, signed, size_of, variable}
use Rattle.px_syntax.specs.ExprGrammar.{literal_kind}
use Rattle.px_syntax.specs.Expr.{Term}
use Rattle.px_syntax.specs.Form.{Form, identifier, keyword, never, nothing, optional, sign, ◌then◌, maybe, each, with_commas, number}
use Rattle.px_syntax.specs.Plan.{DeclarationData}
use Rattle.px_syntax.specs.PlanGrammar.{declaration, parameter, parameters}
use Rattle.px_expr_parse.specs.Tail.{closed}
use Rattle.px_expr_parse.specs.Verdict.{HasSign}
use Rattle.px_plan_parse.specs.Part.{Follow}

-- anything but a sign
abbrev pub Unless : Sign → Follow
Unless which tokens place = HasSign tokens place which → ⊥

-- nothing but a sign
abbrev pub Only : Sign → Follow
Only which tokens place = HasSign tokens place which

-- ---- items

-- a token is named that is no literal by itself
abbrev pub NoLiteral : TokenKind → ℕ → ParseFault → Type 0
NoLiteral kind token fault =
    (fault ≡ faults.SyntaxFault token × ((value : Literal) → kind ≡ literal_kind value → ⊥)) ⊎ (fault ≡ faults.NoMemory)

abbrev pub listed_values : List ListedLiteral → Form
listed_values values = each listed values then sign signs.CloseParen

abbrev pub array_size : Option ℕ → Form
array_size = maybe size_of

-- a variable has no size or initial value behind it
abbrev pub VariableEnded : Follow
VariableEnded tokens place = Unless signs.OpenBracket tokens place × Unless signs.Assign tokens place

abbrev pub closed_variables : List VariableData → Form
closed_variables variables = with_commas variable variables then sign signs.Semicolon

abbrev pub test : Term → Form
test tree = optional (sign signs.Colon) then closed signs.Semicolon tree

abbrev pub priority : ℕ → Form
priority value = optional (sign signs.Colon) then number value then sign signs.Semicolon

abbrev pub every_item : List ItemData → Form
every_item = each item

-- ---- declarations

abbrev pub closed_parameters : List Parameter → Form
closed_parameters [] = sign signs.CloseParen
closed_parameters (first ∷ rest) = with_commas parameter (first ∷ rest) then sign signs.CloseParen

abbrev pub declared_parameters : List Parameter → Form
declared_parameters parts = parameters parts then sign signs.Semicolon

abbrev pub signature : Identifier × List Parameter → Form
signature parts = identifier parts.0 then declared_parameters parts.1

abbrev pub every_declaration : List DeclarationData → Form
every_declaration = each declaration

-- ---- updates

abbrev pub closed_pairs : List PairData → Form
closed_pairs pairs = with_commas pair pairs then sign signs.Semicolon

abbrev pub update_pairs : List PairData → Form
update_pairs pairs = optional (sign signs.Colon) then closed_pairs pairs

-- ---- what a `for` counts

abbrev pub counter : Identifier × ℤ → Form
counter parts =
    sign signs.OpenParen then keyword words.Integer then identifier parts.0
    then sign signs.Assign then signed parts.1 then sign signs.Semicolon

-- ---- tests

-- a test or a step up to its bracket, and the branch behind it
abbrev pub closed_branch : Term × BranchTree → Form
closed_branch parts = closed signs.CloseParen parts.0 then branch parts.1

-- the word that ends an `if`, or none
abbrev pub end_if : Unit {0} → Form
end_if none = optional (keyword words.EndIf)

-- ---- blocks

-- a form that is written before the brace
abbrev pub written_form : BlockForm → Form
written_form forms.Plain = never
written_form forms.NodeList = never
written_form form = form_word form

abbrev pub head : Option BlockForm → Form
head None = sign signs.OpenBrace
head (Some form) = written_form form then sign signs.OpenBrace

-- a form that is another, in no tokens
abbrev pub same_form : BlockForm → BlockForm → Form
same_form word form tokens from to = (form ≡ word) × (to ≡ from)

-- which form a block has, and what says so behind its items, by the word before its brace
abbrev pub list_word : Option BlockForm → BlockForm → Form
list_word (Some word) form = same_form word form
list_word None forms.Plain = nothing
list_word None forms.NodeList = keyword words.NodeList then sign signs.Colon
list_word None form = never

abbrev pub closed_actions : Actions → Form
closed_actions actions = each_action actions then sign signs.CloseBrace
