-- What begins with a token.
use Rattle.std.specs.Prelude.{◌≡◌, ℕ, List, Option, Some, None}
use Rattle.std.specs.Option.{option_map}
use Rattle.px_lex.specs.declared.token.Token.{Token}
use Rattle.px_lex.specs.declared.keyword.Keyword.{Keyword}
use Rattle.px_lex.specs.declared.keyword.Keyword.TheVariants as words
use Rattle.px_lex.specs.declared.sign.Sign.TheVariants as signs
use Rattle.px_lex.specs.declared.token.TokenKind.{TokenKind}
use Rattle.px_lex.specs.declared.token.TokenKind.TheVariants as kinds
use Rattle.px_syntax.specs.declared.expr.Enumerated.{Enumerated}
use Rattle.px_syntax.specs.declared.expr.Enumerated.TheVariants as enumerated
use Rattle.px_syntax.specs.declared.word.BinaryFunction.TheVariants as binary_functions
use Rattle.px_syntax.specs.declared.word.LookWord.TheVariants as looks
use Rattle.px_syntax.specs.declared.word.UnaryFunction.TheVariants as unary_functions
use Rattle.px_value.specs.declared.enums.Failure.TheVariants as failures
use Rattle.px_value.specs.declared.enums.Handle.TheVariants as handles
use Rattle.px_value.specs.declared.enums.NodeState.TheVariants as states
use Rattle.px_value.specs.declared.enums.Outcome.TheVariants as outcomes
use Rattle.px_syntax.specs.Form.{kind_at}
use Rattle.px_syntax.specs.ExprGrammar.{unary_at}
use Rattle.px_expr_parse.specs.declared.opening.Opening.{Opening}
use Rattle.px_expr_parse.specs.declared.opening.Opening.TheVariants as openings

-- the state, outcome, failure or handle whose name a keyword is
unfoldable pub enumerated_of : Keyword → Option Enumerated
enumerated_of words.Inactive = Some (enumerated.State states.Inactive)
enumerated_of words.Waiting = Some (enumerated.State states.Waiting)
enumerated_of words.Executing = Some (enumerated.State states.Executing)
enumerated_of words.Finishing = Some (enumerated.State states.Finishing)
enumerated_of words.IterationEnded = Some (enumerated.State states.IterationEnded)
enumerated_of words.Failing = Some (enumerated.State states.Failing)
enumerated_of words.Finished = Some (enumerated.State states.Finished)
enumerated_of words.Success = Some (enumerated.Outcome outcomes.Success)
enumerated_of words.Failure = Some (enumerated.Outcome outcomes.Failure)
enumerated_of words.Skipped = Some (enumerated.Outcome outcomes.Skipped)
enumerated_of words.Interrupted = Some (enumerated.Outcome outcomes.Interrupted)
enumerated_of words.PreConditionFailed = Some (enumerated.Failure failures.PreConditionFailed)
enumerated_of words.PostConditionFailed = Some (enumerated.Failure failures.PostConditionFailed)
enumerated_of words.InvariantConditionFailed = Some (enumerated.Failure failures.InvariantConditionFailed)
enumerated_of words.ParentFailed = Some (enumerated.Failure failures.ParentFailed)
enumerated_of words.Exited = Some (enumerated.Failure failures.Exited)
enumerated_of words.ParentExited = Some (enumerated.Failure failures.ParentExited)
enumerated_of words.CommandSentToSystem = Some (enumerated.Handle handles.CommandSentToSystem)
enumerated_of words.CommandAccepted = Some (enumerated.Handle handles.CommandAccepted)
enumerated_of words.CommandRcvdBySystem = Some (enumerated.Handle handles.CommandRcvdBySystem)
enumerated_of words.CommandFailed = Some (enumerated.Handle handles.CommandFailed)
enumerated_of words.CommandDenied = Some (enumerated.Handle handles.CommandDenied)
enumerated_of words.CommandSuccess = Some (enumerated.Handle handles.CommandSuccess)
enumerated_of keyword = None

-- a value that begins, if there is one
abbrev pub enumerated_opening : Option Enumerated → Opening
enumerated_opening (Some value) = openings.Enumerated value
enumerated_opening None = openings.Nothing

unfoldable pub keyword_opening : Keyword → Opening
keyword_opening words.True = openings.Literal
keyword_opening words.False = openings.Literal
keyword_opening words.SelfNode = openings.SelfNode
keyword_opening words.Parent = openings.Parent
keyword_opening words.Sibling = openings.Sibling
keyword_opening words.Child = openings.Child
keyword_opening words.Lookup = openings.Look looks.Lookup
keyword_opening words.LookupNow = openings.Look looks.LookupNow
keyword_opening words.LookupOnChange = openings.Look looks.LookupOnChange
keyword_opening words.IsKnown = openings.UnaryCall unary_functions.IsKnown
keyword_opening words.Abs = openings.UnaryCall unary_functions.Abs
keyword_opening words.StrLen = openings.UnaryCall unary_functions.StrLen
keyword_opening words.Min = openings.BinaryCall binary_functions.Min
keyword_opening words.Max = openings.BinaryCall binary_functions.Max
keyword_opening keyword = enumerated_opening (enumerated_of keyword)

unfoldable pub opening_of : TokenKind → Opening
opening_of (kinds.Identifier name) = openings.Name
opening_of (kinds.Integer value) = openings.Literal
opening_of (kinds.Text content) = openings.Literal
opening_of (kinds.Keyword keyword) = keyword_opening keyword
opening_of (kinds.Sign signs.OpenParen) = openings.Paren
opening_of (kinds.Sign sign) = openings.Nothing

-- what begins at a place where no operator stands before an operand
pub record Begins (tokens : List Token) (place : ℕ) (opening : Opening) : Type 0 where
  pub opens : option_map opening_of (kind_at tokens place) ≡ Some opening
  pub no_operator : unary_at tokens place ≡ None
