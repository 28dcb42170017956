-- What stands behind the name with which an action begins.
use Rattle.std.specs.Prelude.{◌≡◌, ℕ, ◌+◌, List, Option, Some}
use Rattle.px_lex.specs.declared.sign.Sign.TheVariants as signs
use Rattle.px_lex.specs.declared.token.Token.{Token}
use Rattle.px_lex.specs.declared.token.TokenKind.TheVariants as kinds
use Rattle.px_syntax.specs.declared.expr.Identifier.{Identifier}
use Rattle.px_syntax.specs.Block.{CallData, call_data, BodyTree, Assign, CallInto, Call}
use Rattle.px_syntax.specs.BlockGrammar.{call}
use Rattle.px_syntax.specs.Expr.{Term, Terms, term_of}
use Rattle.px_syntax.specs.ExprGrammar.{arguments, expression, indexed}
use Rattle.px_syntax.specs.Form.{Form, kind_at, maybe, sign, ◌then◌}
use Rattle.px_plan_parse.specs.declared.named.Assigned.{Assigned}
use Rattle.px_plan_parse.specs.declared.named.Assigned.TheVariants as values
use Rattle.px_plan_parse.specs.declared.start.Start.TheVariants as starts
use Rattle.px_plan_parse.specs.Start.{start_at}
use Rattle.px_plan_parse.specs.Part.{Anything, IsPart}

-- what is assigned
pub data WrittenData : Type 0 where
  Value : (value : Term) → WrittenData
  Answer : (call : CallData) → WrittenData

abbrev pub written_data : Assigned → WrittenData
written_data (values.Value value) = Value (term_of value)
written_data (values.Answer call) = Answer (call_data call)

-- arguments of a command, or an index and what is assigned
pub data NamedData : Type 0 where
  Calls : (args : Terms) → NamedData
  Writes : (index : Option Term) (value : WrittenData) → NamedData

abbrev pub optional_index : Option Term → Form
optional_index = maybe indexed

abbrev pub called : Terms → Form
called args = (sign signs.OpenParen then arguments args then sign signs.CloseParen) then sign signs.Semicolon

abbrev pub written : WrittenData → Form
written (Value value) = expression value then sign signs.Semicolon
written (Answer parts) = call parts then sign signs.Semicolon

-- a name, and a parenthesis behind it
abbrev pub BeginsCall : List Token → ℕ → Type 0
BeginsCall tokens place =
    (start_at tokens place ≡ starts.Name) × (kind_at tokens (place + 1) ≡ Some (kinds.Sign signs.OpenParen))

abbrev pub named : NamedData → Form
named (Calls args) = called args
named (Writes index value) = optional_index index then sign signs.Assign then written value

-- the action that this is behind a name
abbrev pub named_body : Identifier → NamedData → BodyTree
named_body name (Calls args) = Call (record { name = name; args = args })
named_body name (Writes index (Value value)) = Assign (record { name = name; index = index }) value
named_body name (Writes index (Answer call)) = CallInto (record { name = name; index = index }) call

-- an action with a name, by what stands behind the name
abbrev pub IsNamed : Identifier → List Token → ℕ → BodyTree → ℕ → Type 0
IsNamed name tokens from tree to =
    (parts : NamedData) × (tree ≡ named_body name parts) × IsPart named Anything tokens from parts to
