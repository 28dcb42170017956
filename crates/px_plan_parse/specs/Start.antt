-- What begins with a token.
use Rattle.std.specs.Prelude.{◌≡◌, ℕ, Bool, true, false, List}
use Rattle.std.specs.Option.{option_map_or}
use Rattle.px_lex.specs.declared.keyword.Keyword.{Keyword}
use Rattle.px_lex.specs.declared.keyword.Keyword.TheVariants as words
use Rattle.px_lex.specs.declared.sign.Sign.TheVariants as signs
use Rattle.px_lex.specs.declared.token.Token.{Token}
use Rattle.px_lex.specs.declared.token.TokenKind.{TokenKind}
use Rattle.px_lex.specs.declared.token.TokenKind.TheVariants as kinds
use Rattle.px_syntax.specs.declared.word.BlockForm.TheVariants as forms
use Rattle.px_syntax.specs.declared.word.Condition.TheVariants as conditions
use Rattle.px_syntax.specs.declared.word.TypeName.TheVariants as types
use Rattle.px_syntax.specs.Form.{kind_at}
use Rattle.px_plan_parse.specs.declared.start.Start.{Start}
use Rattle.px_plan_parse.specs.declared.start.Start.TheVariants as starts
use Rattle.px_plan_parse.specs.Part.{Follow}

unfoldable pub keyword_start : Keyword → Start
keyword_start words.Integer = starts.Type types.Integer
keyword_start words.Boolean = starts.Type types.Boolean
keyword_start words.String = starts.Type types.String
keyword_start words.Command = starts.Command
keyword_start words.Lookup = starts.Lookup
keyword_start words.Start = starts.Condition conditions.Start
keyword_start words.StartCondition = starts.Condition conditions.Start
keyword_start words.End = starts.Condition conditions.End
keyword_start words.EndCondition = starts.Condition conditions.End
keyword_start words.Exit = starts.Condition conditions.Exit
keyword_start words.ExitCondition = starts.Condition conditions.Exit
keyword_start words.Skip = starts.Condition conditions.Skip
keyword_start words.SkipCondition = starts.Condition conditions.Skip
keyword_start words.Repeat = starts.Condition conditions.Repeat
keyword_start words.RepeatCondition = starts.Condition conditions.Repeat
keyword_start words.Pre = starts.Condition conditions.Pre
keyword_start words.PreCondition = starts.Condition conditions.Pre
keyword_start words.Post = starts.Condition conditions.Post
keyword_start words.PostCondition = starts.Condition conditions.Post
keyword_start words.Invariant = starts.Condition conditions.Invariant
keyword_start words.InvariantCondition = starts.Condition conditions.Invariant
keyword_start words.Priority = starts.Priority
keyword_start words.NodeList = starts.NodeList
keyword_start words.Sequence = starts.Form forms.Sequence
keyword_start words.UncheckedSequence = starts.Form forms.UncheckedSequence
keyword_start words.Concurrence = starts.Form forms.Concurrence
keyword_start words.Try = starts.Form forms.Try
keyword_start words.Update = starts.Update
keyword_start words.If = starts.If
keyword_start words.ElseIf = starts.ElseIf
keyword_start words.Else = starts.Else
keyword_start words.EndIf = starts.EndIf
keyword_start words.While = starts.While
keyword_start words.For = starts.For
keyword_start keyword = starts.Nothing

unfoldable pub start_of : TokenKind → Start
start_of (kinds.Identifier name) = starts.Name
start_of (kinds.Keyword keyword) = keyword_start keyword
start_of (kinds.Sign signs.OpenBrace) = starts.Brace
start_of kind = starts.Nothing

-- what begins at a place
abbrev pub start_at : List Token → ℕ → Start
start_at tokens place = option_map_or start_of (kind_at tokens place) starts.Nothing

abbrev pub is_declaration : Start → Bool
is_declaration (starts.Type of_type) = true
is_declaration starts.Command = true
is_declaration start = false

abbrev pub is_item : Start → Bool
is_item (starts.Type of_type) = true
is_item (starts.Condition condition) = true
is_item starts.Priority = true
is_item start = false

abbrev pub is_action : Start → Bool
is_action starts.Name = true
is_action (starts.Form form) = true
is_action starts.Brace = true
is_action starts.Update = true
is_action starts.If = true
is_action starts.While = true
is_action starts.For = true
is_action start = false

-- a word with which an if goes on
abbrev pub is_branch : Start → Bool
is_branch starts.ElseIf = true
is_branch starts.Else = true
is_branch starts.EndIf = true
is_branch start = false

-- what may not follow parts of these sorts

abbrev pub NoDeclaration : Follow
NoDeclaration tokens place = is_declaration (start_at tokens place) ≡ false

abbrev pub NoItem : Follow
NoItem tokens place = is_item (start_at tokens place) ≡ false

abbrev pub NoBranch : Follow
NoBranch tokens place = is_branch (start_at tokens place) ≡ false

abbrev pub NoName : Follow
NoName tokens place = start_at tokens place ≡ starts.Name → ⊥

abbrev pub NoListWord : Follow
NoListWord tokens place = start_at tokens place ≡ starts.NodeList → ⊥

abbrev pub NoElseIf : Follow
NoElseIf tokens place = start_at tokens place ≡ starts.ElseIf → ⊥

abbrev pub NoElse : Follow
NoElse tokens place = start_at tokens place ≡ starts.Else → ⊥
