-- What begins with a token, and which token that is.
use Rattle.std.proofs.Common.{◌≡◌, ℕ, ◌+◌, ◌⊎◌, inl, inr, refl, sym, ap, subst, ◌∙◌, List, Option, Some, None, Bool, true, false, arith}
use Rattle.std.specs.Option.{option_map_or}
use Rattle.px_lex.specs.declared.keyword.Keyword.{Keyword}
use Rattle.px_lex.specs.declared.keyword.Keyword.TheVariants as words
use Rattle.px_lex.specs.declared.sign.Sign.{Sign}
use Rattle.px_lex.specs.declared.sign.Sign.TheVariants as signs
use Rattle.px_lex.specs.declared.token.Token.{Token}
use Rattle.px_lex.specs.declared.token.TokenKind.{TokenKind}
use Rattle.px_lex.specs.declared.token.TokenKind.TheVariants as kinds
use Rattle.px_syntax.specs.declared.word.BlockForm.TheVariants as forms
use Rattle.px_syntax.specs.declared.word.Condition.{Condition}
use Rattle.px_syntax.specs.declared.word.Condition.TheVariants as conditions
use Rattle.px_syntax.specs.declared.word.TypeName.{TypeName}
use Rattle.px_syntax.specs.declared.word.TypeName.TheVariants as types
use Rattle.px_syntax.specs.Block.{ItemData, Variables, Conditions, Priority}
use Rattle.px_syntax.specs.BlockGrammar.{condition_word, item, type_word}
use Rattle.px_syntax.specs.Form.{Form, kind_at, ◌then◌}
use Rattle.px_expr_parse.specs.Verdict.{Agree}
use Rattle.px_expr_parse.proofs.Parts.{EndsWith, ends_word}
use Rattle.px_plan_parse.specs.declared.start.Start.{Start}
use Rattle.px_plan_parse.specs.declared.start.Start.TheVariants as starts
use Rattle.px_plan_parse.specs.Start.{is_item, keyword_start, start_at, start_of}
use Rattle.px_plan_parse.proofs.Parts.{HasKind, Makes, Splits, makes_by}
use Rattle.px_plan_parse.specs.Tail.{test}

-- the start at a place in other tokens that have the same there
pub start_same : (tokens others : List Token) (place : ℕ) → kind_at others place ≡ kind_at tokens place → start_at others place ≡ start_at tokens place
start_same tokens others place same = ap (λ (kind : Option TokenKind). option_map_or start_of kind starts.Nothing) same

pub start_here : (tokens : List Token) (place : ℕ) (kind : TokenKind) → HasKind tokens place kind → start_at tokens place ≡ start_of kind
start_here tokens place kind has = ap (λ (k : Option TokenKind). option_map_or start_of k starts.Nothing) has

-- a part is made of another by what begins there
pub makes_by_start :
    {A B : Type 0} {whole : A → Form} {inner : B → Form} {build : B → A} {tokens : List Token} {from : ℕ}
    → ((others : List Token) (part : B) (end : ℕ) → inner part others from end → whole (build part) others from end)
    → ((others : List Token) → start_at others from ≡ start_at tokens from → Splits whole inner build others from)
    → Makes whole inner build tokens from
makes_by_start {tokens = tokens} {from = from} builds splits =
    makes_by builds (λ others same. splits others (start_same tokens others from same))

-- what begins with a keyword
pub start_keyword : (tokens : List Token) (place : ℕ) (word : Keyword) → HasKind tokens place (kinds.Keyword word) → start_at tokens place ≡ keyword_start word
unfolding start_of
start_keyword tokens place word has = start_here tokens place (kinds.Keyword word) has

pub start_name : (tokens : List Token) (place : ℕ) (name : List ℕ) → HasKind tokens place (kinds.Identifier name) → start_at tokens place ≡ starts.Name
unfolding start_of
start_name tokens place name has = start_here tokens place (kinds.Identifier name) has

pub start_brace : (tokens : List Token) (place : ℕ) → HasKind tokens place (kinds.Sign signs.OpenBrace) → start_at tokens place ≡ starts.Brace
unfolding start_of
start_brace tokens place has = start_here tokens place (kinds.Sign signs.OpenBrace) has

-- the kinds of token with which something begins
abbrev pub IsOf : Start → TokenKind → Type 0
IsOf (starts.Type types.Integer) kind = kind ≡ kinds.Keyword words.Integer
IsOf (starts.Type types.Boolean) kind = kind ≡ kinds.Keyword words.Boolean
IsOf (starts.Type types.String) kind = kind ≡ kinds.Keyword words.String
IsOf starts.Command kind = kind ≡ kinds.Keyword words.Command
IsOf starts.Lookup kind = kind ≡ kinds.Keyword words.Lookup
IsOf (starts.Condition conditions.Start) kind = (kind ≡ kinds.Keyword words.Start) ⊎ (kind ≡ kinds.Keyword words.StartCondition)
IsOf (starts.Condition conditions.End) kind = (kind ≡ kinds.Keyword words.End) ⊎ (kind ≡ kinds.Keyword words.EndCondition)
IsOf (starts.Condition conditions.Exit) kind = (kind ≡ kinds.Keyword words.Exit) ⊎ (kind ≡ kinds.Keyword words.ExitCondition)
IsOf (starts.Condition conditions.Skip) kind = (kind ≡ kinds.Keyword words.Skip) ⊎ (kind ≡ kinds.Keyword words.SkipCondition)
IsOf (starts.Condition conditions.Repeat) kind = (kind ≡ kinds.Keyword words.Repeat) ⊎ (kind ≡ kinds.Keyword words.RepeatCondition)
IsOf (starts.Condition conditions.Pre) kind = (kind ≡ kinds.Keyword words.Pre) ⊎ (kind ≡ kinds.Keyword words.PreCondition)
IsOf (starts.Condition conditions.Post) kind = (kind ≡ kinds.Keyword words.Post) ⊎ (kind ≡ kinds.Keyword words.PostCondition)
IsOf (starts.Condition conditions.Invariant) kind =
    (kind ≡ kinds.Keyword words.Invariant) ⊎ (kind ≡ kinds.Keyword words.InvariantCondition)
IsOf starts.Priority kind = kind ≡ kinds.Keyword words.Priority
IsOf starts.NodeList kind = kind ≡ kinds.Keyword words.NodeList
IsOf starts.Name kind = (name : List ℕ) × (kind ≡ kinds.Identifier name)
IsOf (starts.Form forms.Sequence) kind = kind ≡ kinds.Keyword words.Sequence
IsOf (starts.Form forms.UncheckedSequence) kind = kind ≡ kinds.Keyword words.UncheckedSequence
IsOf (starts.Form forms.Concurrence) kind = kind ≡ kinds.Keyword words.Concurrence
IsOf (starts.Form forms.Try) kind = kind ≡ kinds.Keyword words.Try
IsOf (starts.Form form) kind = ⊥
IsOf starts.Brace kind = kind ≡ kinds.Sign signs.OpenBrace
IsOf starts.Update kind = kind ≡ kinds.Keyword words.Update
IsOf starts.If kind = kind ≡ kinds.Keyword words.If
IsOf starts.ElseIf kind = kind ≡ kinds.Keyword words.ElseIf
IsOf starts.Else kind = kind ≡ kinds.Keyword words.Else
IsOf starts.EndIf kind = kind ≡ kinds.Keyword words.EndIf
IsOf starts.While kind = kind ≡ kinds.Keyword words.While
IsOf starts.For kind = kind ≡ kinds.Keyword words.For
IsOf starts.Nothing kind = Unit {0}

keyword_is : (word : Keyword) → IsOf (keyword_start word) (kinds.Keyword word)
unfolding keyword_start
keyword_is words.Integer = refl
keyword_is words.Boolean = refl
keyword_is words.String = refl
keyword_is words.Command = refl
keyword_is words.Lookup = refl
keyword_is words.Start = inl refl
keyword_is words.StartCondition = inr refl
keyword_is words.End = inl refl
keyword_is words.EndCondition = inr refl
keyword_is words.Exit = inl refl
keyword_is words.ExitCondition = inr refl
keyword_is words.Skip = inl refl
keyword_is words.SkipCondition = inr refl
keyword_is words.Repeat = inl refl
keyword_is words.RepeatCondition = inr refl
keyword_is words.Pre = inl refl
keyword_is words.PreCondition = inr refl
keyword_is words.Post = inl refl
keyword_is words.PostCondition = inr refl
keyword_is words.Invariant = inl refl
keyword_is words.InvariantCondition = inr refl
keyword_is words.Priority = refl
keyword_is words.NodeList = refl
keyword_is words.Sequence = refl
keyword_is words.UncheckedSequence = refl
keyword_is words.Concurrence = refl
keyword_is words.Try = refl
keyword_is words.Update = refl
keyword_is words.If = refl
keyword_is words.ElseIf = refl
keyword_is words.Else = refl
keyword_is words.EndIf = refl
keyword_is words.While = refl
keyword_is words.For = refl
keyword_is word = tt

kind_is : (kind : TokenKind) → IsOf (start_of kind) kind
unfolding start_of
kind_is (kinds.Identifier name) = (name, refl)
kind_is (kinds.Keyword word) = keyword_is word
kind_is (kinds.Sign signs.OpenBrace) = refl
kind_is kind = tt

-- what begins somewhere, but for nothing, has a token there
pub data HasStart (tokens : List Token) (place : ℕ) (start : Start) : Type 0 where
  found : (kind : TokenKind) → HasKind tokens place kind → IsOf start kind → HasStart tokens place start

pub token_of : (tokens : List Token) (place : ℕ) (start : Start) → start_at tokens place ≡ start → (start ≡ starts.Nothing → ⊥) → HasStart tokens place start
token_of tokens place start is something = go (kind_at tokens place) refl
  where
    go : (there : Option TokenKind) → kind_at tokens place ≡ there → HasStart tokens place start
    go None e = absurd (something (sym is ∙ ap (λ (k : Option TokenKind). option_map_or start_of k starts.Nothing) e))
    go (Some kind) e =
        found kind e (subst (λ (s : Start). IsOf s kind) (sym (start_here tokens place kind e) ∙ is) (kind_is kind))

-- ---- the words of the grammar

pub type_starts : (of_type : TypeName) (tokens : List Token) (from to : ℕ) → type_word of_type tokens from to
    → (start_at tokens from ≡ starts.Type of_type) × (to ≡ from + 1)
unfolding keyword_start
type_starts types.Integer tokens from to o = (start_keyword tokens from _ o.0, o.1)
type_starts of_type tokens from to o = (start_keyword tokens from _ o.0, o.1)

pub type_stands : (of_type : TypeName) (tokens : List Token) (from : ℕ) → HasStart tokens from (starts.Type of_type)
    → type_word of_type tokens from (from + 1)
type_stands types.Integer tokens from (found kind has is) = (has ∙ ap (λ (k : TokenKind). Some k) is, refl)
type_stands of_type tokens from (found kind has is) = (has ∙ ap (λ (k : TokenKind). Some k) is, refl)

-- one of the two spellings
either_starts :
    (tokens : List Token) (from to : ℕ) (short long : Keyword) (start : Start) → keyword_start short ≡ start → keyword_start long ≡ start
    → ((HasKind tokens from (kinds.Keyword short) × (to ≡ from + 1)) ⊎ (HasKind tokens from (kinds.Keyword long) × (to ≡ from + 1)))
    → (start_at tokens from ≡ start) × (to ≡ from + 1)
either_starts tokens from to short long start is_short is_long (inl o) = (start_keyword tokens from short o.0 ∙ is_short, o.1)
either_starts tokens from to short long start is_short is_long (inr o) = (start_keyword tokens from long o.0 ∙ is_long, o.1)

pub condition_starts : (condition : Condition) (tokens : List Token) (from to : ℕ) → condition_word condition tokens from to
    → (start_at tokens from ≡ starts.Condition condition) × (to ≡ from + 1)
unfolding keyword_start
condition_starts conditions.Start tokens from to o = either_starts tokens from to _ _ _ refl refl o
condition_starts condition tokens from to o = either_starts tokens from to _ _ _ refl refl o

-- a condition's word from either spelling
either_stands :
    (tokens : List Token) (from : ℕ) (short long : Keyword) (kind : TokenKind) → HasKind tokens from kind
    → ((kind ≡ kinds.Keyword short) ⊎ (kind ≡ kinds.Keyword long))
    → ((HasKind tokens from (kinds.Keyword short) × (from + 1 ≡ from + 1)) ⊎ (HasKind tokens from (kinds.Keyword long) × (from + 1 ≡ from + 1)))
either_stands tokens from short long kind has (inl is) = inl (has ∙ ap (λ (k : TokenKind). Some k) is, refl)
either_stands tokens from short long kind has (inr is) = inr (has ∙ ap (λ (k : TokenKind). Some k) is, refl)

pub condition_stands : (condition : Condition) (tokens : List Token) (from : ℕ) → HasStart tokens from (starts.Condition condition)
    → condition_word condition tokens from (from + 1)
condition_stands conditions.Start tokens from (found kind has is) = either_stands tokens from _ _ kind has is
condition_stands condition tokens from (found kind has is) = either_stands tokens from _ _ kind has is

pub item_starts : (tree : ItemData) (tokens : List Token) (from end : ℕ) → item tree tokens from end → is_item (start_at tokens from) ≡ true
unfolding keyword_start
item_starts (Variables of_type variables) tokens from end o = ap is_item (type_starts of_type tokens from o.0 o.1).0
item_starts (Conditions condition token test) tokens from end o = ap is_item (condition_starts condition tokens from o.0 o.1.1).0
item_starts (Priority token priority) tokens from end o = ap is_item (start_keyword tokens from words.Priority o.1.1.0)

-- ---- what begins somewhere is this token

-- the token of a start that has only one
pub here :
    (start : Start) (kind : TokenKind) → ((other : TokenKind) → IsOf start other → other ≡ kind) → (start ≡ starts.Nothing → ⊥)
    → (tokens : List Token) (place : ℕ) → start_at tokens place ≡ start → HasKind tokens place kind
here start kind only something tokens place is = go (token_of tokens place start is something)
  where
    go : HasStart tokens place start → HasKind tokens place kind
    go (found other has is_of) = has ∙ ap (λ (k : TokenKind). Some k) (only other is_of)

pub name_here : (tokens : List Token) (place : ℕ) → start_at tokens place ≡ starts.Name → (name : List ℕ) × HasKind tokens place (kinds.Identifier name)
name_here tokens place is = go (token_of tokens place starts.Name is (λ e. cc))
  where
    go : HasStart tokens place starts.Name → (name : List ℕ) × HasKind tokens place (kinds.Identifier name)
    go (found other has is_of) = (is_of.0, has ∙ ap (λ (k : TokenKind). Some k) is_of.1)

-- a sign but an opening brace begins nothing
pub start_nothing :
    (which : Sign) → (which ≡ signs.OpenBrace → ⊥) → (tokens : List Token) (place : ℕ) → HasKind tokens place (kinds.Sign which)
    → start_at tokens place ≡ starts.Nothing
unfolding start_of
start_nothing which no_brace tokens place has = start_here tokens place (kinds.Sign which) has ∙ nothing_of which no_brace
  where
    nothing_of : (other : Sign) → (other ≡ signs.OpenBrace → ⊥) → start_of (kinds.Sign other) ≡ starts.Nothing
    nothing_of signs.OpenBrace none = absurd (none refl)
    nothing_of other none = refl

-- ---- what begins in all tokens that agree

module _ (tokens : List Token) (at : ℕ) where
  pub starts_so : (start : Start) → start_at tokens at ≡ start → (others : List Token) → Agree tokens others at → (start_at others at ≡ start → ⊥) → ⊥
  starts_so start is others agree none = none (start_same tokens others at (agree at (omega arith)) ∙ is)

  -- a test of what begins there, which all parts of a form pass
  pub starts_there :
      (test : Start → Bool) → test (start_at tokens at) ≡ true → (others : List Token) → Agree tokens others at → test (start_at others at) ≡ false → ⊥
  starts_there test passes others agree fails =
      let f : false ≡ true = sym fails ∙ ap test (start_same tokens others at (agree at (omega arith))) ∙ passes in cc

  module _ {A : Type 0} (form : A → Form) where
    pub not_so :
        (start : Start) → ((others : List Token) (part : A) (from end : ℕ) → form part others from end → start_at others from ≡ start)
        → (start_at tokens at ≡ start → ⊥)
        → (others : List Token) → Agree tokens others at → (part : A) (end : ℕ) → form part others at end → ⊥
    not_so start starts none others agree part end o =
        none (sym (start_same tokens others at (agree at (omega arith))) ∙ starts others part at end o)

    pub not_there :
        (test : Start → Bool) → ((part : A) (others : List Token) (from end : ℕ) → form part others from end → test (start_at others from) ≡ true)
        → test (start_at tokens at) ≡ false
        → (others : List Token) → start_at others at ≡ start_at tokens at → (part : A) (end : ℕ) → form part others at end → ⊥
    not_there test starts fails others same part end o =
        let f : false ≡ true = sym fails ∙ ap test (sym same) ∙ starts part others at end o in cc

-- a type or a condition is one token before a part
module _ {A : Type 0} (second : A → Form) (tokens : List Token) (from : ℕ) where
  pub ends_type :
      (of_type : TypeName) → start_at tokens from ≡ starts.Type of_type
      → EndsWith (λ (part : A). type_word of_type then second part) second (λ (part : A). part) tokens from (from + 1)
  ends_type of_type is =
      ends_word (type_word of_type) second
      (λ others same. type_stands of_type others from (token_of others from (starts.Type of_type) (start_same tokens others from same ∙ is) (λ e. cc)))
      (λ others end o. (type_starts of_type others from end o).1)

  pub ends_condition :
      (condition : Condition) → start_at tokens from ≡ starts.Condition condition
      → EndsWith (λ (part : A). condition_word condition then second part) second (λ (part : A). part) tokens from (from + 1)
  ends_condition condition is =
      ends_word (condition_word condition) second
      (λ others same. condition_stands condition others from (token_of others from (starts.Condition condition) (start_same tokens others from same ∙ is) (λ e. cc)))
      (λ others end o. (condition_starts condition others from end o).1)

pub not_item :
    (start : Start) → ((of_type : TypeName) → start ≡ starts.Type of_type → ⊥)
    → ((condition : Condition) → start ≡ starts.Condition condition → ⊥) → (start ≡ starts.Priority → ⊥) → is_item start ≡ false
not_item (starts.Type of_type) no_type no_condition no_priority = absurd (no_type of_type refl)
not_item (starts.Condition condition) no_type no_condition no_priority = absurd (no_condition condition refl)
not_item starts.Priority no_type no_condition no_priority = absurd (no_priority refl)
not_item start no_type no_condition no_priority = refl
