-- The small forms that the grammar is made of. A form says from which place among the tokens to before which other
-- place something stands.
use Rattle.std.specs.Prelude.{◌≡◌, ℕ, zero, suc, ◌+◌, ◌⊎◌, pos, slice_get, List, [], ◌∷◌, Option, Some, None}
use Rattle.std.specs.Option.{option_map}
use Rattle.px_lex.specs.declared.keyword.Keyword.{Keyword}
use Rattle.px_lex.specs.declared.sign.Sign.{Sign}
use Rattle.px_lex.specs.declared.sign.Sign.TheVariants.{OpenParen, CloseParen, Comma}
use Rattle.px_lex.specs.declared.token.Token.{Token}
use Rattle.px_lex.specs.declared.token.TokenKind.{TokenKind}
use Rattle.px_lex.specs.declared.token.TokenKind.TheVariants as kinds
use Rattle.px_syntax.specs.declared.expr.Identifier.{Identifier}

abbrev pub Form : Type 1
Form = List Token → ℕ → ℕ → Type 0

-- what the token with a number is, if there is one
abbrev pub kind_at : List Token → ℕ → Option TokenKind
kind_at tokens number = option_map (λ token. token.kind) (slice_get tokens number)

-- one token that is this
abbrev pub one : TokenKind → Form
one kind tokens from to = (kind_at tokens from ≡ Some kind) × (to ≡ from + 1)

abbrev pub sign : Sign → Form
sign which = one (kinds.Sign which)

abbrev pub keyword : Keyword → Form
keyword which = one (kinds.Keyword which)

-- a number with no sign
abbrev pub number : ℕ → Form
number value = one (kinds.Integer (pos value))

-- a form whose first token has this number
abbrev pub numbered : ℕ → Form → Form
numbered token form tokens from to = (token ≡ from) × form tokens from to

-- a name, and the number of its token
abbrev pub identifier : Identifier → Form
identifier name = numbered name.token (one (kinds.Identifier name.name))

-- no token
abbrev pub nothing : Form
nothing tokens from to = to ≡ from

-- what no tokens are
abbrev pub never : Form
never tokens from to = ⊥

-- one form and then another
infixr 5 ◌then◌
abbrev pub ◌then◌ : Form → Form → Form
(first then second) tokens from to =
    (middle : ℕ) × first tokens from middle × second tokens middle to

-- one form or another
abbrev pub either : Form → Form → Form
either first second tokens from to = first tokens from to ⊎ second tokens from to

-- a form in this many pairs of parentheses
abbrev pub in_pairs : ℕ → Form → Form
in_pairs zero form = form
in_pairs (suc pairs) form = sign OpenParen then in_pairs pairs form then sign CloseParen

-- a form, or no token
abbrev pub optional : Form → Form
optional form = either nothing form

-- the form of what is there, or no token where nothing is
abbrev pub maybe : {A : Type 0} → (A → Form) → Option A → Form
maybe form None = nothing
maybe form (Some part) = form part

-- the forms of all parts in turn
abbrev pub each : {A : Type 0} → (A → Form) → List A → Form
each form [] = nothing
each form (part ∷ parts) = form part then each form parts

-- the forms of one part or more, with commas between them
abbrev pub with_commas : {A : Type 0} → (A → Form) → List A → Form
with_commas form [] = never
with_commas form (part ∷ parts) = form part then each (λ other. sign Comma then form other) parts
