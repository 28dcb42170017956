-- What the readers of expressions promise.
use Rattle.std.specs.Prelude.{◌≡◌, ℕ, ◌+◌, ◌≤◌, ◌<◌, ◌⊎◌, List, [], ◌∷◌, length, Some}
use Rattle.px_lex.specs.declared.sign.Sign.{Sign}
use Rattle.px_lex.specs.declared.sign.Sign.TheVariants as signs
use Rattle.px_lex.specs.declared.token.Token.{Token}
use Rattle.px_lex.specs.declared.token.TokenKind.{TokenKind}
use Rattle.px_lex.specs.declared.token.TokenKind.TheVariants as kinds
use Rattle.px_syntax.specs.declared.fault.ParseFault.{ParseFault}
use Rattle.px_syntax.specs.declared.fault.ParseFault.TheVariants as faults
use Rattle.px_syntax.specs.declared.operator.BinaryOperator.{BinaryOperator}
use Rattle.px_syntax.specs.declared.operator.Operator.TheVariants as operators
use Rattle.px_syntax.specs.ExprGrammar.{binary_at, expression, operand}
use Rattle.px_syntax.specs.Form.{Form, kind_at}
use Rattle.px_syntax.specs.Operator.{level_of}
use Rattle.px_syntax.specs.Expr.{Term}

-- other tokens are these up to and including a place
abbrev pub Agree : List Token → List Token → ℕ → Type 0
Agree tokens others last = (place : ℕ) → place ≤ last → kind_at others place ≡ kind_at tokens place

-- other tokens are these before a place
abbrev pub AgreeBefore : List Token → List Token → ℕ → Type 0
AgreeBefore tokens others end = (place : ℕ) → place < end → kind_at others place ≡ kind_at tokens place

-- these are the tokens from a place on
abbrev pub Stand : List TokenKind → List Token → ℕ → Type 0
Stand [] tokens place = Unit {0}
Stand (kind ∷ kinds) tokens place = (kind_at tokens place ≡ Some kind) × Stand kinds tokens (place + 1)

-- The tokens from a place to before another begin a part of a form: with what is missing behind them they are the whole.
pub record IsBegun {A : Type 0} (form : A → Form) (tokens : List Token) (from token : ℕ) : Type 0 where
  pub missing : List TokenKind
  pub completed :
      (others : List Token) → AgreeBefore tokens others token → Stand missing others token
      → (part : A) × form part others from (token + length missing)

-- A token with which an expression goes on: an operator between operands of at least a level, [ or a dot.
pub data GoesOn (floor : ℕ) (tokens : List Token) (place : ℕ) : Type 0 where
  operation :
      (operator : BinaryOperator) → binary_at tokens place ≡ Some operator
      → floor ≤ level_of (operators.Binary operator) → GoesOn floor tokens place
  index : kind_at tokens place ≡ Some (kinds.Sign signs.OpenBracket) → GoesOn floor tokens place
  attribute : kind_at tokens place ≡ Some (kinds.Sign signs.Dot) → GoesOn floor tokens place

-- The tree is the longest that is spelled from a place: any other ends before it, where an expression goes on.
pub record IsLongest (floor : ℕ) (tokens : List Token) (from : ℕ) (tree : Term) (to : ℕ) : Type 0 where
  pub spelled : operand floor tree tokens from to
  pub only :
      (other : Term) (end : ℕ) → operand floor other tokens from end
      → ((other ≡ tree) × (end ≡ to)) ⊎ ((end < to) × GoesOn floor tokens end)
  pub ended :
      (operator : BinaryOperator) → binary_at tokens to ≡ Some operator
      → level_of (operators.Binary operator) < floor

-- the same of all tokens that agree up to the end of the tree and the token behind it
pub record IsRead (floor : ℕ) (tokens : List Token) (from : ℕ) (tree : Term) (to : ℕ) : Type 0 where
  pub advances : from < to
  pub within : to ≤ length tokens
  pub longest : (others : List Token) → Agree tokens others to → IsLongest floor others from tree to

-- Among these tokens nothing is spelled from a place beyond another, and nothing up to where it may end.
abbrev pub IsCutShort : ℕ → List Token → ℕ → ℕ → Type 0
IsCutShort floor tokens from last =
    (tree : Term) (end : ℕ) → operand floor tree tokens from end
    → (end ≤ last) × GoesOn floor tokens end

-- The same of all tokens that agree up to and including the named one, where those before it begin an operand. Want of
-- memory says nothing.
abbrev pub IsRefused : ℕ → List Token → ℕ → ParseFault → Type 0
IsRefused floor tokens from (faults.SyntaxFault token) =
    (from ≤ token) × (token ≤ length tokens)
    × ((others : List Token) → Agree tokens others token → IsCutShort floor others from token)
    × IsBegun (operand floor) tokens from token
IsRefused floor tokens from (faults.Deep token) = ⊥
IsRefused floor tokens from faults.NoMemory = Unit {0}

-- ---- parts that end by themselves

-- one part of a form stands at a place, and no other
pub record IsOnly {A : Type 0} (form : A → Form) (tokens : List Token) (from : ℕ) (part : A) (to : ℕ) : Type 0 where
  pub spelled : form part tokens from to
  pub only :
      (other : A) (end : ℕ) → form other tokens from end → (other ≡ part) × (end ≡ to)

-- the same of all tokens that agree up to the end of the part and the token behind it
pub record IsFound {A : Type 0} (form : A → Form) (tokens : List Token) (from : ℕ) (part : A) (to : ℕ) : Type 0 where
  pub advances : from ≤ to
  pub within : to ≤ length tokens
  pub only : (others : List Token) → Agree tokens others to → IsOnly form others from part to

-- the tokens before the named one begin a part of a form, and those up to and including it begin none
abbrev pub IsMissing : {A : Type 0} → (A → Form) → List Token → ℕ → ParseFault → Type 0
IsMissing form tokens from (faults.SyntaxFault token) =
    (from ≤ token) × (token ≤ length tokens)
    × ((others : List Token) → Agree tokens others token → (part : _) (end : ℕ) → form part others from end → ⊥)
    × IsBegun form tokens from token
IsMissing form tokens from (faults.Deep token) = ⊥
IsMissing form tokens from faults.NoMemory = Unit {0}

-- a token of this kind stands at a place
abbrev pub HasKind : List Token → ℕ → TokenKind → Type 0
HasKind tokens place kind = kind_at tokens place ≡ Some kind

-- a token is named as missing where it is
abbrev pub LacksKind : List Token → ℕ → TokenKind → ParseFault → Type 0
LacksKind tokens place kind fault = (fault ≡ faults.SyntaxFault place) × (HasKind tokens place kind → ⊥)

-- the same of a sign
abbrev pub HasSign : List Token → ℕ → Sign → Type 0
HasSign tokens place sign = HasKind tokens place (kinds.Sign sign)

abbrev pub LacksSign : List Token → ℕ → Sign → ParseFault → Type 0
LacksSign tokens place sign = LacksKind tokens place (kinds.Sign sign)

-- ---- what `parse_expr` promises

-- The tree is the only one that the tokens from a place up to another spell, and no longer part of them spells any.
-- Behind it stands nothing with which an expression goes on.
pub record IsExpression (tokens : List Token) (from : ℕ) (tree : Term) (to : ℕ) : Type 0 where
  pub advances : from < to
  pub within : to ≤ length tokens
  pub spelled : expression tree tokens from to
  pub only : (other : Term) → expression other tokens from to → other ≡ tree
  pub longest : (other : Term) (end : ℕ) → expression other tokens from end → end ≤ to
  pub ended : GoesOn 0 tokens to → ⊥

-- The tokens from a place to before another begin an expression: tokens that are the same up to there spell one that
-- reaches so far.
pub record BeginsExpression (tokens : List Token) (from token : ℕ) : Type 0 where
  pub others : List Token
  pub agree : AgreeBefore tokens others token
  pub tree : Term
  pub end : ℕ
  pub spelled : expression tree others from end
  pub reached : token ≤ end

-- Behind each part of the tokens from a place that spells an expression stands something with which it goes on. The
-- tokens before the named one begin an expression, and those up to and including it begin none, where there is such a
-- token.
pub record IsFaultAt (tokens : List Token) (from token : ℕ) : Type 0 where
  pub within : token ≤ length tokens
  pub none :
      (tree : Term) (end : ℕ) → expression tree tokens from end → GoesOn 0 tokens end
  pub begun : BeginsExpression tokens from token
  pub beyond :
      (others : List Token) → Agree tokens others token → token < length tokens
      → (tree : Term) (end : ℕ) → expression tree others from end → end ≤ token

abbrev pub IsNoExpression : List Token → ℕ → ParseFault → Type 0
IsNoExpression tokens from (faults.SyntaxFault token) = IsFaultAt tokens from token
IsNoExpression tokens from (faults.Deep token) = ⊥
IsNoExpression tokens from faults.NoMemory = Unit {0}
