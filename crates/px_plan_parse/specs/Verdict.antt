-- What `parse` promises.
use Rattle.std.specs.Prelude.{◌≡◌, ℕ, ◌≤◌, List, [], ◌∷◌, length}
use Rattle.px_lex.specs.declared.token.Token.{Token}
use Rattle.px_syntax.specs.declared.fault.ParseFault.{ParseFault}
use Rattle.px_syntax.specs.declared.fault.ParseFault.TheVariants as faults
use Rattle.px_syntax.specs.Depth.{too_deep}
use Rattle.px_syntax.specs.Plan.{PlanTree}
use Rattle.px_syntax.specs.PlanGrammar.{Spells}
use Rattle.px_expr_parse.specs.Verdict.{Agree, AgreeBefore}

-- The tokens spell the plan, and no other.
pub record IsPlan (tokens : List Token) (tree : PlanTree) : Type 0 where
  pub spelled : Spells tree tokens
  pub only : (other : PlanTree) → Spells other tokens → other ≡ tree

-- The tokens before a place begin a plan: tokens that are the same up to there spell one.
pub record BeginsPlan (tokens : List Token) (token : ℕ) : Type 0 where
  pub others : List Token
  pub agree : AgreeBefore tokens others token
  pub tree : PlanTree
  pub spelled : Spells tree others

-- The tokens before the named one begin a plan, and those up to and including it begin none; where none is named they
-- all begin one and spell none. There is one such place at most.
pub record IsFaultAt (tokens : List Token) (token : ℕ) : Type 0 where
  pub within : token ≤ length tokens
  pub begun : BeginsPlan tokens token
  pub none : (others : List Token) → Agree tokens others token → (tree : PlanTree) → Spells tree others → ⊥

-- a token is the first that is too deep
abbrev pub IsFirstTooDeep : List Token → ℕ → Type 0
IsFirstTooDeep tokens token = (rest : List ℕ) × (too_deep tokens ≡ token ∷ rest)

-- why tokens that are not too deep are no plan
abbrev pub IsNoPlan : List Token → ParseFault → Type 0
IsNoPlan tokens (faults.SyntaxFault token) = IsFaultAt tokens token
IsNoPlan tokens (faults.Deep token) = ⊥
IsNoPlan tokens faults.NoMemory = Unit {0}

-- why tokens are no plan; want of memory says nothing
abbrev pub IsRefused : List Token → ParseFault → Type 0
IsRefused tokens (faults.Deep token) = IsFirstTooDeep tokens token
IsRefused tokens (faults.SyntaxFault token) = (too_deep tokens ≡ []) × IsFaultAt tokens token
IsRefused tokens faults.NoMemory = Unit {0}
