-- What the readers of plans promise of the parts of a plan. Where a part ends may depend on what follows it.
use Rattle.std.specs.Prelude.{◌≡◌, ℕ, ◌≤◌, List, length}
use Rattle.px_lex.specs.declared.token.Token.{Token}
use Rattle.px_syntax.specs.declared.fault.ParseFault.{ParseFault}
use Rattle.px_syntax.specs.declared.fault.ParseFault.TheVariants as faults
use Rattle.px_syntax.specs.Form.{Form}
use Rattle.px_expr_parse.specs.Verdict.{Agree, GoesOn, IsBegun}

-- what may follow a part
abbrev pub Follow : Type 1
Follow = List Token → ℕ → Type 0

abbrev pub Anything : Follow
Anything tokens place = Unit {0}

-- anything with which no expression goes on
abbrev pub Ended : Follow
Ended tokens place = GoesOn 0 tokens place → ⊥

-- One part of a form stands at a place. Any other part that stands there is followed by what may not follow it.
pub record IsSole {A : Type 0} (form : A → Form) (Next : Follow) (tokens : List Token) (from : ℕ) (part : A) (to : ℕ) : Type 0 where
  pub spelled : form part tokens from to
  pub only :
      (other : A) (end : ℕ) → form other tokens from end → Next tokens end → (other ≡ part) × (end ≡ to)

-- the same of all tokens that agree up to the end of the part and the token behind it
pub record IsPart {A : Type 0} (form : A → Form) (Next : Follow) (tokens : List Token) (from : ℕ) (part : A) (to : ℕ) : Type 0 where
  pub advances : from ≤ to
  pub within : to ≤ length tokens
  pub sole : (others : List Token) → Agree tokens others to → IsSole form Next others from part to

-- The tokens before the named one begin a part of a form. No part of it stands at the place and is followed by what may
-- follow it, whatever follows the named token.
pub record Lacks {A : Type 0} (form : A → Form) (Next : Follow) (tokens : List Token) (from token : ℕ) : Type 0 where
  pub reached : from ≤ token
  pub within : token ≤ length tokens
  pub begun : IsBegun form tokens from token
  pub none :
      (others : List Token) → Agree tokens others token → (part : A) (end : ℕ) → form part others from end
      → Next others end → ⊥

-- a fault says so of the token that it names; want of memory says nothing
pub record IsLacking {A : Type 0} (form : A → Form) (Next : Follow) (tokens : List Token) (from : ℕ) (fault : ParseFault) : Type 0 where
  pub named : (token : ℕ) → fault ≡ faults.SyntaxFault token → Lacks form Next tokens from token
  pub shallow : (token : ℕ) → fault ≡ faults.Deep token → ⊥
