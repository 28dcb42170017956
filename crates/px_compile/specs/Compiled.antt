-- WHAT `compile` AND `compile_tree` PROMISE.
use Rattle.std.specs.Prelude.{◌≡◌, ◌≢◌, ℕ, true, false, List, []}
use Rattle.std.specs.Str.{is_utf8, IsValidUpTo}
use Rattle.px_lex.specs.declared.fault.LexFault.TheVariants as lex_faults
use Rattle.px_lex.specs.declared.token.Token.{Token}
use Rattle.px_lex.specs.Lexer.{Splits, FirstFault}
use Rattle.px_syntax.specs.declared.fault.CheckFault.TheVariants as check_faults
use Rattle.px_syntax.specs.declared.fault.ExpandFault.TheVariants as expand_faults
use Rattle.px_syntax.specs.declared.fault.ParseFault.TheVariants as parse_faults
use Rattle.px_syntax.specs.declared.fault.PlanFault.{PlanFault}
use Rattle.px_syntax.specs.declared.fault.PlanFault.TheVariants as answers
use Rattle.px_syntax.specs.Depth.{too_deep}
use Rattle.px_syntax.specs.Plan.{PlanTree}
use Rattle.px_syntax.specs.PlanFaults.{faults}
use Rattle.px_core.specs.Plan.{Tree}
use Rattle.px_plan_parse.specs.Verdict as parsing
use Rattle.px_check.specs.Checked.{IsFirst}
use Rattle.px_expand.specs.Bound.{is_too_large}
use Rattle.px_expand.specs.Core.{core}
use Rattle.px_expand.specs.Verdict as expanding

-- The bytes are UTF-8, and these are their tokens.
pub record IsSplit (bytes : List ℕ) (tokens : List Token) : Type 0 where
  pub text : is_utf8 bytes ≡ true
  pub split : Splits bytes tokens

-- The bytes spell the tree, and no other.
pub record IsSpelled (bytes : List ℕ) (tree : PlanTree) : Type 0 where
  pub tokens : List Token
  pub split : IsSplit bytes tokens
  pub shallow : too_deep tokens ≡ []
  pub spelled : parsing.IsPlan tokens tree

-- The bytes spell a tree without a fault, and this is its core plan, which is not too large.
pub record IsCompiled (bytes : List ℕ) (plan : Tree) : Type 0 where
  pub tree : PlanTree
  pub spelled : IsSpelled bytes tree
  pub faultless : faults tree ≡ []
  pub expanded : plan ≡ core tree
  pub within : is_too_large (core tree) ≡ false

-- Why bytes are no plan that can be run: the first stage that refuses them says so. Want of memory says nothing, and no
-- stage has an answer of its own for it.
abbrev pub IsRefused : List ℕ → PlanFault → Type 0
IsRefused bytes (answers.NotText at) = (is_utf8 bytes ≡ false) × IsValidUpTo bytes at
IsRefused bytes (answers.Lex fault) =
    (fault ≢ lex_faults.NoMemory) × (is_utf8 bytes ≡ true) × FirstFault bytes fault
IsRefused bytes (answers.Parse fault) =
    (tokens : List Token) × (fault ≢ parse_faults.NoMemory) × IsSplit bytes tokens × parsing.IsRefused tokens fault
IsRefused bytes (answers.Check fault) =
    (tree : PlanTree) × (fault ≢ check_faults.NoMemory) × IsSpelled bytes tree × IsFirst (faults tree) fault
IsRefused bytes (answers.Expand fault) =
    (tree : PlanTree) × (fault ≢ expand_faults.NoMemory) × IsSpelled bytes tree × (faults tree ≡ [])
    × expanding.IsRefused tree fault
IsRefused bytes answers.NoMemory = Unit {0}

-- all bytes that spell a tree are refused for this
abbrev pub AllRefused : PlanTree → PlanFault → Type 0
AllRefused tree fault = (bytes : List ℕ) → IsSpelled bytes tree → IsRefused bytes fault
