-- That the layout of a tree is read as that tree again, apart from the numbers of tokens.
use Rattle.std.specs.Prelude.{◌≡◌, List, ℕ}
use Rattle.px_lex.specs.Lexer.{Splits}
use Rattle.px_lex.specs.declared.token.Token.{Token}
use Rattle.px_syntax.specs.declared.fault.ParseFault.{ParseFault}
use Rattle.px_syntax.specs.declared.fault.ParseFault.TheVariants as faults
use Rattle.px_syntax.specs.Plan.{PlanTree}
use Rattle.px_syntax.specs.PlanGrammar.{Spells}
use Rattle.px_plan_parse.specs.Verdict.{IsPlan, IsRefused}
use Rattle.px_print.specs.Unnumbered.{IsSame}

-- some text splits into tokens that spell the tree
pub record IsWritten (tree : PlanTree) : Type 0 where
  pub text : List ℕ
  pub tokens : List Token
  pub splits : Splits text tokens
  pub spelled : Spells tree tokens

-- a text splits into tokens that spell the tree, apart from their numbers
pub record IsReadAs (text : List ℕ) (tree : PlanTree) : Type 0 where
  pub tokens : List Token
  pub splits : Splits text tokens
  pub read : PlanTree
  pub spelled : Spells read tokens
  pub same : IsSame read tree

-- All that may be answered of these tokens is the tree, apart from their numbers, or want of memory.
pub record IsAnswered (tree : PlanTree) (tokens : List Token) : Type 0 where
  pub found : (read : PlanTree) → IsPlan tokens read → IsSame read tree
  pub refused : (fault : ParseFault) → IsRefused tokens fault → fault ≡ faults.NoMemory
