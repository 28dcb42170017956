-- The reason that is told of a plan that is refused.
use Rattle.std.specs.Prelude.{ℕ, List, ◌++◌, codes, decimal}
use Rattle.px_lex.specs.declared.fault.LexFault.{LexFault}
use Rattle.px_lex.specs.declared.fault.LexFault.TheVariants as lexing
use Rattle.px_syntax.specs.declared.fault.CheckFault.{CheckFault}
use Rattle.px_syntax.specs.declared.fault.CheckFault.TheVariants as checking
use Rattle.px_syntax.specs.declared.fault.ExpandFault.{ExpandFault}
use Rattle.px_syntax.specs.declared.fault.ExpandFault.TheVariants as expanding
use Rattle.px_syntax.specs.declared.fault.ParseFault.{ParseFault}
use Rattle.px_syntax.specs.declared.fault.ParseFault.TheVariants as parsing
use Rattle.px_syntax.specs.declared.fault.PlanFault.{PlanFault}
use Rattle.px_syntax.specs.declared.fault.PlanFault.TheVariants as plans

-- words with a number behind them
abbrev pub numbered : List ℕ → ℕ → List ℕ
numbered words number = words ++ decimal number

-- want of memory is an answer of its own, and no reason of a refusal
abbrev pub no_reason : List ℕ
no_reason = codes "out of memory"

abbrev pub lex_reason : LexFault → List ℕ
lex_reason (lexing.Bad at) = numbered (codes "byte ") at
lex_reason (lexing.Real at) = numbered (codes "real number at byte ") at
lex_reason (lexing.TooLong at) = numbered (codes "too long at byte ") at
lex_reason lexing.NoMemory = no_reason

abbrev pub parse_reason : ParseFault → List ℕ
parse_reason (parsing.Deep token) = numbered (codes "deep at token ") token
parse_reason (parsing.SyntaxFault token) = numbered (codes "syntax at token ") token
parse_reason parsing.NoMemory = no_reason

abbrev pub check_reason : CheckFault → List ℕ
check_reason (checking.Fault kind token) = numbered (codes "check ") kind ++ numbered (codes " at token ") token
check_reason checking.NoMemory = no_reason

abbrev pub expand_reason : ExpandFault → List ℕ
expand_reason (expanding.TooMany nodes) = numbered (codes "too many nodes ") nodes
expand_reason expanding.NoMemory = no_reason

-- THE TABLE OF REASONS
abbrev pub plan_reason : PlanFault → List ℕ
plan_reason (plans.NotText at) = numbered (codes "not text at byte ") at
plan_reason (plans.Lex fault) = lex_reason fault
plan_reason (plans.Parse fault) = parse_reason fault
plan_reason (plans.Check fault) = check_reason fault
plan_reason (plans.Expand fault) = expand_reason fault
plan_reason plans.NoMemory = no_reason
