use Rattle.std.proofs.Common.{◌-◌, length, map}
use Rattle.px_syntax.specs.Plan.{declaration_data}
use Rattle.px_syntax.specs.PlanGrammar.{declaration}
use Rattle.px_plan_parse.specs.Start.{NoDeclaration}
use Rattle.px_plan_parse.proofs.Parts.{IsFront}
use Rattle.px_plan_parse.proofs.global.declarations.Given as goal

abbrev pub invariant-loop-alloc : goal.invariant-loop-alloc
invariant-loop-alloc l = IsFront declaration NoDeclaration l.tokens 0 (map declaration_data l.declarations.items) l.at

abbrev pub decreases-loop-alloc : goal.decreases-loop-alloc
decreases-loop-alloc l = length l.tokens - l.at
