use Rattle.std.proofs.Common.{◌≡◌, length}
use Rattle.px_lex.specs.Gap.{after_close}
use Rattle.px_lex.proofs.gap.after_close.Given as goal

abbrev pub invariant-loop-text : goal.invariant-loop-text
invariant-loop-text l = after_close l.text ≡ after_close l.initial.text

abbrev pub decreases-loop-text : goal.decreases-loop-text
decreases-loop-text l = length l.text
