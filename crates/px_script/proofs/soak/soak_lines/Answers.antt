use Rattle.std.proofs.Common.{ap, ◌∙◌, [], ◌∷◌, ◌++◌}
use Rattle.px_script.proofs.Soaks.{lines_more}
use Rattle.px_script.proofs.soak.soak_lines.Goals as goal

pub loop-before-preserved : goal.loop-before-preserved
loop-before-preserved c =
    c.in_ok-push.ensures.items ∙ ap (λ line. c.loop-before.lines.items ++ line ∷ []) c.in_ok-line.ensures
    ∙ lines_more c.args.seed c.loop-before.before c.loop-before.lines.items c.loop-before.invariant
