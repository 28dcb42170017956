use Rattle.std.proofs.Common.{◌∙◌, subst}
use Rattle.std.proofs.lemmas.Result.{on_err_weaker}
use Rattle.px_check.specs.Scoped.{IsOver}
use Rattle.px_check.proofs.Naming.{over_more}
use Rattle.px_check.proofs.nodes.OpenNode.push_names.Goals as goal
use Rattle.px_check.proofs.nodes.OpenNode.push_names.Goals.{in-Some+in_ok-push, in_default}

pub returns-clause-err : goal.returns-clause-err
returns-clause-err c =
    let old = c.args.names.now in
    let new = c.append.new.self in
    elim c.match-self.branch [
      | in-Some+in_ok-push w ↦ on_err_weaker c.append.result
          (λ over. over_more _ old new (subst (λ named. IsOver named new) (w.names-is ∙ w.in_ok-push.ensures.ok) over))
          c.append.ensures.err
      | in_default w ↦ on_err_weaker c.append.result (λ over. subst (λ named. IsOver named new) w.names-is over)
          c.append.ensures.err
    ]
