use Rattle.px_desk.proofs.Lists.{posts_list}
use Rattle.px_desk.proofs.kept.Kept.post.Goals as goal

pub returns-clause-answers : goal.returns-clause-answers
returns-clause-answers g c = rw (← c.self.view_is)
    (posts_list g.S.Stepper g.D.Disk c.self.inside.exec.value c.post-answer.new.self (rw c.deref.ensures at c.keeps.ensures) _ c.post-answer.result
    (rw c.deref_mut.ensures.value at c.post-answer.ensures.answers))
