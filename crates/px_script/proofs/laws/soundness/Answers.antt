use Rattle.px_script.proofs.Sounds.{sound_front, sound_follows, sound_next}
use Rattle.px_script.proofs.laws.soundness.Goals as goal

pub returns-clause-front : goal.returns-clause-front
returns-clause-front c = sound_front

pub returns-clause-follows : goal.returns-clause-follows
returns-clause-follows c = sound_follows

pub returns-clause-next : goal.returns-clause-next
returns-clause-next c = sound_next
