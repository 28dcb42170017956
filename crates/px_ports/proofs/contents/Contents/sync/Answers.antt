use Rattle.std.proofs.Common.{refl, ◌∙◌}
use Rattle.px_ports.specs.declared.moment.Moment.TheVariants.{Synced}
use Rattle.px_ports.proofs.Replays.{read_of-kept}
use Rattle.px_ports.proofs.contents.Contents.sync.Goals as goal

pub invariant_of-self-2 : goal.invariant_of-self-2
invariant_of-self-2 c =
    c.self.invariant ∙ read_of-kept c.push.result c.self.inside.moments.items c.push.new.self.items (Synced) refl c.push.ensures.items
