use Rattle.std.proofs.Common.{refl, ◌∙◌}
use Rattle.px_ports.specs.declared.moment.Moment.TheVariants.{FailedToWrite}
use Rattle.px_ports.proofs.Replays.{read_of-kept}
use Rattle.px_ports.proofs.contents.Contents.fail_to_write.Goals as goal

pub invariant_of-self : goal.invariant_of-self
invariant_of-self c =
    c.self.invariant ∙ read_of-kept c.push.result c.self.inside.moments.items c.push.new.self.items (FailedToWrite c.args.at c.args.length) refl c.push.ensures.items
