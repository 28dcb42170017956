-- The bytes are written over as the new moment says.
use Rattle.std.proofs.Common.{◌≡◌, ◌++◌, ◌∷◌, [], ap, sym, ◌∙◌, rules}
use Rattle.px_ports.specs.Moment.{overwritten}
use Rattle.px_ports.specs.declared.moment.Moment.TheVariants.{Wrote}
use Rattle.px_ports.proofs.Replays.{read_of-push}
use Rattle.px_ports.proofs.contents.Contents.write.Goals as goal

pub invariant_of-self-2 : goal.invariant_of-self-2
invariant_of-self-2 c =
    let added : c.push.new.self.items ≡ c.self.inside.moments.items ++ Wrote c.args.at c.args.bytes.now ∷ [] = search rules in
    c.in_ok-overwrite.ensures.ok
    ∙ ap (overwritten c.args.at c.args.bytes.now) c.self.invariant
    ∙ sym (read_of-push c.self.inside.moments.items c.push.new.self.items (Wrote c.args.at c.args.bytes.now) added)
