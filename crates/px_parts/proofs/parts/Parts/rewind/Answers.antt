use Rattle.std.proofs.Common.{◌≡◌, ap, ◌∙◌, length, replicate}
use Rattle.px_flat.specs.declared.act.Act.TheVariants as acts
use Rattle.px_flat.specs.Parts.{world_of}
use Rattle.px_parts.specs.Parts.{plan_in}
use Rattle.px_parts.proofs.Beginning.{parts_at_rest, world_at_rest}
use Rattle.px_parts.proofs.parts.Parts.rewind.Goals as goal

pub returns-clause-world : goal.returns-clause-world
returns-clause-world c =
    let plan = plan_in c.args.self.now in
    let idle : c.clear-2.new.self.contents.values ≡ replicate (length plan) acts.Idle =
    c.clear-2.ensures.values ∙ ap (λ n. replicate n acts.Idle) c.requires.stand.all_acts in
    (λ i. world_of plan (c.refresh.ensures.values i) ((c.clear.ensures i).reports) (idle i)) ∙ world_at_rest plan

pub returns-clause-stand : goal.returns-clause-stand
returns-clause-stand c =
    let plan = plan_in c.args.self.now in
    let idle : c.clear-2.new.self.contents.values ≡ replicate (length plan) acts.Idle =
    c.clear-2.ensures.values ∙ ap (λ n. replicate n acts.Idle) c.requires.stand.all_acts in
    rw (c.refresh.ensures.values, idle) (parts_at_rest plan)
