use Rattle.std.proofs.Common.{◌≡◌, ◌+◌, IsNone, length, replicate, set, take, ap, sym, ◌∙◌, subst, arith}
use Rattle.std.proofs.lemmas.List.{get_or-replicate, length-replicate, length-set, take_all}
use Rattle.px_cells.specs.Marked.{Contents}
use Rattle.px_cells.proofs.Writing.{front_more}
use Rattle.px_flat.specs.declared.act.Act.{Act}
use Rattle.px_flat.specs.declared.act.Act.TheVariants as acts
use Rattle.px_command.specs.Actions.{ActionsData}
use Rattle.px_command.proofs.actions.Actions.clear.Goals as goal

pub loop-node-preserved : goal.loop-node-preserved
loop-node-preserved c =
    let old = c.loop-node.self-inside.acts.contents in
    let node = c.loop-node.node in
    let count = length c.args.self.now.contents.values in
    let kept = c.loop-node.invariant in
    let many = ap (λ (m : ActionsData). length m.contents.values) c.self.view_is in
    let wrote : c.overwrite.new.self.contents.values ≡ set old.values node acts.Idle =
    ap (λ (m : Contents Act). m.values) c.overwrite.ensures.contents in
    record {
      long = ap length wrote ∙ length-set old.values node acts.Idle ∙ kept.long;
      idle = ap (take (node + 1)) wrote
          ∙ front_more old.values (replicate count acts.Idle) node acts.Idle acts.Idle (omega (arith, many, kept.long))
          (omega (arith, many, length-replicate count acts.Idle)) kept.idle
          (get_or-replicate count node acts.Idle acts.Idle (omega (arith, many)));
      unmarked = subst IsNone (sym (ap (λ (m : Contents Act). m.marked) c.overwrite.ensures.contents)) kept.unmarked;
      seen = c.overwrite.ensures.news.0 ∙ kept.seen;
      room = omega arith;
    }

pub returns-clause-values : goal.returns-clause-values
returns-clause-values c =
    let count = length c.args.self.now.contents.values in
    let now = c.loop-node.self-inside.acts.contents.values in
    let many = ap (λ (m : ActionsData). length m.contents.values) c.self.view_is in
    sym (take_all c.loop-node.node now (omega (arith, many, c.loop-node.invariant.long))) ∙ c.loop-node.invariant.idle
    ∙ take_all c.loop-node.node (replicate count acts.Idle) (omega (arith, many, length-replicate count acts.Idle))
