use Rattle.px_compile.proofs.Labels.{labels_named}
use Rattle.px_syntax.specs.Plan.{tree_of_surface}
use Rattle.px_compile.proofs.plan.compile.Goals as goal

pub core_plan-requires : goal.core_plan-requires
core_plan-requires c =
    let spelled = c.in_ok-tree.ensures.spelled in
    record {
      faultless = c.in_ok-tree.ensures.faultless;
      labels =
          labels_named c.args.bytes.now spelled.tokens (tree_of_surface c.in_ok-tree.tree) spelled.split.split
          spelled.spelled.spelled;
    }
