use Rattle.std.proofs.Common.{◌≡◌, List, [], map, flat_map, ap, ◌∙◌}
use Rattle.std.proofs.lemmas.Result.{on_ok_weaker}
use Rattle.px_syntax.specs.BlockFaults.{block_faults}
use Rattle.px_syntax.specs.Plan.{DeclarationData, PlanTree, declaration_data, tree_of_surface}
use Rattle.px_syntax.specs.PlanFaults.{outermost}
use Rattle.px_syntax.specs.Scope.{Scope, commands_in, lookups_in}
use Rattle.px_syntax.specs.declared.plan.Declaration.{Declaration}
use Rattle.px_check.specs.Found.{Sought, noted}
use Rattle.px_check.proofs.whole.note_blocks.Goals as goal

-- what is found where only these declarations are visible, if they are the plan's
found_outermost : (plan : PlanTree) (declarations : List DeclarationData) (scope : Scope) (found new : Sought)
    → scope ≡ record {
      commands = flat_map commands_in declarations;
      lookups = flat_map lookups_in declarations;
      variables = [];
      nodes = [];
    }
    → declarations ≡ plan.declarations
    → new ≡ noted found (block_faults scope plan.label plan.root)
    → new ≡ noted found (block_faults (outermost plan) plan.label plan.root)
found_outermost plan declarations scope found new scope_is declarations_are own =
    own
    ∙ ap (λ (scope : Scope). noted found (block_faults scope plan.label plan.root))
    (scope_is
    ∙ ap (λ (declarations : List DeclarationData). record {
      commands = flat_map commands_in declarations;
      lookups = flat_map lookups_in declarations;
      variables = [];
      nodes = [];
    }) declarations_are)

pub returns : goal.returns
returns c =
    on_ok_weaker c.block-noted.result
    (found_outermost (tree_of_surface c.args.tree.now) _ c.outermost-scope.result c.args.found.now c.block-noted.new.found
    c.outermost-scope.ensures
    (c.in_ok-globals.ensures ∙ ap (λ (declarations : List Declaration). map declaration_data declarations) c.deref.ensures.value))
    c.block-noted.ensures.found
