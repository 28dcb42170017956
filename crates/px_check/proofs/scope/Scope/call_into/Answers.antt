use Rattle.std.proofs.Common.{◌≡◌, false, ap, ◌∙◌}
use Rattle.std.specs.Option.{option_map_or}
use Rattle.px_syntax.specs.BlockFaults.{is_without, target_types}
use Rattle.px_syntax.specs.Block.{target_data}
use Rattle.px_syntax.specs.Fault.{fault_where}
use Rattle.px_syntax.specs.Scope.{declared}
use Rattle.px_syntax.specs.ValueType.{allowed_as}
use Rattle.px_syntax.specs.declared.fault.FaultKind.TheVariants.{TypeDiffers}
use Rattle.px_check.specs.Found.{noted}
use Rattle.px_check.proofs.Noting.{noted_then}
use Rattle.px_check.proofs.scope.Scope.call_into.Goals as goal

pub returns : goal.returns
returns c =
    let scope = c.args.self.now in
    let name = c.args.call.now.name in
    let is_wrong : c.gives_none_of.result
    ≡ option_map_or (is_without (target_types scope (target_data c.args.target.now))) (declared scope.commands name.name) false =
    c.gives_none_of.ensures
    ∙ (λ i. option_map_or (is_without (allowed_as (c.target-of_type.ensures.of_type i))) (c.command-callable.ensures i) false) in
    noted_then _ c.note_where.new.self _ _ _
    (noted_then _ c.target-of_type.new.found _ _ _ c.target-of_type.ensures.found
    (c.note_where.ensures
    ∙ ap (λ wrong. noted c.target-of_type.new.found (fault_where wrong TypeDiffers name.token)) is_wrong))
    c.call.ensures
