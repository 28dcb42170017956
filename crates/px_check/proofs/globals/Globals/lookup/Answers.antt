use Rattle.std.proofs.Common.{◌∙◌, ap, map, option_map, flat_map}
use Rattle.px_syntax.specs.Plan.{declaration_data}
use Rattle.px_syntax.specs.Scope.{declared, lookups_in}
use Rattle.px_check.specs.Globals.{callable_data}
use Rattle.px_check.proofs.Naming.{callable_meant}
use Rattle.px_check.proofs.globals.Globals.lookup.Goals as goal

pub returns : goal.returns
returns c =
    let name = c.args.name.now in
    ap (option_map callable_data) c.get.ensures
    ∙ callable_meant name c.self.inside.lookups (flat_map lookups_in (map declaration_data c.self.inside.declarations.now))
    c.self.invariant.1
    ∙ ap (λ declarations. declared (flat_map lookups_in declarations) name) c.self.view_is
