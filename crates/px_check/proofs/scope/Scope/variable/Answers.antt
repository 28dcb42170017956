use Rattle.std.proofs.Common.{◌∙◌, ap, option_map}
use Rattle.px_syntax.specs.Scope.{Scope, variable_named}
use Rattle.px_check.specs.Scope.{type_seen}
use Rattle.px_check.proofs.Naming.{variable_meant}
use Rattle.px_check.proofs.scope.Scope.variable.Goals as goal

pub returns : goal.returns
returns c =
    let name = c.args.name.now in
    c.get.ensures ∙ variable_meant name c.self.inside.variables
    ∙ ap (λ (scope : Scope). option_map type_seen (variable_named scope name)) c.self.view_is
