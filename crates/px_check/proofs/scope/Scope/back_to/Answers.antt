use Rattle.std.proofs.Common.{◌∙◌, ap, List, flat_map}
use Rattle.px_syntax.specs.Scope.{Scope, Visible, Node, commands_in, lookups_in}
use Rattle.px_check.specs.Scope.{visibles, outside}
use Rattle.px_check.proofs.Places.{fewer_visibles}
use Rattle.px_check.proofs.scope.Scope.back_to.Goals as goal

pub returns : goal.returns
returns c =
    let variables = ap visibles c.truncate-2.ensures ∙ fewer_visibles c.self.inside.variables c.args.mark.variables in
    let here : List Visible → List Node → Scope = λ variables nodes.
    record { commands = flat_map commands_in c.self.inside.globals; lookups = flat_map lookups_in c.self.inside.globals; variables = variables; nodes = nodes } in
    (λ i. here (variables i) (c.truncate.ensures i))
    ∙ ap (outside c.args.mark.nodes c.args.mark.variables) c.self.view_is
