use Rattle.std.proofs.Common.{◌∙◌, ap, map, option_map}
use Rattle.px_syntax.specs.Scope.{Head, Node, child_named}
use Rattle.px_check.specs.Nodes.{head_data}
use Rattle.px_check.specs.Scoped.{meaning_of}
use Rattle.px_check.proofs.Naming.{head_meant}
use Rattle.px_check.proofs.nodes.OpenNode.child.Goals as goal

pub returns : goal.returns
returns c =
    let name = c.args.name.now in
    c.get.ensures ∙ ap (meaning_of name) c.self.invariant
    ∙ head_meant name (map head_data c.self.inside.children.items)
    ∙ ap (λ (node : Node). option_map (λ (head : Head). head.is_command) (child_named name node)) c.self.view_is
