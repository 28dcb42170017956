use Rattle.std.proofs.Common.{◌∙◌, ap, reverse, find, option_map}
use Rattle.px_syntax.specs.Scope.{Head, is_named, searched}
use Rattle.px_check.specs.Scoped.{meaning_of}
use Rattle.px_check.proofs.Naming.{head_meant}
use Rattle.px_check.proofs.nodes.Nodes.named.Goals as goal

pub returns : goal.returns
returns c =
    let name = c.args.name.now in
    c.get.ensures ∙ ap (meaning_of name) c.self.invariant
    ∙ head_meant name (searched (reverse c.self.inside.open.items))
    ∙ ap (λ nodes. option_map (λ (head : Head). head.is_command) (find (is_named name) (searched nodes))) c.self.view_is
