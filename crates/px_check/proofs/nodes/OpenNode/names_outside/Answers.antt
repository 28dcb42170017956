use Rattle.std.proofs.Common.{◌-◌, ◌++◌, ◌∷◌, [], Some, length, map, ap, ◌∙◌}
use Rattle.px_syntax.specs.Scope.{Node}
use Rattle.px_check.specs.Nodes.{head_data, named_heads}
use Rattle.px_check.proofs.Naming.{without_own, without_none}
use Rattle.px_check.proofs.nodes.OpenNode.names_outside.Goals as goal

pub returns-in-Some : goal.returns-in-Some
returns-in-Some c =
    let node = c.self.inside in
    let rest = c.saturating_sub-rest.ensures ∙ ap (λ n. c.args.all - n) c.len.ensures in
    c.saturating_sub.ensures
    ∙ without_own (map head_data node.children.items) (head_data node.head) node.names (Some c.in-Some.field-0) c.args.all
    c.saturating_sub-rest.result c.in-Some.is c.self.invariant rest
    ∙ ap (λ (node : Node). c.args.all - length (named_heads (node.children ++ node.head ∷ []))) c.self.view_is

pub returns-in-None : goal.returns-in-None
returns-in-None c =
    let node = c.self.inside in
    let rest = c.saturating_sub-rest.ensures ∙ ap (λ n. c.args.all - n) c.len.ensures in
    without_none (map head_data node.children.items) (head_data node.head) node.names c.args.all
    c.saturating_sub-rest.result c.in-None.is c.self.invariant rest
    ∙ ap (λ (node : Node). c.args.all - length (named_heads (node.children ++ node.head ∷ []))) c.self.view_is
