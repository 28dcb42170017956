use Rattle.std.proofs.Common.{◌≡◌, ◌++◌, ◌∷◌, [], ◌-◌, length, reverse, ap, ◌∙◌, rules}
use Rattle.std.proofs.lemmas.List.{reverse-append}
use Rattle.px_check.specs.Nodes.{named_heads, names_of}
use Rattle.px_check.proofs.Naming.{names_left}
use Rattle.px_check.proofs.nodes.Nodes.leave.Goals as goal

pub invariant_of-self : goal.invariant_of-self
invariant_of-self c =
    let node = c.in-Some.node in
    let items = c.self.inside.open.items in
    let rest = reverse c.pop.new.self.items in
    let popped : items ≡ c.pop.new.self.items ++ node ∷ [] = search rules in
    let turned : reverse items ≡ node ∷ rest = ap reverse popped ∙ reverse-append c.pop.new.self.items (node ∷ []) in
    c.truncate.ensures
    ∙ names_left c.self.inside.names node rest c.names_outside-outer.result (c.self.invariant ∙ ap names_of turned)
    (c.names_outside-outer.ensures ∙ ap (λ all. all - length (named_heads (node.children ++ node.head ∷ []))) c.len.ensures)
