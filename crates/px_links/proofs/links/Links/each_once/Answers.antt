use Rattle.std.proofs.Common.{subst}
use Rattle.px_links.specs.Links.{IsOnce}
use Rattle.px_links.specs.Keeping.{lists_in}
use Rattle.px_links.proofs.Once.{table-once}
use Rattle.px_links.proofs.links.Links.each_once.Goals as goal

pub returns : goal.returns
returns c =
    let cells = c.self.inside.cells.items in
    let ends = c.self.inside.ends.items in
    subst (λ links. IsOnce links) c.self.view_is (table-once cells ends (lists_in cells ends) c.self.invariant)
