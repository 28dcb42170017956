use Rattle.std.proofs.Common.{◌≡◌, ◌++◌, ◌∷◌, [], rules}
use Rattle.px_check.proofs.Scoping.{linked_pop, index_pop, index_has}
use Rattle.px_check.proofs.scoped.Scoped.pop.Goals as goal

pub restore-requires : goal.restore-requires
restore-requires g c =
    let items = c.self.inside.entries.items in
    let popped : items ≡ c.pop.new.self.items ++ c.in-Some.entry ∷ [] = search rules in
    index_has c.self.inside.index c.pop.new.self.items items c.in-Some.entry popped c.self.invariant.1

pub invariant_of-self : goal.invariant_of-self
invariant_of-self g c =
    let items = c.self.inside.entries.items in
    let popped : items ≡ c.pop.new.self.items ++ c.in-Some.entry ∷ [] = search rules in (
      (linked_pop c.pop.new.self.items items c.in-Some.entry popped c.self.invariant.0).1,
      index_pop c.self.inside.index c.restore.new.index c.pop.new.self.items items c.in-Some.entry popped
          c.self.invariant.0 c.self.invariant.1 c.restore.ensures,
    )
