use Rattle.std.proofs.Common.{◌≡◌, ℕ, List, ◌++◌, ◌∷◌, [], Some, length, cond, reverse, ap, ap₂, sym, ◌∙◌, rules}
use Rattle.std.specs.Str.{bytes_eq}
use Rattle.indexmap.specs.IndexMap.{get}
use Rattle.px_check.specs.Scoped.{nearest_of}
use Rattle.px_check.specs.declared.scoped.Shadowing.{Shadowing}
use Rattle.px_check.proofs.Scoping.{linked_push, index_push, meanings_push}
use Rattle.px_check.proofs.scoped.Scoped.push.Goals as goal

pub invariant_of-self-2 : goal.invariant_of-self-2
invariant_of-self-2 g c =
    let items = c.self.inside.entries.items in
    let old = c.self.inside.index in
    let entry : Shadowing g.row.T.Denot =
    record { name = c.in_ok-own.own; meaning = c.args.meaning; shadowed = c.in_ok-shadowed.shadowed } in
    let pushed : c.push_in_room.new.items.items ≡ items ++ entry ∷ [] = search rules in
    let same : c.in_ok-key.key ≡ c.in_ok-own.own = c.in_ok-key.ensures.copy ∙ sym c.in_ok-own.ensures.copy in
    let place : c.len.result ≡ length items = search rules in
    let shadows : c.in_ok-shadowed.shadowed ≡ nearest_of c.in_ok-own.own (reverse items) =
    c.in_ok-shadowed.ensures.old ∙ c.self.invariant.1 c.in_ok-key.key
    ∙ ap (λ name. nearest_of name (reverse items)) same in
    let updated : (name : List ℕ) → get bytes_eq c.insert.new.self name
    ≡ cond (bytes_eq c.in_ok-own.own name) (Some (length items)) (get bytes_eq old name) = λ name.
    c.in_ok-shadowed.ensures.updates.0 name
    ∙ (λ i. cond (bytes_eq (same i) name) (Some (place i)) (get bytes_eq old name)) in (
      linked_push items c.push_in_room.new.items.items entry pushed shadows c.self.invariant.0,
      index_push old c.insert.new.self items c.push_in_room.new.items.items entry pushed c.self.invariant.1 updated,
    )

pub returns-clause-ok : goal.returns-clause-ok
returns-clause-ok g c =
    let items = c.self.inside.entries.items in
    let entry : Shadowing g.row.T.Denot =
    record { name = c.in_ok-own.own; meaning = c.args.meaning; shadowed = c.in_ok-shadowed.shadowed } in
    let pushed : c.push_in_room.new.items.items ≡ items ++ entry ∷ [] = search rules in
    meanings_push items c.push_in_room.new.items.items entry pushed
    ∙ ap₂ (λ (name : List ℕ) (others : List (List ℕ × g.row.T.Denot)). (name, c.args.meaning) ∷ others) c.in_ok-own.ensures.copy c.self.view_is
