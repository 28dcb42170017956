use Rattle.std.proofs.Common.{◌≡◌, None, List, subst, sym}
use Rattle.px_event.specs.Names.{name_of}
use Rattle.px_event.specs.declared.names.ThreadName.{ThreadName}
use Rattle.px_event.proofs.Naming.{are_names-push}
use Rattle.px_event.proofs.names.Names.add.Goals as goal

pub invariant_of-self-2 : goal.invariant_of-self-2
invariant_of-self-2 c =
    let none = subst (λ (rows : List ThreadName). name_of c.args.thread rows ≡ None) (sym c.self.view_is) c.requires.unnamed in
    rw c.in_ok-push.ensures.items
    (are_names-push c.self.inside.list.items (record { thread = c.args.thread; name = c.args.name }) c.self.invariant none
    c.requires.identifier)
