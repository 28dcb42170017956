use Rattle.std.proofs.Common.{ap, sym, ◌∙◌}
use Rattle.std.specs.Map.{lookup}
use Rattle.std.proofs.option.Match.{None-if_not_some}
use Rattle.indexmap.proofs.CallerLemmas.{insert_entry-new}
use Rattle.px_core.specs.Plan.{is_same}
use Rattle.px_script.proofs.TellingKinds.{told_already}
use Rattle.px_script.proofs.kinds.tell.Goals as goal

pub returns-in_ok-insert : goal.returns-in_ok-insert
returns-in_ok-insert c = λ other.
    let entries = c.args.kinds.now.entries in
    let none = None-if_not_some (lookup (is_same c.args.path) entries) (sym c.contains_key.ensures ∙ c.if-not-contains_key.true) in
    ap (lookup (is_same other)) (c.in_ok-insert.ensures.entries ∙ insert_entry-new is_same c.args.kinds.now c.args.path c.args.kind none)

pub returns-else-not-contains_key : goal.returns-else-not-contains_key
returns-else-not-contains_key c =
    told_already c.args.kinds.now.entries c.args.path c.args.kind (sym c.contains_key.ensures ∙ c.if-not-contains_key.false)
