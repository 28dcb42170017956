use Rattle.std.proofs.Common.{◌≡◌, rules, fold, map, ap, sym, ◌∙◌}
use Rattle.std.specs.List.{flat_map}
use Rattle.px_core.specs.Expr.{term_of}
use Rattle.px_flat.specs.Lookups.{with_name, lookups_in}
use Rattle.px_flat.proofs.LookedUp.{fold_append, each_lookup, all_had}
use Rattle.px_flat.proofs.Terms.{look, binary}
use Rattle.px_flat.proofs.lookups.+add.Goals as goal

pub add-returns-in_ok-add_each-in-Look : goal.add-returns-in_ok-add_each-in-Look
add-returns-in_ok-add_each-in-Look t c =
    let keys = c.args.names.now.keys in
    let w = c.in-Look in
    c.in_ok-add_each-in-Look.ensures
    ∙ (λ i. fold with_name (c.in_ok-add_name-in-Look.ensures i) (flat_map lookups_in (map term_of (c.deref-in-Look.ensures.value i))))
    ∙ ap (fold with_name (with_name keys w.name)) (sym (each_lookup (map term_of w.args.items)))
    ∙ ap (λ term. fold with_name keys (lookups_in term)) (sym (look w.word w.name w.args w.tolerance))
    ∙ ap (λ e. fold with_name keys (lookups_in (term_of e))) (sym w.is)

pub add-returns-in_ok-add-in-Binary-2 : goal.add-returns-in_ok-add-in-Binary-2
add-returns-in_ok-add-in-Binary-2 t c =
    let keys = c.args.names.now.keys in
    let w = c.in-Binary in
    let one : c.add-in-Binary.new.names.keys ≡ fold with_name keys (lookups_in (term_of w.left.value)) = search rules in
    let both : c.add-in-Binary-2.new.names.keys
    ≡ fold with_name c.add-in-Binary.new.names.keys (lookups_in (term_of w.right.value)) = search rules in
    both
    ∙ ap (λ names. fold with_name names (lookups_in (term_of w.right.value))) one
    ∙ sym (fold_append with_name keys (lookups_in (term_of w.left.value)) (lookups_in (term_of w.right.value)))
    ∙ ap (λ term. fold with_name keys (lookups_in term)) (sym (binary w.op w.left w.right))
    ∙ ap (λ e. fold with_name keys (lookups_in (term_of e))) (sym w.is)

pub add_each-returns : goal.add_each-returns
add_each-returns t c = all_had with_name lookups_in c.args.names.now.keys term_of c.args.exprs.now c.loop-expr.expr-index _
    c.loop-expr-test.false c.loop-expr.invariant
