use Rattle.std.proofs.Common.{◌≡◌, [], rules, fold, map, ap, sym, ◌∙◌}
use Rattle.std.specs.List.{cons_option, flat_map}
use Rattle.px_core.specs.Expr.{in_turn, term_of}
use Rattle.px_sem.specs.Tolerances.{tolerances_in, tolerances_in_each, with_tolerance}
use Rattle.px_flat.proofs.LookedUp.{fold_append, each_tolerance, own_then, all_had}
use Rattle.px_flat.proofs.Terms.{look, binary}
use Rattle.px_flat.proofs.tolerances.+add.Goals as goal

pub add-returns-in_ok-add_each-in-Look : goal.add-returns-in_ok-add_each-in-Look
add-returns-in_ok-add_each-in-Look t c =
    let known = c.args.tolerances.now.items in
    let w = c.in-Look in
    c.in_ok-add_each-in-Look.ensures
    ∙ (λ i. fold with_tolerance (c.in_ok-add_own-in-Look.ensures i) (flat_map tolerances_in (map term_of (c.deref-in-Look.ensures.value i))))
    ∙ ap (fold with_tolerance (fold with_tolerance known (cons_option w.tolerance []))) (sym (each_tolerance (map term_of w.args.items)))
    ∙ own_then known w.tolerance (tolerances_in_each (in_turn (map term_of w.args.items)))
    ∙ ap (λ term. fold with_tolerance known (tolerances_in term)) (sym (look w.word w.name w.args w.tolerance))
    ∙ ap (λ e. fold with_tolerance known (tolerances_in (term_of e))) (sym w.is)

pub add-returns-in_ok-add-in-Binary-2 : goal.add-returns-in_ok-add-in-Binary-2
add-returns-in_ok-add-in-Binary-2 t c =
    let known = c.args.tolerances.now.items in
    let w = c.in-Binary in
    let one : c.add-in-Binary.new.tolerances.items ≡ fold with_tolerance known (tolerances_in (term_of w.left.value)) = search rules in
    let both : c.add-in-Binary-2.new.tolerances.items
    ≡ fold with_tolerance c.add-in-Binary.new.tolerances.items (tolerances_in (term_of w.right.value)) = search rules in
    both
    ∙ ap (λ tolerances. fold with_tolerance tolerances (tolerances_in (term_of w.right.value))) one
    ∙ sym (fold_append with_tolerance known (tolerances_in (term_of w.left.value)) (tolerances_in (term_of w.right.value)))
    ∙ ap (λ term. fold with_tolerance known (tolerances_in term)) (sym (binary w.op w.left w.right))
    ∙ ap (λ e. fold with_tolerance known (tolerances_in (term_of e))) (sym w.is)

pub add_each-returns : goal.add_each-returns
add_each-returns t c = all_had with_tolerance tolerances_in c.args.tolerances.now.items term_of c.args.exprs.now c.loop-expr.expr-index _
    c.loop-expr-test.false c.loop-expr.invariant
