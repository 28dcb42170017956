use Rattle.std.proofs.Common.{◌≡◌, [], ◌∷◌, true, sym, subst, arith}
use Rattle.std.specs.List.{list_all}
use Rattle.px_core.specs.Plan.{tree_of, sites, below_it}
use Rattle.px_flat.proofs.Trees.{node_head, next_is_short}
use Rattle.px_script.specs.Telling.{TellKinds, all_kinds, kinds_under, has_short}
use Rattle.px_script.proofs.TellingKinds.{short_kinds, root_told}
use Rattle.px_script.proofs.kinds.Kinds.of.Goals as goal

pub tell_below-requires : goal.tell_below-requires
tell_below-requires c =
    let root = c.args.plan.now.root in
    subst (λ path. list_all has_short (kinds_under path (below_it root)) ≡ true) (sym c.in_ok-path.ensures)
    (short_kinds (node_head root).name [] (below_it root) (next_is_short [] (root ∷ []) 0 root (omega arith) c.requires.paths).inner)

pub invariant_of-result : goal.invariant_of-result
invariant_of-result c =
    let now = c.tell_below.new.kinds.entries in
    let told = root_told c.args.plan.now.root c.in_ok-kinds.kinds.entries c.tell.new.kinds.entries now c.in_ok-path.path c.in_ok-copy.field-0
    c.in_ok-kinds.ensures.len c.in_ok-path.ensures c.in_ok-copy.ensures c.in_ok-tell.ensures c.in_ok-tell_below.ensures in
    record { told = subst (λ plan. TellKinds now (all_kinds (sites (tree_of plan)))) (sym c.of.ensures) told }
