use Rattle.std.proofs.Common.{◌≡◌, sym, ap, ◌∙◌, subst, length, take, ◌∷◌, ◌++◌, [], Some, true, rules, arith, ◌+◌, ◌<◌, ◌≤◌}
use Rattle.std.specs.List.{list_all}
use Rattle.std.proofs.lemmas.List.{take_all}
use Rattle.px_core.specs.Plan.{count_of, below_it}
use Rattle.px_core.specs.Plan.{sites_under, trees_of}
use Rattle.px_flat.specs.Rows.{sites_of, above_in}
use Rattle.px_core.specs.Fit.{has_short_path}
use Rattle.px_flat.specs.Laying.{IsRowUnder}
use Rattle.px_flat.specs.Rows.{IsLinked}
use Rattle.px_flat.proofs.Trees.{LaidSoFar, NextIsShort, IsPut, long_enough, next_is_short, next_room, laid_count, count_next}
use Rattle.px_flat.proofs.Trees.{put_next, laid_next, laid_more, laid_none, child_smaller}
use Rattle.px_flat.proofs.laying.+lay_below.Goals as goal

pub row_under-requires-clause-parent : goal.row_under-requires-clause-parent
row_under-requires-clause-parent t c =
    rw c.deref.ensures.value (long_enough c.args.rows.now.items c.loop-child.rows.items c.args.number _
    c.requires.number c.loop-child.invariant)

pub row_under-requires-clause-linked : goal.row_under-requires-clause-linked
row_under-requires-clause-linked t c = subst IsLinked (sym c.deref.ensures.value) c.loop-child.invariant.linked

pub row_under-requires-clause-short : goal.row_under-requires-clause-short
row_under-requires-clause-short t c =
    let above = above_in (sites_of c.args.rows.now.items) (Some c.args.number) in
    let children = c.deref-child-items.result.now in
    rw c.deref.ensures.value (next_room c.args.rows.now.items c.loop-child.rows.items c.args.number _
    c.child-item.result c.requires.number c.loop-child.invariant
    (subst (NextIsShort above) (sym c.child-item.is)
    (next_is_short above children c.loop-child.child-index c.child-item.result c.loop-child-test.true
    (rw c.deref-child-items.ensures.value c.requires.short))))

pub row_under-requires-clause-few : goal.row_under-requires-clause-few
row_under-requires-clause-few t c = omega (arith, c.requires.number, c.requires.few)

pub lay_below-requires : goal.lay_below-requires
lay_below-requires t c =
    let above = above_in (sites_of c.args.rows.now.items) (Some c.args.number) in
    let children = c.deref-child-items.result.now in
    let smaller : count_of (below_it c.child-item.result) < count_of (below_it c.args.node.now) =
    child_smaller c.args.node.now children c.loop-child.child-index c.child-item.result c.deref-child-items.ensures.value c.loop-child-test.true
    c.child-item.is in
    let is_short : NextIsShort above c.child-item.result = subst (NextIsShort above) (sym c.child-item.is)
    (next_is_short above children c.loop-child.child-index c.child-item.result c.loop-child-test.true
    (rw c.deref-child-items.ensures.value c.requires.short)) in
    let put : IsPut c.args.rows.now.items c.loop-child.rows.items c.push.new.self.items c.args.number c.child-item.result =
    subst (λ put. IsPut c.args.rows.now.items c.loop-child.rows.items put c.args.number c.child-item.result)
    (sym c.in_ok-push.ensures.items)
    (put_next c.args.rows.now.items c.loop-child.rows.items c.args.number (take c.loop-child.child-index children)
    c.child-item.result
    c.requires.number c.loop-child.invariant c.in_ok-row.row (subst (λ rows. IsRowUnder rows c.args.number c.child-item.result c.in_ok-row.row) c.deref.ensures.value c.in_ok-row.ensures)) in
    let next : c.len-next.result ≡ length c.loop-child.rows.items =
    omega (arith, c.len-next.ensures, c.loop-child.rows.ok.0) in
    let more : count_of (trees_of (take c.loop-child.child-index children)) + (1 + count_of (below_it c.child-item.result))
    ≤ count_of (trees_of children) =
    subst (λ node. count_of (trees_of (take c.loop-child.child-index children)) + (1 + count_of (below_it node)) ≤ count_of (trees_of children))
    (sym c.child-item.is) (count_next children c.loop-child.child-index c.child-item.result c.loop-child-test.true) in
    let all : count_of (trees_of children) ≡ count_of (below_it c.args.node.now) =
    ap (λ nodes. count_of (trees_of nodes)) c.deref-child-items.ensures.value in
    let few : length c.push.new.self.items + count_of (below_it c.child-item.result) ≤ 4096 =
    omega (
      arith,
      put.long,
      c.requires.few,
      laid_count c.args.rows.now.items c.loop-child.rows.items c.args.number (take c.loop-child.child-index children)
          c.loop-child.invariant,
    ) in (
      search rules,
      (
        omega (arith, put.long),
        (
          few,
          (
            subst (λ n. list_all has_short_path (sites_under (above_in (sites_of c.push.new.self.items) (Some n))
                (below_it c.child-item.result)) ≡ true) (sym next)
                (subst (λ at. list_all has_short_path (sites_under at (below_it c.child-item.result)) ≡ true) (sym put.above)
                is_short.inner),
            (put.linked, put.named),
          ),
        ),
      ),
    )

pub loop-child-init : goal.loop-child-init
loop-child-init t c = laid_none c.args.rows.now.items c.args.number c.requires.linked c.requires.named

pub loop-child-preserved : goal.loop-child-preserved
loop-child-preserved t c =
    let children = c.deref-child-items.result.now in
    let put : IsPut c.args.rows.now.items c.loop-child.rows.items c.push.new.self.items c.args.number c.child-item.result =
    subst (λ put. IsPut c.args.rows.now.items c.loop-child.rows.items put c.args.number c.child-item.result)
    (sym c.in_ok-push.ensures.items)
    (put_next c.args.rows.now.items c.loop-child.rows.items c.args.number (take c.loop-child.child-index children)
    c.child-item.result
    c.requires.number c.loop-child.invariant c.in_ok-row.row (subst (λ rows. IsRowUnder rows c.args.number c.child-item.result c.in_ok-row.row) c.deref.ensures.value c.in_ok-row.ensures)) in
    let next : c.len-next.result ≡ length c.loop-child.rows.items =
    omega (arith, c.len-next.ensures, c.loop-child.rows.ok.0) in
    laid_more c.args.rows.now.items c.lay_below.new.rows.items c.args.number children c.loop-child.child-index
    c.child-item.result c.loop-child-test.true
    (subst (λ node. LaidSoFar c.args.rows.now.items c.lay_below.new.rows.items c.args.number
    (take c.loop-child.child-index children ++ node ∷ [])) c.child-item.is
    (laid_next c.args.rows.now.items c.loop-child.rows.items c.push.new.self.items c.lay_below.new.rows.items
    c.args.number (take c.loop-child.child-index children) c.child-item.result
    c.loop-child.invariant put
    (subst (λ n. sites_of c.lay_below.new.rows.items ≡ sites_of c.push.new.self.items ++ sites_under (above_in (sites_of c.push.new.self.items) (Some n)) (below_it c.child-item.result)) next c.in_ok-lay_below.ensures.sites)
    c.in_ok-lay_below.ensures.linked c.in_ok-lay_below.ensures.named))

pub returns-clause-sites : goal.returns-clause-sites
returns-clause-sites t c =
    c.loop-child.invariant.sites
    ∙ ap (λ nodes. sites_of c.args.rows.now.items ++ sites_under
    (above_in (sites_of c.args.rows.now.items) (Some c.args.number)) (trees_of nodes))
    (take_all c.loop-child.child-index c.deref-child-items.result.now c.loop-child-test.false ∙ c.deref-child-items.ensures.value)

pub returns-clause-linked : goal.returns-clause-linked
returns-clause-linked t c = c.loop-child.invariant.linked

pub returns-clause-named : goal.returns-clause-named
returns-clause-named t c = c.loop-child.invariant.named
