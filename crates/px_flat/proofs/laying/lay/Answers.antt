use Rattle.std.proofs.Common.{◌≡◌, [], ◌∷◌, sym, subst, arith, true}
use Rattle.std.specs.List.{list_all}
use Rattle.px_core.specs.Fit.{has_short_path}
use Rattle.px_core.specs.Plan.{tree_of, sites_under, below_it}
use Rattle.px_flat.proofs.Trees.{IsRooted, rooted, above_root, next_is_short, all_laid, laid, count_of_one}
use Rattle.px_flat.proofs.laying.lay.Goals as goal

pub lay_below-requires : goal.lay_below-requires
lay_below-requires c =
    let root = c.args.plan.now.root in
    let is : IsRooted c.push.new.self.items root =
    rooted c.in_ok-rows.rows.items c.push.new.self.items root _ c.in_ok-rows.ensures.items c.in_ok-push.ensures.items
    c.in_ok-row_of_root.ensures in
    record {
      number = omega (arith, is.long);
      few = omega (arith, is.long, c.requires.count, count_of_one root);
      short = subst (λ at. list_all has_short_path (sites_under at (below_it root)) ≡ true)
          (sym (above_root c.push.new.self.items root is)) (next_is_short [] (root ∷ []) 0 root (omega arith) c.requires.paths).inner;
      linked = is.linked;
      named = is.named;
    }

pub returns-clause-sites : goal.returns-clause-sites
returns-clause-sites c =
    let root = c.args.plan.now.root in
    all_laid c.push.new.self.items c.lay_below.new.rows.items root
    (rooted c.in_ok-rows.rows.items c.push.new.self.items root _ c.in_ok-rows.ensures.items c.in_ok-push.ensures.items
    c.in_ok-row_of_root.ensures)
    c.in_ok-lay_below.ensures.sites

pub returns-clause-laid : goal.returns-clause-laid
returns-clause-laid c =
    let root = c.args.plan.now.root in
    laid c.lay_below.new.rows.items (tree_of c.args.plan.now) c.in_ok-row_of_root.field-0
    (all_laid c.push.new.self.items c.lay_below.new.rows.items root
    (rooted c.in_ok-rows.rows.items c.push.new.self.items root _ c.in_ok-rows.ensures.items c.in_ok-push.ensures.items
    c.in_ok-row_of_root.ensures)
    c.in_ok-lay_below.ensures.sites)
    c.requires.siblings c.in_ok-lay_below.ensures.linked c.in_ok-lay_below.ensures.named
