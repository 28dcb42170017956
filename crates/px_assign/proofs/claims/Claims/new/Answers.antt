use Rattle.std.proofs.Common.{◌≡◌, ◌<◌, ℕ, List, [], length, replicate, false, IfSome, All, refl, ap, sym, ◌∙◌, subst, arith}
use Rattle.std.proofs.lemmas.List.{length-replicate}
use Rattle.px_core.specs.Plan.{Site}
use Rattle.px_flat.specs.Flat.{plan_of}
use Rattle.px_flat.specs.Layout.{variable_cells}
use Rattle.px_flat.proofs.Tables.{flat_sound}
use Rattle.px_links.specs.Links.{LinksData}
use Rattle.px_tally.specs.Tally.{TallyData, nobody}
use Rattle.px_assign.specs.Keeping.{IsKept, IsRanked}
use Rattle.px_assign.specs.Ordering.{IsOrdered, variables_of}
use Rattle.px_assign.proofs.Contested.{none_contested}
use Rattle.px_assign.proofs.Places.{none_first}
use Rattle.px_assign.proofs.Variables.{length-variables, ranked, two_tallies, variables_within}
use Rattle.px_assign.proofs.claims.Claims.new.Goals as goal

pub new-requires : goal.new-requires
new-requires c = λ k d inside. omega (arith, (c.in_ok-writers.ensures.whole.each k d inside).within, c.nodes.ensures.count)

pub new-requires-2-clause-groups : goal.new-requires-2-clause-groups
new-requires-2-clause-groups c =
    let flat = c.args.flat.now in
    subst (λ groups. All (λ group. IfSome group (λ group. group < c.variable_cells-cells.result)) groups)
    (sym c.in_ok-variables.ensures)
    (subst (λ cells. All (λ group. IfSome group (λ group. group < cells)) (variables_of (plan_of flat)))
    (sym c.variable_cells-cells.ensures.cells) (variables_within flat))

pub new-requires-2-clause-few : goal.new-requires-2-clause-few
new-requires-2-clause-few c =
    let flat = c.args.flat.now in
    omega (arith, ap length c.in_ok-variables.ensures, length-variables (plan_of flat), (flat_sound flat).few)

pub invariant_of-result : goal.invariant_of-result
invariant_of-result c =
    let flat = c.args.flat.now in
    let plan : List Site = plan_of flat in
    let cells = c.variable_cells-cells.ensures.cells in
    let writers = c.in_ok-writers.field-0.items in
    let firsts = c.in_ok-new.field-0 in
    let wants : c.in_ok-new-2.field-0 ≡ nobody (variable_cells plan) (variables_of plan) =
    c.in_ok-new-2.ensures ∙ (λ i. nobody (cells i) (c.in_ok-variables.ensures i)) in
    let holds : c.in_ok-new-3.field-0 ≡ nobody (variable_cells plan) (variables_of plan) =
    c.in_ok-new-3.ensures ∙ (λ i. nobody (cells i) (c.in_ok-variables-2.ensures i)) in
    let made = c.in_ok-new-4.ensures.made in
    let same : firsts.writers.items ≡ writers = c.in_ok-new.ensures.writers in
    let rank = ranked plan writers firsts.ranks.items c.in_ok-writers.ensures.whole.each
    (c.in_ok-new.ensures.sized ∙ c.nodes.ensures.count) c.in_ok-new.ensures.ranks in
    subst (λ (wanting : TallyData). IsKept (record { firsts = firsts; wanting = wanting; holding = c.in_ok-new-3.field-0; contested = c.in_ok-new-4.field-0 })) (sym wants)
    (record {
      order = subst IsOrdered (sym same) c.in_ok-writers.ensures.order;
      tallies = two_tallies flat (nobody (variable_cells plan) (variables_of plan)) c.in_ok-new-3.field-0 refl holds;
      ranked = subst (λ writers. IsRanked (variables_of plan) writers firsts.ranks.items) (sym same) rank;
      variables = ap length c.in_ok-new.ensures.places
          ∙ length-replicate c.variable_cells-cells.result (length writers)
          ∙ cells;
      firsts = rw (same, c.in_ok-new.ensures.places)
          (none_first (variable_cells plan) (variables_of plan) writers rank.groups c.variable_cells-cells.result);
      cells = ap (λ (links : LinksData). links.cells) made ∙ cells;
      lists = ap (λ (links : LinksData). length links.lists) made ∙ length-replicate {A = List ℕ} 1 [];
      contested = none_contested (variable_cells plan) (variables_of plan) c.in_ok-new-3.field-0 c.in_ok-new-4.field-0
          c.in_ok-new-4.ensures.holders;
    })

pub returns-clause-nobody : goal.returns-clause-nobody
returns-clause-nobody c =
    let plan : List Site = plan_of c.args.flat.now in
    record {
      wanting = ap (λ (tally : TallyData). tally.counting) c.in_ok-new-2.ensures
          ∙ ap (λ groups. replicate (length groups) false) c.in_ok-variables.ensures
          ∙ ap (λ count. replicate count false) (length-variables plan);
      holding = ap (λ (tally : TallyData). tally.counting) c.in_ok-new-3.ensures
          ∙ ap (λ groups. replicate (length groups) false) c.in_ok-variables-2.ensures
          ∙ ap (λ count. replicate count false) (length-variables plan);
    }
