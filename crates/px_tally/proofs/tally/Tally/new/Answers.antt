use Rattle.std.proofs.Common.{◌∙◌}
use Rattle.px_tally.proofs.Counting.{totals-nobody}
use Rattle.px_tally.proofs.tally.Tally.new.Goals as goal

pub invariant_of-result : goal.invariant_of-result
invariant_of-result c =
    rw (
      c.in_ok-vec.ensures.items_if_clones_equal (λ y same. same),
      c.in_ok-vec-2.ensures.items_if_clones_equal (λ y same. same),
      c.len.ensures ∙ c.args.group_of.ok.0,
    )
    (totals-nobody c.args.groups c.args.group_of.items c.requires.few c.requires.groups)
