use Rattle.std.proofs.Common.{◌<◌, ◌↔◌, nat_eq, IsTrue, sym, ◌∙◌, subst}
use Rattle.std.proofs.lemmas.Bool.{eqb-true, eq-eqb}
use Rattle.std.proofs.lemmas.List.{get_or_read}
use Rattle.px_tally.specs.Tally.{TallyData, CountsNobody}
use Rattle.px_tally.proofs.Counting.{none-count, count-none}
use Rattle.px_tally.proofs.tally.Tally.is_nobody.Goals as goal

pub returns-clause-members : goal.returns-clause-members
returns-clause-members c =
    subst (λ (now : TallyData). c.args.group < now.groups → IsTrue (nat_eq c.index.result.now 0) ↔ CountsNobody now c.args.group)
    c.self.view_is
    (λ below.
    let t = c.self.inside in
    let total = get_or_read t.totals.items c.args.group c.index.result.now below c.index.ensures 0
    ∙ c.self.invariant.right c.args.group below in (
      λ none. none-count c.args.group t.group_of.items t.counting.items (sym total ∙ eqb-true _ 0 none),
      λ none. eq-eqb _ 0 (total ∙ count-none c.args.group t.group_of.items t.counting.items none),
    )) c.requires
