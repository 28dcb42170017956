use Rattle.std.proofs.Common.{nat_lt, ap, sym, ◌∙◌}
use Rattle.std.proofs.lemmas.List.{length-map}
use Rattle.px_syntax.specs.Block.{pair_data}
use Rattle.px_syntax.specs.Fault.{fault_where}
use Rattle.px_syntax.specs.declared.fault.FaultKind.TheVariants.{TooLarge}
use Rattle.px_check.specs.Found.{noted}
use Rattle.px_check.proofs.Noting.{noted_then}
use Rattle.px_check.proofs.scope.Scope.update.Goals as goal

pub returns : goal.returns
returns c =
    noted_then _ c.note_where.new.self _ _ _
    (c.note_where.ensures
    ∙ ap (λ count. noted c.args.found.now (fault_where (nat_lt 8 count) TooLarge c.args.token))
    (sym (length-map c.args.pairs.now pair_data)))
    c.pairs.ensures
