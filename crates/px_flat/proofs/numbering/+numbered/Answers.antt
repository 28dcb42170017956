use Rattle.std.proofs.Common.{◌≡◌, ap, sym, ◌∙◌, map, rules}
use Rattle.px_core.specs.Expr.{term_of}
use Rattle.px_flat.specs.Names.{plan_in}
use Rattle.px_flat.specs.Numbered.{Look, numbered}
use Rattle.px_flat.specs.NumberedData.{expr_data, in_turn}
use Rattle.px_flat.proofs.InNumbers.{each_in_turn}
use Rattle.px_flat.proofs.NumberedTerms as made
use Rattle.px_flat.proofs.Terms as terms
use Rattle.px_flat.proofs.numbering.+numbered.Goals as goal

pub numbered-returns-in_ok-each_numbered-in-Look : goal.numbered-returns-in_ok-each_numbered-in-Look
numbered-returns-in_ok-each_numbered-in-Look t c =
    let plan = plan_in c.args.names.now in
    let look = c.in-Look in
    let args : map expr_data c.in_ok-each_numbered-in-Look.field-0.items ≡ map (numbered plan) (map term_of look.args.items) =
    search rules in
    made.look c.lookup.result c.in_ok-each_numbered-in-Look.field-0 look.tolerance
    ∙ (λ i. Look (c.lookup.ensures i) ((ap in_turn args ∙ sym (each_in_turn plan (map term_of look.args.items))) i) look.tolerance)
    ∙ ap (numbered plan) (sym (terms.look look.word look.name look.args look.tolerance))
    ∙ ap (λ e. numbered plan (term_of e)) (sym look.is)
