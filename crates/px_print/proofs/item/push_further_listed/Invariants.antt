use Rattle.std.proofs.Common.{◌≡◌, ◌++◌, codes, take, flat_map}
use Rattle.px_print.specs.ExprLayout.{literal_text}
use Rattle.px_print.proofs.item.push_further_listed.Given as goal

abbrev pub invariant-loop-listed : goal.invariant-loop-listed
invariant-loop-listed l =
    l.out.items
    ≡ l.initial.out.items ++ flat_map (λ listed. codes " " ++ literal_text listed.value) (take l.listed-index l.values)
