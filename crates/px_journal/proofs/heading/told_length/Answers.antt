use Rattle.std.proofs.Common.{ℕ, List, sym, ◌∙◌, ap, arith}
use Rattle.std.proofs.lemmas.List.{take_rest}
use Rattle.byteorder.specs.Endian.{big_bytes, big_number}
use Rattle.px_journal.proofs.Verdicts.{four_spelled}
use Rattle.px_journal.proofs.heading.told_length.Goals as goal

pub returns-clause-bytes : goal.returns-clause-bytes
returns-clause-bytes c =
    four_spelled c.args.heading.now (λ i. omega (arith, c.type_inv.heading i)) (omega (arith, c.requires))
    ∙ ap (λ (n : ℕ). big_bytes 4 n) (sym (c.read_u32.ensures ∙ ap (λ (l : List ℕ). big_number 4 l) (take_rest c.args.heading.now 9)))
