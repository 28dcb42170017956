use Rattle.std.proofs.Common.{ap, sym, ◌∙◌, length, List, subst, arith}
use Rattle.px_value.specs.declared.value.Value.{Value}
use Rattle.px_flat.specs.Flat.{plan_of}
use Rattle.px_flat.specs.Parts.{IsParts, world_of}
use Rattle.px_flat.proofs.Tables.{flat_sound}
use Rattle.px_parts.specs.Fresh.{first_cells}
use Rattle.px_parts.proofs.Beginning.{long_first_cells, parts_at_rest, world_at_rest}
use Rattle.px_parts.proofs.parts.Parts.fresh.Goals as goal

pub new-requires-2 : goal.new-requires-2
new-requires-2 c =
    let plan = plan_of c.in_ok-flat.flat in
    let sound = flat_sound c.in_ok-flat.flat in
    omega (arith, ap length c.in_ok-values.ensures, long_first_cells plan, sound.few, sound.cells)

pub returns-clause-world : goal.returns-clause-world
returns-clause-world c =
    let plan = plan_of c.in_ok-flat.flat in
    (λ i. world_of plan ((ap (λ contents. contents.values) c.in_ok-new-2.ensures.contents ∙ c.in_ok-values.ensures) i)
    (c.new-3.ensures i).reports ((c.in_ok-new.ensures.contents i).values))
    ∙ world_at_rest plan

pub returns-clause-stand : goal.returns-clause-stand
returns-clause-stand c =
    let plan = plan_of c.in_ok-flat.flat in
    subst (λ (cells : List Value). IsParts plan cells c.in_ok-new.field-0.contents.values)
    (sym (ap (λ contents. contents.values) c.in_ok-new-2.ensures.contents ∙ c.in_ok-values.ensures))
    (subst (IsParts plan (first_cells plan)) (sym (ap (λ contents. contents.values) c.in_ok-new.ensures.contents))
    (parts_at_rest plan))
