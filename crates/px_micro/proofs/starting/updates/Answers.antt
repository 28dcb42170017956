use Rattle.std.proofs.Common.{◌≡◌, map, None, Some, sym, ◌∙◌}
use Rattle.std.proofs.lemmas.Simd.{map-map}
use Rattle.px_core.specs.Plan.{PairData, pair_data}
use Rattle.px_sem.specs.declared.moves.Effect.TheVariants as effects
use Rattle.px_flat.specs.declared.act.Act.TheVariants as acts
use Rattle.px_flat.specs.NumberedData.{expr_data}
use Rattle.px_micro.specs.declared.effects.UnderWay.TheVariants as under_way
use Rattle.px_parts.specs.Parts.{value_in}
use Rattle.px_micro.proofs.starting.updates.Goals as goal

pub returns : goal.returns
returns c =
    let names : c.in_ok-names_of.field-0 ≡ map (λ (pair : PairData). pair.name) (map pair_data c.args.pairs.now) =
    c.in_ok-names_of.ensures ∙ sym (map-map (λ (pair : PairData). pair.name) pair_data c.args.pairs.now) in
    let values : c.in_ok-values_of.field-0 ≡ map (value_in c.args.parts.now) (map expr_data c.args.values.now) =
    c.in_ok-values_of.ensures in
    λ i. record {
      write = None;
      under_way = under_way.Begun acts.Updated;
      told = Some (effects.Updated (names i) (values i));
    }
