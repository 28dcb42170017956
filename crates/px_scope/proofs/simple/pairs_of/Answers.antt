use Rattle.std.proofs.Common.{◌∙◌, map, ap, sym}
use Rattle.std.proofs.lemmas.List.{take_all}
use Rattle.std.proofs.lemmas.Simd.{map-map}
use Rattle.px_syntax.specs.Block.{pair_data as text_pair}
use Rattle.px_scope.specs.Actions.{pair_of}
use Rattle.px_scope.proofs.simple.pairs_of.Goals as goal

pub returns : goal.returns
returns c =
    c.loop-pair.invariant
    ∙ ap (map (λ pair. pair_of c.args.scope.now (text_pair pair)))
    (take_all c.loop-pair.pair-index c.args.pairs.now c.loop-pair-test.false)
    ∙ sym (map-map (pair_of c.args.scope.now) text_pair c.args.pairs.now)
