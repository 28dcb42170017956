use Rattle.std.proofs.Common.{◌∙◌}
use Rattle.px_micro.proofs.Lists.{found_rising}
use Rattle.px_micro.proofs.wanting.is_among.Goals as goal

pub returns : goal.returns
returns c =
    c.is_ok.ensures.value
    ∙ found_rising c.args.nodes.now c.args.node c.binary_search.result c.binary_search.ensures.position c.requires
