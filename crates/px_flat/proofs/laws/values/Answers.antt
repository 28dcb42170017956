use Rattle.px_flat.specs.Flat.{plan_of}
use Rattle.px_flat.proofs.NodeTerms.{have_values}
use Rattle.px_flat.proofs.Tables.{flat_sound}
use Rattle.px_flat.proofs.laws.values.Goals as goal

pub returns : goal.returns
returns c = λ cells reports acts parts.
    let flat = c.args._flat.now in have_values (plan_of flat) cells reports acts c.args._node (flat_sound flat) c.requires parts
