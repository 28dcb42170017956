-- What the tables of a plan keep.
use Rattle.std.proofs.Common.{◌≡◌, ℕ, ◌<◌, length, get_or}
use Rattle.std.proofs.Math.Logic.{∥∥₁_elim}
use Rattle.std.proofs.Props.{props}
use Rattle.px_flat.specs.declared.flat.Flat.{Flat}
use Rattle.px_flat.specs.declared.numbered.NumberedNode.{NumberedNode}
use Rattle.px_flat.specs.Flat.{plan_of}
use Rattle.px_flat.specs.Numbered.{numbered_node}
use Rattle.px_flat.specs.NumberedData.{node_data}
use Rattle.px_flat.specs.Row.{site_in}
use Rattle.px_flat.proofs.Known.{IsSound, names_sound}
use Rattle.px_flat.proofs.NumberedCodes.{node_set}

pub flat_sound : (flat : Flat) → IsSound (plan_of flat)
flat_sound flat = names_sound flat.names

pub flat_long : (flat : Flat) → length flat.nodes.items ≡ length (plan_of flat)
flat_long flat = ∥∥₁_elim flat.numbered (hlevel props) (λ numbered. numbered.long)

pub flat_node : (flat : Flat) (node : ℕ) (d : NumberedNode) → node < length (plan_of flat)
    → node_data (get_or flat.nodes.items node d) ≡ numbered_node (plan_of flat) (site_in (plan_of flat) node).head
flat_node flat node d within = ∥∥₁_elim flat.numbered (node_set _ _) (λ numbered. numbered.each node d within)
