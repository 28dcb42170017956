-- Numbered expressions and nodes one after another.
use Rattle.std.proofs.Common.{◌≡◌, ℕ, ◌+◌, ◌<◌, List, [], ◌∷◌, ◌++◌, length, get_or, length-append, subst, arith, map, refl, ap, sym}
use Rattle.px_core.specs.Expr as terms
use Rattle.px_core.specs.Expr.{Term}
use Rattle.px_core.specs.Plan.{Site}
use Rattle.px_flat.specs.declared.numbered.NumberedNode.{NumberedNode}
use Rattle.px_flat.specs.Numbered.{MoreNumbered, numbered, each_numbered, numbered_node}
use Rattle.px_flat.specs.NumberedData.{in_turn, node_data}
use Rattle.px_flat.specs.Row.{site_in}
use Rattle.px_flat.proofs.Trees.{each_put}

pub each_in_turn : (plan : List Site) (args : List Term) → each_numbered plan (terms.in_turn args) ≡ in_turn (map (numbered plan) args)
each_in_turn plan [] = refl
each_in_turn plan (term ∷ args) = ap (MoreNumbered (numbered plan term)) (each_in_turn plan args)

-- ---- the nodes

-- the first nodes are numbered
pub record AreNumberedSoFar (plan : List Site) (nodes : List NumberedNode) (i : ℕ) : Type 0 where
  pub long : length nodes ≡ i
  pub each : (node : ℕ) (d : NumberedNode) → node < length nodes
      → node_data (get_or nodes node d) ≡ numbered_node plan (site_in plan node).head

pub numbered_more : (plan : List Site) (nodes : List NumberedNode) (more : NumberedNode) (i : ℕ) → AreNumberedSoFar plan nodes i
    → node_data more ≡ numbered_node plan (site_in plan i).head → AreNumberedSoFar plan (nodes ++ more ∷ []) (i + 1)
numbered_more plan nodes more i so_far is = record {
  long = omega (arith, length-append nodes (more ∷ []), so_far.long);
  each = each_put (λ node made. node_data made ≡ numbered_node plan (site_in plan node).head) nodes more so_far.each
      (subst (λ n. node_data more ≡ numbered_node plan (site_in plan n).head) (sym so_far.long) is);
}
