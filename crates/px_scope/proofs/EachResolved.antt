-- Expressions in turn, resolved.
use Rattle.std.proofs.Common.{◌≡◌, List, [], ◌∷◌, map, refl, ap}
use Rattle.px_syntax.specs.declared.expr.SurfaceExpr.{SurfaceExpr}
use Rattle.px_syntax.specs.Expr.{in_turn, term_of}
use Rattle.px_scope.specs.Resolving.{resolved, resolved_each}
use Rattle.px_scope.specs.Scope.{Scope}

pub each_resolved : (scope : Scope) (exprs : List SurfaceExpr)
    → resolved_each scope (in_turn (map term_of exprs)) ≡ map (λ e. resolved scope (term_of e)) exprs
each_resolved scope [] = refl
each_resolved scope (e ∷ exprs) = ap (λ rest. resolved scope (term_of e) ∷ rest) (each_resolved scope exprs)
