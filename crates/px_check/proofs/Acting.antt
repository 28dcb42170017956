-- What simple actions are at fault for, noted part by part.
use Rattle.std.proofs.Common.{◌≡◌, Bool, true, [], ◌∷◌, ◌++◌, Option, Some, is_some, option_map, ap, sym, ◌∙◌}
use Rattle.std.specs.Option.{option_map_or}
use Rattle.px_syntax.specs.Expr.{term_of}
use Rattle.px_syntax.specs.ExprFaults.{name_faults, faults_as}
use Rattle.px_syntax.specs.Scope.{Scope}
use Rattle.px_syntax.specs.declared.expr.Identifier.{Identifier}
use Rattle.px_syntax.specs.declared.expr.SurfaceExpr.{SurfaceExpr}
use Rattle.px_syntax.specs.declared.fault.FaultKind.TheVariants.{NotAssignable}
use Rattle.px_syntax.specs.declared.value_type.ValueType.TheVariants.{Integer}
use Rattle.px_check.specs.Found.{Sought, noted}
use Rattle.px_check.proofs.Noting.{noted_then}

-- a target with an index
pub target_noted : (scope : Scope) (name : Identifier) (index : Option SurfaceExpr) (part : SurfaceExpr)
    (has_index : Bool) (found between new : Sought) → has_index ≡ is_some index → index ≡ Some part
    → between ≡ noted found (name_faults NotAssignable scope name has_index)
    → new ≡ noted between (faults_as (Integer ∷ []) scope (term_of part))
    → new ≡ noted found (name_faults NotAssignable scope name (is_some (option_map term_of index))
    ++ option_map_or (faults_as (Integer ∷ []) scope) (option_map term_of index) [])
target_noted scope name index part has_index found between new has_is index_is first second =
    noted_then found between new (name_faults NotAssignable scope name true) (faults_as (Integer ∷ []) scope (term_of part))
    (first ∙ ap (λ has. noted found (name_faults NotAssignable scope name has)) (has_is ∙ ap is_some index_is)) second
    ∙ ap (λ (index : Option SurfaceExpr). noted found (name_faults NotAssignable scope name (is_some (option_map term_of index))
    ++ option_map_or (faults_as (Integer ∷ []) scope) (option_map term_of index) [])) (sym index_is)
