-- Names that stand twice, noted one after another.
use Rattle.std.proofs.Common.{◌≡◌, ℕ, ◌+◌, ◌<◌, Bool, List, ◌∷◌, map, drop, length, get_or}
use Rattle.std.proofs.Common.{bytes_eq, sym, ap, ◌∙◌}
use Rattle.std.specs.Borrow.{Bor}
use Rattle.std.specs.List.{list_any}
use Rattle.px_value.proofs.General.{cut_at}
use Rattle.px_syntax.specs.BlockFaults.{repeated, spots}
use Rattle.px_syntax.specs.Fault.{fault_where}
use Rattle.px_syntax.specs.declared.expr.Identifier.{Identifier}
use Rattle.px_syntax.specs.declared.fault.FaultKind.TheVariants.{Redeclared}
use Rattle.px_check.specs.Found.{Sought, noted}
use Rattle.px_check.proofs.Noting.{noted_append}

-- one identifier more
pub name_walked : (identifiers : List (Bor Identifier)) (place : ℕ) (identifier : Bor Identifier)
    (before more : List (List ℕ × Unit {0})) (is_again : Bool) (found new : Sought)
    → place < length identifiers → identifier ≡ get_or identifiers place identifier
    → is_again ≡ list_any (bytes_eq identifier.now.name) (map (λ one. one.0) before)
    → new ≡ noted found (fault_where is_again Redeclared identifier.now.token)
    → more ≡ (identifier.now.name, tt) ∷ before
    → noted new (repeated bytes_eq Redeclared (map (λ one. one.0) more)
    (spots (map (λ one. one.now) (drop (place + 1) identifiers))))
    ≡ noted found (repeated bytes_eq Redeclared (map (λ one. one.0) before)
    (spots (map (λ one. one.now) (drop place identifiers))))
name_walked identifiers place identifier before more is_again found new within is again own more_is =
    let rest = spots (map (λ (one : Bor Identifier). one.now) (drop (place + 1) identifiers)) in
    let name = identifier.now.name in
    let first = fault_where (list_any (bytes_eq name) (map (λ (one : List ℕ × Unit {0}). one.0) before)) Redeclared
    identifier.now.token in
    let later = repeated bytes_eq Redeclared (name ∷ map (λ (one : List ℕ × Unit {0}). one.0) before) rest in
    (λ i. noted ((own ∙ ap (λ again. noted found (fault_where again Redeclared identifier.now.token)) again) i)
    (repeated bytes_eq Redeclared (map (λ (one : List ℕ × Unit {0}). one.0) (more_is i)) rest))
    ∙ sym (noted_append found first later)
    ∙ ap (λ (left : List (Bor Identifier)). noted found (repeated bytes_eq Redeclared
    (map (λ (one : List ℕ × Unit {0}). one.0) before) (spots (map (λ (one : Bor Identifier). one.now) left))))
    (sym (cut_at identifiers place identifier within is))
