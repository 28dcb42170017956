-- The node at a path, found by its kind.
use Rattle.std.proofs.Common.{◌≡◌, ◌∙◌, ℕ, List, Option, Some, None, true, ap, sym, inl, inr, refl}
use Rattle.std.specs.Option.{option_map}
use Rattle.std.proofs.lemmas.Bool.{cases_Bool}
use Rattle.px_value.specs.Path.{is_path}
use Rattle.px_core.specs.declared.node.Kind.{Kind}
use Rattle.px_core.specs.Plan.{Site}
use Rattle.px_script.specs.NodeLine.{found_kind, kind_at}

abbrev pub with_path : List ℕ → Kind → List ℕ × Kind
with_path path kind = (path, kind)

pub node_found : (plan : List Site) (text path : List ℕ) (kind : Kind) → path ≡ text → is_path text ≡ true
    → found_kind plan path ≡ Some kind → ◌≡◌ {A = Option (List ℕ × Kind)} (Some (path, kind)) (option_map (with_path text) (kind_at plan text))
node_found plan text path kind same is found =
    let there : found_kind plan text ≡ Some kind = ap (found_kind plan) (sym same) ∙ found in
    rw (is, there, same) refl

pub none_found : (plan : List Site) (text path : List ℕ) → path ≡ text → found_kind plan path ≡ None
    → ◌≡◌ {A = Option (List ℕ × Kind)} None (option_map (with_path text) (kind_at plan text))
none_found plan text path same found =
    let none : found_kind plan text ≡ None = ap (found_kind plan) (sym same) ∙ found in
    elim (cases_Bool (is_path text)) [
      | inl is ↦ rw (is, none) refl
      | inr isnt ↦ rw isnt refl
    ]
