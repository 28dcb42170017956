-- Coming back from inside a place.
use Rattle.std.proofs.Common.{◌≡◌, ℕ, ◌-◌, List, length, drop, sym, ap, ◌∙◌}
use Rattle.std.proofs.lemmas.List.{drop-map, length-map}
use Rattle.px_syntax.specs.Scope.{Visible}
use Rattle.px_check.specs.Scope.{visibles}
use Rattle.px_check.specs.declared.scope.VariableType.{VariableType}

pub fewer_visibles : (named : List (List ℕ × VariableType)) (n : ℕ)
    → visibles (drop (length named - n) named) ≡ drop (length (visibles named) - n) (visibles named)
fewer_visibles named n =
    let visible : (List ℕ × VariableType) → Visible = λ one.
    record { name = one.0; of_type = one.1.of_type; is_array = one.1.is_array } in
    sym (drop-map visible (length named - n) named)
    ∙ ap (λ count. drop (count - n) (visibles named)) (sym (length-map named visible))
