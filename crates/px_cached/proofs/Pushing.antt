-- The readers of one expression more.
use Rattle.std.proofs.Common.{◌≡◌, ℕ, ◌+◌, List, [], ◌∷◌, ◌++◌, map, take, ap, sym, ◌∙◌, append_assoc}
use Rattle.std.proofs.lemmas.List.{append-nil, map-append}
use Rattle.px_core.specs.Plan.{Site}
use Rattle.px_flat.specs.declared.numbered.NumberedExpr.{NumberedExpr}
use Rattle.px_flat.specs.Numbered.{Numbered}
use Rattle.px_flat.specs.NumberedData.{expr_data, in_turn}
use Rattle.px_flat.specs.Sources.{Source, sources_in, sources_in_each}
use Rattle.px_cached.specs.declared.reading.Reader.{Reader}
use Rattle.px_cached.specs.Reading.{reader_of, readers_of}

each_more : (plan : List Site) (exprs : List Numbered) (expr : Numbered)
    → sources_in_each plan (in_turn (exprs ++ expr ∷ [])) ≡ sources_in_each plan (in_turn exprs) ++ sources_in plan expr
each_more plan [] expr = append-nil (sources_in plan expr)
each_more plan (first ∷ rest) expr =
    ap (λ more. sources_in plan first ++ more) (each_more plan rest expr)
    ∙ sym (append_assoc (sources_in plan first) (sources_in_each plan (in_turn rest)) (sources_in plan expr))

-- those of the first so many expressions
abbrev pub readers_up_to : List Site → ℕ → List NumberedExpr → ℕ → List Reader
readers_up_to plan part exprs count = readers_of plan part (sources_in_each plan (in_turn (map expr_data (take count exprs))))

pub one_expr_more : (plan : List Site) (part : ℕ) (before : List Reader) (exprs : List NumberedExpr) (at : ℕ) (expr : NumberedExpr)
    → take (at + 1) exprs ≡ take at exprs ++ expr ∷ []
    → (before ++ readers_up_to plan part exprs at) ++ readers_of plan part (sources_in plan (expr_data expr))
    ≡ before ++ readers_up_to plan part exprs (at + 1)
one_expr_more plan part before exprs at expr taken =
    let so_far : List Source = sources_in_each plan (in_turn (map expr_data (take at exprs))) in
    append_assoc before (readers_up_to plan part exprs at) (readers_of plan part (sources_in plan (expr_data expr)))
    ∙ ap (λ more. before ++ more) (
    sym (map-append (reader_of plan part) so_far (sources_in plan (expr_data expr)))
    ∙ ap (readers_of plan part) (
    sym (each_more plan (map expr_data (take at exprs)) (expr_data expr))
    ∙ ap (λ exprs. sources_in_each plan (in_turn exprs)) (
    sym (map-append expr_data (take at exprs) (expr ∷ [])) ∙ ap (map expr_data) (sym taken)
    )
    )
    )
