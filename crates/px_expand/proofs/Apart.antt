-- Identifiers of which none is declared twice differ in name.
use Rattle.std.proofs.Common.{◌≡◌, ℕ, true, false, not, List, [], ◌∷◌, map, refl, sym, ap, ◌∙◌}
use Rattle.std.specs.List.{list_any}
use Rattle.std.specs.Str.{bytes_eq}
use Rattle.std.proofs.lemmas.Bool.{and_from, or_from, or_left, or_right, not_from_false, false_from_ne_true, both_ways}
use Rattle.std.proofs.lemmas.Slice.Eq.{bytes_eq-Decides}
use Rattle.px_value.proofs.General.{neither}
use Rattle.px_syntax.specs.declared.expr.Identifier.{Identifier}
use Rattle.px_syntax.specs.declared.fault.FaultKind.TheVariants.{Redeclared}
use Rattle.px_syntax.specs.BlockFaults.{repeated, redeclared, spots}
use Rattle.px_syntax.specs.Fault.{fault_where}
use Rattle.px_core.specs.Fit.{all_differ}
use Rattle.px_core.specs.Plan.{is_same}
use Rattle.px_core.proofs.Paths.{same-self}
use Rattle.px_expand.proofs.Faultless.{where_none}

abbrev pub names : List Identifier → List (List ℕ)
names = map (λ identifier. identifier.name)

-- names differ from each other, and from those before them
record IsApart (before : List (List ℕ)) (identifiers : List Identifier) : Type 0 where
  pub differ : all_differ (names identifiers) ≡ true
  pub other : (name : List ℕ) → list_any (is_same name) before ≡ true → list_any (is_same name) (names identifiers) ≡ false

apart : (before : List (List ℕ)) (identifiers : List Identifier)
    → repeated bytes_eq Redeclared before (spots identifiers) ≡ []
    → IsApart before identifiers
apart before [] none = record { differ = refl; other = λ name is. refl }
apart before (first ∷ rest) none =
    let parts = neither (fault_where (list_any (bytes_eq first.name) before) Redeclared first.token) _ none in
    let new = where_none (list_any (bytes_eq first.name) before) Redeclared first.token parts.0 in
    let behind = apart (first.name ∷ before) rest parts.1 in
    record {
      differ =
          and_from (not (list_any (is_same first.name) (names rest))) (all_differ (names rest))
          (not_from_false _ (behind.other first.name (or_left _ _ (same-self first.name)))) behind.differ;
      other =
          λ name is.
          or_from (is_same name first.name) (list_any (is_same name) (names rest))
          (false_from_ne_true _ (λ same.
          both_ways (list_any (is_same first.name) before) new
          (ap (λ text. list_any (is_same text) before) (sym ((bytes_eq-Decides name first.name).0 same)) ∙ is)))
          (behind.other name (or_right (is_same name first.name) _ is));
    }

pub all_apart : (identifiers : List Identifier) → redeclared identifiers ≡ [] → all_differ (names identifiers) ≡ true
all_apart identifiers none = (apart [] identifiers none).differ
