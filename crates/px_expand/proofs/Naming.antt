-- Identifiers are no generated names, and nodes side by side in a tree without faults differ in name.
use Rattle.std.proofs.Common.{◌≡◌, ℕ, suc, ◌+◌, ◌<◌, ◌^◌, true, false, not, List, [], ◌∷◌, Option, Some, None, refl, ap, ◌∙◌, arith}
use Rattle.std.specs.Prelude.{decimal}
use Rattle.std.specs.List.{list_any}
use Rattle.std.specs.Option.{option_to_list}
use Rattle.std.proofs.lemmas.Bool.{and_from, and_parts, or_from, not_from_false, not-true, false_from_ne_true, both_ways}
use Rattle.std.proofs.lemmas.Cmp.{nat_list_eq_equiv}
use Rattle.std.proofs.lemmas.Fmt.{decimal_injective}
use Rattle.std.proofs.lemmas.Slice.Eq.{bytes_eq-Decides}
use Rattle.px_value.specs.Name.{is_identifier, generated_name}
use Rattle.px_syntax.specs.declared.expr.Identifier.{Identifier}
use Rattle.px_syntax.specs.Block.{Actions, NoActions, More, Labelled}
use Rattle.px_syntax.specs.BlockFaults.{action_labels}
use Rattle.px_core.specs.Fit.{all_differ}
use Rattle.px_core.specs.Plan.{is_same}
use Rattle.px_expand.specs.Core.{name_of}
use Rattle.px_expand.specs.Names.{named}
use Rattle.px_expand.specs.Labels.{are_identifiers}
use Rattle.px_expand.proofs.Apart.{names}
use Rattle.px_expand.proofs.Sizes.{length_of}

-- ---- identifiers and names that begin with `#`

pub hash_differs : (hash name : List ℕ) → is_identifier hash ≡ false → is_identifier name ≡ true → is_same hash name ≡ false
hash_differs hash name none identifier =
    false_from_ne_true _ (λ same.
    both_ways (is_identifier hash) none (ap is_identifier ((bytes_eq-Decides hash name).0 same) ∙ identifier))

-- a name that is no identifier differs from that of a node with a label, or without one by another name
pub hash_from_named : (hash : List ℕ) (label : Option Identifier) (unlabelled : List ℕ) → is_identifier hash ≡ false
    → are_identifiers (option_to_list label) ≡ true → is_same hash unlabelled ≡ false
    → is_same hash (named label unlabelled) ≡ false
hash_from_named hash None unlabelled none identifiers other = other
hash_from_named hash (Some label) unlabelled none identifiers other =
    hash_differs hash label.name none (and_parts (is_identifier label.name) true identifiers).0

-- ---- actions

abbrev pub names_from : ℕ → Actions → List (List ℕ)
names_from place NoActions = []
names_from place (More first rest) = name_of place first ∷ names_from (suc place) rest

numbers_differ : (place other : ℕ) → place < other → other < 2 ^ 64 → is_same (generated_name place) (generated_name other) ≡ false
numbers_differ place other before small =
    false_from_ne_true _ (λ same.
    absurd (omega (
      arith,
      decimal_injective place other (omega arith) small
          ((bytes_eq-Decides (decimal place) (decimal other)).0 (and_parts true _ same).1),
    )))

-- a generated name is none of those behind it
number_differs : (number place : ℕ) (actions : Actions)
    → number < place → place + length_of actions < 2 ^ 64 → are_identifiers (action_labels actions) ≡ true
    → list_any (is_same (generated_name number)) (names_from place actions) ≡ false
number_differs number place NoActions before small labels = refl
number_differs number place (More (Labelled None body) rest) before small labels =
    or_from _ _ (numbers_differ number place before (omega arith))
    (number_differs number (suc place) rest (omega arith) (omega arith) labels)
number_differs number place (More (Labelled (Some label) body) rest) before small labels =
    let parts = and_parts (is_identifier label.name) (are_identifiers (action_labels rest)) labels in
    or_from _ _ (hash_differs (generated_name number) label.name refl parts.0)
    (number_differs number (suc place) rest (omega arith) (omega arith) parts.1)

-- a label is a name of actions exactly where it is a label of theirs
label_among : (name : List ℕ) (place : ℕ) (actions : Actions) → is_identifier name ≡ true
    → list_any (is_same name) (names_from place actions) ≡ list_any (is_same name) (names (action_labels actions))
label_among name place NoActions identifier = refl
label_among name place (More (Labelled None body) rest) identifier =
    let differs : is_same name (generated_name place) ≡ false =
    nat_list_eq_equiv.symm name (generated_name place) ∙ hash_differs (generated_name place) name refl identifier in
    rw differs (label_among name (suc place) rest identifier)
label_among name place (More (Labelled (Some label) body) rest) identifier =
    rw (label_among name (suc place) rest identifier)

pub actions_differ : (place : ℕ) (actions : Actions)
    → place + length_of actions < 2 ^ 64 → are_identifiers (action_labels actions) ≡ true
    → all_differ (names (action_labels actions)) ≡ true
    → all_differ (names_from place actions) ≡ true
actions_differ place NoActions small labels differ = refl
actions_differ place (More (Labelled None body) rest) small labels differ =
    and_from _ _ (not_from_false _ (number_differs place (suc place) rest (omega arith) (omega arith) labels))
    (actions_differ (suc place) rest (omega arith) labels differ)
actions_differ place (More (Labelled (Some label) body) rest) small labels differ =
    let own = and_parts (is_identifier label.name) (are_identifiers (action_labels rest)) labels in
    let other = and_parts (not (list_any (is_same label.name) (names (action_labels rest))))
    (all_differ (names (action_labels rest))) differ in
    and_from _ _
    (not_from_false _ (label_among label.name (suc place) rest own.0 ∙ not-true _ other.0))
    (actions_differ (suc place) rest (omega arith) own.1 other.1)
