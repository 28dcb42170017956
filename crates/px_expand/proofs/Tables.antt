-- What is found in the table of the children of a node, and among the names of its variables.
use Rattle.std.proofs.Common.{◌≡◌, ℕ, suc, Bool, true, false, cond, List, [], ◌∷◌, ◌++◌, map, Some, None, option_map, refl, sym, ap, ◌∙◌, inl, inr}
use Rattle.std.specs.Prelude.{◌||◌}
use Rattle.std.specs.List.{list_any}
use Rattle.std.specs.Map.{lookup}
use Rattle.std.proofs.Math.Bool.{or_assoc, or_comm, or-false}
use Rattle.std.proofs.lemmas.Bool.{cases_Bool}
use Rattle.std.proofs.lemmas.Map.Made.{find_same}
use Rattle.std.proofs.lemmas.Slice.Eq.{bytes_eq-Decides}
use Rattle.indexmap.specs.IndexMap.{insert_all, insert_entry}
use Rattle.indexmap.specs.IndexSet.{insert_all as insert_keys, insert_key}
use Rattle.px_value.specs.Path.{below}
use Rattle.px_value.proofs.General.{list_any-push, lookup-map}
use Rattle.px_syntax.specs.Block.{Actions, NoActions, More}
use Rattle.px_core.specs.Plan.{is_same}
use Rattle.px_expand.specs.Core.{name_of, actions_seen, children_seen}
use Rattle.px_expand.specs.Kinds.{Shape, Rest, OneAction, Children}
use Rattle.px_expand.specs.Children.{seen}
use Rattle.px_scope.specs.Scope.{table, each_once}
use Rattle.px_expand.proofs.Naming.{names_from}

-- ---- children

entry_put : (parent : List ℕ) (known : List (List ℕ)) (name : List ℕ)
    → insert_entry is_same (map (seen parent) known) name (below parent name) ≡ map (seen parent) (insert_key is_same known name)
entry_put parent [] name = refl
entry_put parent (first ∷ known) name =
    of_test (is_same name first) (list_any (is_same name) known) (bytes_eq-Decides name first).0 (entry_put parent known name)
  where
    of_test : (test among : Bool) → (test ≡ true → name ≡ first)
        → insert_entry is_same (map (seen parent) known) name (below parent name) ≡ map (seen parent) (cond among known (known ++ name ∷ []))
        → cond test ((first, below parent name) ∷ map (seen parent) known)
        (seen parent first ∷ insert_entry is_same (map (seen parent) known) name (below parent name))
        ≡ map (seen parent) (cond (test || among) (first ∷ known) (first ∷ (known ++ name ∷ [])))
    of_test true among same more = ap (λ text. (first, below parent text) ∷ map (seen parent) known) (same refl)
    of_test false true same more = ap (λ rest. seen parent first ∷ rest) more
    of_test false false same more = ap (λ rest. seen parent first ∷ rest) more

all_put : (parent : List ℕ) (known names : List (List ℕ))
    → insert_all is_same (map (seen parent) known) (map (seen parent) names) ≡ map (seen parent) (insert_keys is_same known names)
all_put parent known [] = refl
all_put parent known (name ∷ names) =
    ap (λ entries. insert_all is_same entries (map (seen parent) names)) (entry_put parent known name)
    ∙ all_put parent (insert_key is_same known name) names

once_among : (name : List ℕ) (known names : List (List ℕ))
    → list_any (is_same name) (insert_keys is_same known names)
    ≡ (list_any (is_same name) known || list_any (is_same name) names)
once_among name known [] = sym (or-false (list_any (is_same name) known))
once_among name known (first ∷ names) =
    once_among name (insert_key is_same known first) names
    ∙ ap (λ test. test || list_any (is_same name) names)
    (of_test (list_any (is_same first) known) (λ is. already is))
    ∙ or_assoc (list_any (is_same name) known) (is_same name first) (list_any (is_same name) names)
  where
    absorbed : (a b : Bool) → (b ≡ true → a ≡ true) → a ≡ (a || b)
    absorbed true b implied = refl
    absorbed false true implied = implied refl
    absorbed false false implied = refl

    present : (others : List (List ℕ)) → list_any (is_same first) others ≡ true → is_same name first ≡ true
        → list_any (is_same name) others ≡ true
    present others is same = ap (λ text. list_any (is_same text) others) ((bytes_eq-Decides name first).0 same) ∙ is

    already : list_any (is_same first) known ≡ true
        → list_any (is_same name) known ≡ (list_any (is_same name) known || is_same name first)
    already is = absorbed (list_any (is_same name) known) (is_same name first) (present known is)

    of_test : (test : Bool) → (test ≡ true → list_any (is_same name) known ≡ (list_any (is_same name) known || is_same name first))
        → list_any (is_same name) (cond test known (known ++ first ∷ []))
        ≡ (list_any (is_same name) known || is_same name first)
    of_test true same = same refl
    of_test false same =
        list_any-push (is_same name) known first ∙ or_comm (is_same name first) (list_any (is_same name) known)

found_below : (parent name : List ℕ) (known : List (List ℕ))
    → lookup (is_same name) (map (seen parent) known) ≡ cond (list_any (is_same name) known) (Some (below parent name)) None
found_below parent name known =
    lookup-map (is_same name) (λ text. text) (below parent) known
    ∙ ap (option_map (below parent)) (find_same bytes_eq-Decides name known)
    ∙ elim (cases_Bool (list_any (is_same name) known)) [ inl is ↦ rw is refl | inr is ↦ rw is refl ]

-- the child of a name is below its parent, if there is one
pub child_found : (parent name : List ℕ) (names : List (List ℕ))
    → lookup (is_same name) (table (map (seen parent) names))
    ≡ cond (list_any (is_same name) names) (Some (below parent name)) None
child_found parent name names =
    ap (lookup (is_same name)) (all_put parent [] names)
    ∙ found_below parent name (each_once names)
    ∙ ap (λ test. cond test (Some (below parent name)) None) (once_among name [] names)

pub actions_named_so : (path : List ℕ) (place : ℕ) (actions : Actions)
    → actions_seen path place actions ≡ map (seen path) (names_from place actions)
actions_named_so path place NoActions = refl
actions_named_so path place (More first rest) =
    ap (λ others. seen path (name_of place first) ∷ others) (actions_named_so path (suc place) rest)

-- the names of the children that the text has of a block
abbrev pub names_in : Shape → Actions → List (List ℕ)
names_in Children all = names_from 1 all
names_in _ all = []

pub children_named_so : (shape : Shape) (path : List ℕ) (all : Actions)
    → children_seen shape path all ≡ map (seen path) (names_in shape all)
children_named_so Rest path all = refl
children_named_so (OneAction body) path all = refl
children_named_so Children path all = actions_named_so path 1 all

-- ---- variables

pub variable_found : (name : List ℕ) (names : List (List ℕ))
    → list_any (is_same name) (each_once names) ≡ list_any (is_same name) names
variable_found name names = once_among name [] names
