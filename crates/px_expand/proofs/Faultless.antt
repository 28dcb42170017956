-- What a tree without faults has none of.
use Rattle.std.proofs.Common.{◌≡◌, ℕ, Bool, true, false, List, [], ◌∷◌, ◌++◌, map, cond, refl}
use Rattle.std.specs.List.{fold, flat_map, list_all}
use Rattle.std.proofs.lemmas.Bool.{and_from}
use Rattle.std.proofs.lemmas.List.Folds.{fold_along}
use Rattle.px_value.proofs.General.{neither}
use Rattle.px_syntax.specs.declared.fault.FaultKind.{FaultKind}
use Rattle.px_syntax.specs.BlockFaults.{block_faults}
use Rattle.px_syntax.specs.Fault.{Fault, fault_at, fault_where, is_before, placed, in_order}
use Rattle.px_syntax.specs.Plan.{PlanTree}
use Rattle.px_syntax.specs.PlanFaults.{faults, global_faults, block_cells, passing_fault, outermost}
use Rattle.px_syntax.specs.Scope.{commands_in, lookups_in}
use Rattle.px_syntax.specs.Tolerances.{block_tolerances, passing_tolerance}

pub where_none : (holds : Bool) (kind : FaultKind) (token : ℕ) → fault_where holds kind token ≡ [] → holds ≡ false
where_none true kind token none = cc
where_none false kind token none = refl

pub fault_some : (kind : FaultKind) (token : ℕ) → fault_at kind token ≡ [] → ⊥
fault_some kind token none = cc

-- what is made of parts passes a test where each part without faults does
pub all_pass : {X Z : Type 0} (faults_of : X → List Fault) (made : X → Z) (test : Z → Bool)
    → ((x : X) → faults_of x ≡ [] → test (made x) ≡ true)
    → (xs : List X) → flat_map faults_of xs ≡ [] → list_all test (map made xs) ≡ true
all_pass faults_of made test each [] none = refl
all_pass faults_of made test each (x ∷ xs) none =
    let parts = neither (faults_of x) (flat_map faults_of xs) none in
    and_from _ _ (each x parts.0) (all_pass faults_of made test each xs parts.1)

-- ---- faults in their order

one_of_three : (first second : Bool) (x y z : Fault) (xs ys zs : List Fault)
    → cond first (x ∷ xs) (cond second (y ∷ ys) (z ∷ zs)) ≡ [] → ⊥
one_of_three true second x y z xs ys zs none = cc
one_of_three false true x y z xs ys zs none = cc
one_of_three false false x y z xs ys zs none = cc

placed_some : (known : List Fault) (fault : Fault) → placed known fault ≡ [] → ⊥
placed_some [] fault none = cc
placed_some (other ∷ others) fault none =
    one_of_three (is_before fault other) (is_before other fault) fault other other (other ∷ others) (placed others fault) others
    none

order_some : (faults known : List Fault) → (known ≡ [] → ⊥) → fold placed known faults ≡ [] → ⊥
order_some faults known some =
    fold_along placed (λ (same : Unit {0}) (fault : Fault). same) (λ (known : List Fault) (same : Unit {0}). known ≡ [] → ⊥)
    (λ known same fault some. placed_some known fault) known tt faults some

pub in_order_none : (faults : List Fault) → in_order faults ≡ [] → faults ≡ []
in_order_none [] none = refl
in_order_none (fault ∷ faults) none = absurd (order_some faults (placed [] fault) (placed_some [] fault) none)

-- ---- the whole

-- what a tree has none of
pub record HasNone (tree : PlanTree) : Type 0 where
  pub blocks : block_faults (outermost tree) tree.label tree.root ≡ []
  pub cells : passing_fault 0 (block_cells tree.root) ≡ []

pub has_none : (tree : PlanTree) → faults tree ≡ [] → HasNone tree
has_none tree none =
    let commands = global_faults (flat_map commands_in tree.declarations) in
    let lookups = global_faults (flat_map lookups_in tree.declarations) in
    let blocks = block_faults (outermost tree) tree.label tree.root in
    let cells = passing_fault 0 (block_cells tree.root) in
    let tolerances = passing_tolerance [] (block_tolerances tree.root) in
    let all = in_order_none (commands ++ lookups ++ blocks ++ cells ++ tolerances) none in
    let before = neither (commands ++ lookups ++ blocks) cells (neither (commands ++ lookups ++ blocks ++ cells) tolerances all).0 in
    record { blocks = (neither (commands ++ lookups) blocks before.0).1; cells = before.1 }
