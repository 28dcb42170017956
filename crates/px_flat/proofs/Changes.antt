-- A change of one node's cells or of what it has under way is a change of its record alone.
use Rattle.std.proofs.Common.{◌≡◌, ◌≢◌, ℕ, zero, suc, ◌+◌, ◌<◌, List, [], ◌∷◌, length, map, sum, take, drop, refl, ap, sym, ◌∙◌, arith, if◌then◌else◌}
use Rattle.std.proofs.lemmas.List.{drop-drop}
use Rattle.std.proofs.lemmas.List.Sums.{sum_by-cons}
use Rattle.px_value.specs.declared.value.Value.{Value}
use Rattle.px_core.specs.Fit.{cells_of, AreDistinct}
use Rattle.px_core.specs.Plan.{Site, VariableData, is_same}
use Rattle.px_core.proofs.Paths.{same-self, same-other, distinct_behind, head_apart, head_differs}
use Rattle.px_sem.specs.Events.{with_entry, with_record}
use Rattle.px_sem.specs.World.{World, NodeRecord, LookState, Report}
use Rattle.px_flat.specs.declared.act.Act.{Act}
use Rattle.px_flat.specs.Numbered.{held}
use Rattle.px_flat.specs.Parts.{values_in, record_in, entries, world_of}
use Rattle.px_flat.specs.Row.{site_in}
use Rattle.px_flat.proofs.Sources.{same_cells}

-- ---- the records of all nodes but one stay

-- none of these nodes is at the path
untouched : (plan : List Site) (f g : ℕ → NodeRecord) (first : ℕ) (path : List ℕ) (r : NodeRecord)
    → ((k : ℕ) → k < length plan → (site_in plan k).path ≢ path)
    → ((k : ℕ) → k < length plan → g (first + k) ≡ f (first + k))
    → entries g first plan ≡ with_entry path r (entries f first plan)
untouched [] f g first path r others same = refl
untouched (site ∷ plan) f g first path r others same =
    let here : first + 0 ≡ first = omega arith in
    let head : g first ≡ f first = ap g (sym here) ∙ same 0 (omega arith) ∙ ap f here in
    let next : (k : ℕ) → k < length plan → g (first + 1 + k) ≡ f (first + 1 + k) = λ k within.
    let there : first + 1 + k ≡ first + suc k = omega arith in
    ap g there ∙ same (suc k) (omega arith) ∙ ap f (sym there) in
    ap (λ r. (site.path, r) ∷ entries g (first + 1) plan) head
    ∙ ap (λ b. (site.path, if b then r else f first) ∷ entries g (first + 1) plan) (sym (same-other site.path path (others 0 (omega arith))))
    ∙ ap (λ rest. (site.path, if is_same site.path path then r else f first) ∷ rest)
    (untouched plan f g (first + 1) path r (λ k within. others (suc k) (omega arith)) next)

one_changed : (plan : List Site) (f g : ℕ → NodeRecord) (first node : ℕ) → AreDistinct plan → node < length plan
    → ((k : ℕ) → k < length plan → k ≢ node → g (first + k) ≡ f (first + k))
    → entries g first plan ≡ with_entry (site_in plan node).path (g (first + node)) (entries f first plan)
one_changed [] f g first node distinct within same = absurd (omega arith)
one_changed (site ∷ plan) f g first zero distinct within same =
    let here : first + 0 ≡ first = omega arith in
    ap (λ r. (site.path, r) ∷ entries g (first + 1) plan) (ap g (sym here))
    ∙ ap (λ b. (site.path, if b then g (first + 0) else f first) ∷ entries g (first + 1) plan) (sym (same-self site.path))
    ∙ ap (λ rest. (site.path, if is_same site.path site.path then g (first + 0) else f first) ∷ rest)
    (untouched plan f g (first + 1) site.path (g (first + 0))
    (λ k within is. head_apart site plan k distinct within (sym is))
    (λ k within.
    let there : first + 1 + k ≡ first + suc k = omega arith in
    ap g there ∙ same (suc k) (omega arith) (λ is. absurd (omega arith)) ∙ ap f (sym there)))
one_changed (site ∷ plan) f g first (suc node) distinct within same =
    let own : List ℕ = (site_in plan node).path in
    let inside : node < length plan = omega arith in
    let here : first + 0 ≡ first = omega arith in
    let head : g first ≡ f first = ap g (sym here) ∙ same 0 (omega arith) (λ is. absurd (omega arith)) ∙ ap f here in
    let there : first + 1 + node ≡ first + suc node = omega arith in
    let r : NodeRecord = g (first + suc node) in
    ap (λ r. (site.path, r) ∷ entries g (first + 1) plan) head
    ∙ ap (λ b. (site.path, if b then r else f first) ∷ entries g (first + 1) plan) (sym (head_differs site plan node distinct inside))
    ∙ ap (λ rest. (site.path, if is_same site.path own then r else f first) ∷ rest)
    (one_changed plan f g (first + 1) node (distinct_behind site plan distinct) inside (λ k within apart.
    let at : first + 1 + k ≡ first + suc k = omega arith in
    ap g at ∙ same (suc k) (omega arith) (λ is. apart (omega arith)) ∙ ap f (sym at))
    ∙ ap (λ n. with_entry own (g n) (entries f (first + 1) plan)) there)

-- Where cells and acts change, and the records of all other nodes stay, the world changes by the record of one node.
pub world_of-changed : (plan : List Site) (cells new_cells : List Value) (reports : List (LookState × Report))
    (acts new_acts : List Act) (node : ℕ) → AreDistinct plan → node < length plan
    → ((other : ℕ) → other < length plan → other ≢ node
    → record_in plan new_cells new_acts other ≡ record_in plan cells acts other)
    → world_of plan new_cells reports new_acts
    ≡ with_record (world_of plan cells reports acts) (site_in plan node).path (record_in plan new_cells new_acts node)
world_of-changed plan cells new_cells reports acts new_acts node distinct within same =
    let from : (k : ℕ) → 0 + k ≡ k = λ k. omega arith in
    ap (λ nodes. let made : World = record { nodes = nodes; reports = reports } in made)
    (one_changed plan (record_in plan cells acts) (record_in plan new_cells new_acts) 0 node distinct within
    (λ k inside apart. ap (record_in plan new_cells new_acts) (from k) ∙ same k inside apart
    ∙ ap (record_in plan cells acts) (sym (from k)))
    ∙ ap (λ n. with_entry (site_in plan node).path (record_in plan new_cells new_acts n) (entries (record_in plan cells acts) 0 plan)) (from node))

-- ---- the values of variables

-- where the cells of variables are the same, their values are
pub values_in-same : (variables : List VariableData) (first : ℕ) (a b : List Value) → length a ≡ length b
    → ((i : ℕ) → i < sum (map cells_of variables) → held a (first + i) ≡ held b (first + i))
    → values_in variables (drop first a) ≡ values_in variables (drop first b)
values_in-same [] first a b long same = refl
values_in-same (variable ∷ variables) first a b long same =
    let n : ℕ = cells_of variable in
    let total : sum (map cells_of (variable ∷ variables)) ≡ n + sum (map cells_of variables) =
    sum_by-cons (λ n. n) n (map cells_of variables) in
    let head : take n (drop first a) ≡ take n (drop first b) =
    same_cells first n a b long (λ i within. same i (omega (arith, within, total))) in
    let rest : values_in variables (drop (first + n) a) ≡ values_in variables (drop (first + n) b) =
    values_in-same variables (first + n) a b long (λ i within.
    let there : first + n + i ≡ first + (n + i) = omega arith in
    ap (held a) there ∙ same (n + i) (omega (arith, within, total)) ∙ ap (held b) (sym there)) in
    λ i. head i ∷ (ap (values_in variables) (drop-drop n first a) ∙ rest ∙ ap (values_in variables) (sym (drop-drop n first b))) i

-- ---- the records of all nodes, where each is what the node's site tells

pub nodes_are : (plan : List Site) (first : ℕ) (f : ℕ → NodeRecord) (g : Site → NodeRecord)
    → ((k : ℕ) → k < length plan → f (first + k) ≡ g (site_in plan k))
    → entries f first plan ≡ map {B = List ℕ × NodeRecord} (λ site. (site.path, g site)) plan
nodes_are [] first f g same = refl
nodes_are (site ∷ plan) first f g same =
    let zero_more : first ≡ first + 0 = omega arith in
    let next : (k : ℕ) → k < length plan → f (first + 1 + k) ≡ g (site_in plan k) = λ k within.
    let there : first + 1 + k ≡ first + suc k = omega arith in
    ap f there ∙ same (suc k) (omega (arith, within)) in
    (λ i. (site.path, (ap f zero_more ∙ same 0 (omega arith)) i) ∷ nodes_are plan (first + 1) f g next i)
