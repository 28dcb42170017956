-- Of which node an event tells, and what one comes to that tells of none that the plan has.
use Rattle.std.proofs.Common.{◌≡◌, ℕ, ◌&&◌, ◌+◌, Bool, true, false, cond, List, [], ◌∷◌, get_or, refl, ap, sym, ◌∙◌, Option, Some, None, slice_get, arith}
use Rattle.std.specs.List.{find, position_from}
use Rattle.std.specs.Option.{option_and_then, unwrap_or}
use Rattle.std.specs.Cmp.Lexicographic.{same_text}
use Rattle.std.proofs.lemmas.Cmp.{nat_list_eq_equiv}
use Rattle.std.proofs.lemmas.Grind.{common_steps}
use Rattle.std.proofs.lemmas.Iterator.Adapters.{position_from-zero}
use Rattle.std.proofs.lemmas.List.Quantifiers.{position-Some}
use Rattle.std.proofs.lemmas.Option.{get_or_from_slice_get}
use Rattle.std.proofs.Math.ListN.{get_or-map}
use Rattle.px_value.specs.declared.value.Value.{Value}
use Rattle.px_core.specs.Plan.{Site, no_site, site_at, is_same}
use Rattle.px_event.specs.declared.event.Event.{Event}
use Rattle.px_event.specs.declared.event.Event.TheVariants as events
use Rattle.px_sem.specs.Events.{take, is_command}
use Rattle.px_sem.specs.Guards.{is_active, is_failing}
use Rattle.px_sem.specs.World.{World, state_at}
use Rattle.px_cells.specs.Marked.{Contents}
use Rattle.px_flat.specs.declared.act.Act.{Act}
use Rattle.px_flat.specs.declared.act.Act.TheVariants as under_way
use Rattle.px_flat.specs.declared.flat.Flat.{Flat}
use Rattle.px_flat.specs.Flat.{plan_of}
use Rattle.px_flat.specs.Parts.{IsParts, act_of}
use Rattle.px_flat.specs.Row.{site_in, number_at, paths_of}
use Rattle.px_command.specs.Taking.{IsTaken, path_of}
use Rattle.px_command.proofs.Rows.{uncounted}

-- what is read of a list of acts
pub act_read : (acts : List Act) (node : ℕ) (act : Act) → slice_get acts node ≡ Some act → act_of acts node ≡ act
act_read acts node act is = get_or_from_slice_get acts node act under_way.Idle is

-- the node of a number has its path
pub told_path : (plan : List Site) (path : List ℕ) (node : ℕ) → number_at plan path ≡ Some node
    → (site_in plan node).path ≡ path
told_path plan path node is =
    let found = position-Some (is_same path) (paths_of plan) node [] is in
    sym (get_or-map (λ (site : Site). site.path) plan node no_site) ∙ sym (same_text path (get_or (paths_of plan) node []) (sym found.1))

-- the node of which an event tells
pub told_event : (plan : List Site) (event : Event) (path : List ℕ) (number : Option ℕ) (node : ℕ)
    → number ≡ option_and_then (number_at plan) (path_of event) → number ≡ Some node → path_of event ≡ Some path
    → (site_in plan node).path ≡ path
told_event plan event path number node told some is =
    told_path plan path node (sym (ap (option_and_then (number_at plan)) is) ∙ sym told ∙ some)

unplaced : (plan : List Site) (path : List ℕ) (first : ℕ) → position_from (is_same path) first (paths_of plan) ≡ None
    → site_at plan path ≡ no_site
unplaced [] path first none = refl
unplaced (site ∷ plan) path first none =
    by (is_same site.path path) (is_same path site.path) (nat_list_eq_equiv.symm site.path path) none
    (unplaced plan path (first + 1))
  where
    by : (here there : Bool) → here ≡ there
        → cond there (Some first) (position_from (is_same path) (first + 1) (paths_of plan)) ≡ None
        → (position_from (is_same path) (first + 1) (paths_of plan) ≡ None → site_at plan path ≡ no_site)
        → unwrap_or (cond here (Some site) (find (λ site. is_same site.path path) plan)) no_site ≡ no_site
    by true true same none rest = absurd (cc none)
    by false false same none rest = rest none
    by true false same none rest = absurd (cc)
    by false true same none rest = absurd (cc)

-- a path that has no number has no site
pub no_site_at : (plan : List Site) (path : List ℕ) → number_at plan path ≡ None → site_at plan path ≡ no_site
no_site_at plan path none =
    unplaced plan path 0 (sym (position_from-zero (is_same path) (paths_of plan)) ∙ none)

untold_nodes : (plan : List Site) (before : World) (event : Event) → option_and_then (number_at plan) (path_of event) ≡ None
    → before.nodes ≡ (take plan before event).nodes
untold_nodes plan before (events.Report name args value) none = refl
untold_nodes plan before (events.Handle node handle) none =
    sym (ap (λ (w : World). w.nodes) (uncounted plan before (events.Handle node handle)
    (ap (λ body. is_command body && is_active (state_at before node)) (ap (λ site. site.head.body) (no_site_at plan node none)))))
untold_nodes plan before (events.Return node given) none = grind (arith, common_steps, uncounted, no_site_at)
untold_nodes plan before (events.AbortDone node) none =
    sym (ap (λ (w : World). w.nodes) (uncounted plan before (events.AbortDone node)
    (ap (λ body. is_command body && is_failing (state_at before node)) (ap (λ site. site.head.body) (no_site_at plan node none)))))
untold_nodes plan before (events.Acknowledged node) none = grind (arith, common_steps, uncounted, no_site_at)

-- an event that tells of no node that the plan has
pub untold : (flat : Flat) (event : Event) (cells : Contents Value) (acts : Contents Act)
    → IsParts (plan_of flat) cells.values acts.values
    → option_and_then (number_at (plan_of flat)) (path_of event) ≡ None
    → IsTaken (plan_of flat) event cells acts cells acts
untold flat event cells acts parts none = grind (arith, common_steps, untold_nodes)
