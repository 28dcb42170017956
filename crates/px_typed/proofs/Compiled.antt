-- WHAT THE VARIABLES OF A PLAN HOLD THAT BYTES SPELL IS OF THEIR TYPES, in each world that a run leads to.
use Rattle.std.proofs.Common.{◌≡◌, ℕ, ◌≤◌, true, List, [], ◌++◌, Option, sym, subst, arith}
use Rattle.std.specs.List.{All}
use Rattle.std.specs.Option.{ForSome, IsSomeAnd}
use Rattle.px_value.proofs.General.{told_of}
use Rattle.px_core.specs.Fit.{IsFit, AreDistinct}
use Rattle.px_core.specs.Plan.{Tree, sites}
use Rattle.px_core.proofs.SitePaths.{paths_differ}
use Rattle.px_event.specs.declared.event.Event.{Event}
use Rattle.px_sem.specs.World.{World}
use Rattle.px_sem.specs.Log.{Log, events_of, accepted, IsLegal}
use Rattle.px_sem.specs.Run.{run}
use Rattle.px_expand.specs.Core.{core}
use Rattle.px_expand.specs.Labels.{has_identifiers}
use Rattle.px_expand.specs.Size.{block_nodes}
use Rattle.px_expand.proofs.Counts.{core_count}
use Rattle.px_expand.proofs.FitCore.{core_fit, core_typed}
use Rattle.px_compile.specs.Compiled.{IsCompiled}
use Rattle.px_compile.proofs.Labels.{labels_named}
use Rattle.px_typed.specs.Typing.{InitialsSuit, IsTyped}
use Rattle.px_typed.proofs.Runs.{run_typed}
use Rattle.px_typed.proofs.Fronts.{front_runs}
use Rattle.px_typed.proofs.Initials.{initials_suit}
use Rattle.px_typed.proofs.Names.{names_at}
use Rattle.px_typed.proofs.Nodes.{sites_named, core_named}

module _ (bytes : List ℕ) (plan : Tree) (compiled : IsCompiled bytes plan) where
  identifiers : has_identifiers compiled.tree ≡ true
  identifiers =
      labels_named bytes compiled.spelled.tokens compiled.tree compiled.spelled.split.split compiled.spelled.spelled.spelled

  fit : IsFit (core compiled.tree)
  fit = core_fit compiled.tree compiled.faultless identifiers compiled.within

  pub distinct : AreDistinct (sites plan)
  distinct =
      let tree = compiled.tree in
      let few : block_nodes tree.root ≤ 4096 = omega (arith, fit.count, core_count tree) in
      let names = names_at bytes compiled.spelled.tokens compiled.spelled.split.split in
      subst (λ whole. AreDistinct (sites whole)) (sym compiled.expanded)
      (paths_differ (core tree) fit.siblings
      (sites_named [] (core tree) (core_named compiled.spelled.tokens names tree compiled.spelled.spelled.spelled few)))

  pub initials : All InitialsSuit (sites plan)
  initials =
      subst (λ whole. All InitialsSuit (sites whole)) (sym compiled.expanded)
      (initials_suit (core compiled.tree) (core_typed compiled.tree compiled.faultless identifiers compiled.within) fit.arrays)

  pub typed : (history : List Event) → ForSome (run (sites plan) history) (IsTyped (sites plan))
  typed history = run_typed (sites plan) history distinct initials

  pub front_typed :
      (limit : ℕ) (front rest : Log) → IsLegal (sites plan) [] limit (front ++ rest)
      → IsSomeAnd (run (sites plan) (events_of (accepted front))) (IsTyped (sites plan))
  front_typed limit front rest legal =
      let history : List Event = events_of (accepted front) in
      let now = told_of (run (sites plan) history) (front_runs (sites plan) limit front rest legal) in
      subst (λ (now : Option World). IsSomeAnd now (IsTyped (sites plan))) (sym now.1) (typed history now.0 now.1)
