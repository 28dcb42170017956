use Rattle.std.proofs.Common.{◌≡◌, ℕ, ◌⊎◌, false, None, sym, subst, arith, rules}
use Rattle.std.specs.Prelude.{IsPermutation}
use Rattle.std.proofs.lemmas.List.Sorted.{All-permutation, sum_by-IsPermutation}
use Rattle.px_flat.specs.Flat.{plan_of}
use Rattle.px_flat.specs.Sources.{Reports}
use Rattle.px_links.specs.Links.{is_absent}
use Rattle.px_listen.specs.Listening.{dependents_of}
use Rattle.px_cached.specs.Conditions.{source_number}
use Rattle.px_cached.specs.Still.{IsStill}
use Rattle.px_cached.specs.Watching.{IsWatch, parts_of}
use Rattle.px_cached.proofs.noticing.note.Goals as goal
use Rattle.px_cached.proofs.noticing.note.Goals.{After-note_watch}

module _ (c : After-note_watch) where
  -- the parts of the watch are the source's dependents
  each : IsPermutation (parts_of c.index-watches-lookup.result) (dependents_of c.args.listeners.now c.args.source)
  each =
      let plan = plan_of c.args.asker.now.flat.now in
      let name = c.in-Some-Integer.lookup in
      let source_is : c.args.source ≡ source_number plan (Reports name None) = search rules in
      let is : IsWatch c.args.asker.now.parts.now name (dependents_of c.args.listeners.now (source_number plan (Reports name None)))
      c.index-watches-lookup.result = search rules in
      subst (λ source. IsPermutation (parts_of c.index-watches-lookup.result) (dependents_of c.args.listeners.now source))
      (sym source_is) is.each

pub returns-in-Some-Integer-clause-noted : goal.returns-in-Some-Integer-clause-noted
returns-in-Some-Integer-clause-noted c =
    All-permutation (λ (part : ℕ). (is_absent c.note_watch.new.stale part ≡ false) ⊎ IsStill c.args.asker.now part)
    (parts_of c.index-watches-lookup.result) (dependents_of c.args.listeners.now c.args.source)
    (each ((goal.at.returns-in-Some-Integer-clause-noted c).After-note_watch)) c.note_watch.ensures.noted

pub returns-in-Some-Integer-clause-owed : goal.returns-in-Some-Integer-clause-owed
returns-in-Some-Integer-clause-owed c = λ cost.
    omega (
      arith,
      c.note_watch.ensures.owed cost,
      sum_by-IsPermutation cost (parts_of c.index-watches-lookup.result) (dependents_of c.args.listeners.now c.args.source)
          (each ((goal.at.returns-in-Some-Integer-clause-owed c).After-note_watch)),
    )
