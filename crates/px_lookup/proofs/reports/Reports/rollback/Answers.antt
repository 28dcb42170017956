use Rattle.std.proofs.Common.{◌≡◌, Some, ◌++◌, ◌∷◌, [], All, ap, sym, ◌∙◌, subst, rules}
use Rattle.std.specs.Map.{values_of}
use Rattle.std.proofs.lemmas.List.Elements.{All-pop}
use Rattle.px_lookup.specs.Undoing.{HadLatchedEach, LatchEach, undone_each}
use Rattle.px_lookup.proofs.Latching.{undone_latches}
use Rattle.px_lookup.proofs.Reporting.{undone-push}
use Rattle.px_lookup.proofs.reports.Reports.rollback.Goals as goal

pub loop-change-preserved : goal.loop-change-preserved
loop-change-preserved c =
    let changes = c.loop-change.self-inside.changes.items in
    let entries = c.loop-change.self-inside.values.entries in
    let tolerances = c.loop-change.self-inside.tolerances.items in
    let change = c.in-Some.change in
    let earlier = c.pop.new.self.items in
    let popped : changes ≡ earlier ++ change ∷ [] = search rules in
    let had = All-pop (HadLatchedEach tolerances) changes earlier (Some change) popped c.loop-change.invariant.before in
    record {
      marked = ap (λ entries. Some (undone_each earlier entries)) c.undo.ensures
          ∙ ap Some (sym (undone-push earlier change entries))
          ∙ ap (λ changes. Some (undone_each changes entries)) (sym popped)
          ∙ c.loop-change.invariant.marked;
      tolerances = c.loop-change.invariant.tolerances;
      latching = subst (λ entries. All (LatchEach tolerances) (values_of entries)) (sym c.undo.ensures)
          (undone_latches tolerances change entries c.loop-change.invariant.latching had.1);
      before = had.0;
    }
