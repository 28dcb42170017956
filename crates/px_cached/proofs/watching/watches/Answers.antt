use Rattle.std.proofs.Common.{◌≡◌, ◌+◌, List, [], ◌∷◌, length, get_or, None, inl, inr, ap, sym, ◌∙◌, subst, arith}
use Rattle.std.proofs.lemmas.Bool.{cases_lt}
use Rattle.std.proofs.lemmas.List.{get_or_append_left, get_or-append-add, length-append}
use Rattle.px_flat.specs.Flat.{plan_of}
use Rattle.px_flat.specs.Sources.{Reports}
use Rattle.px_listen.specs.Listening.{dependents_of}
use Rattle.px_cached.specs.declared.watching.Watch.{Watch}
use Rattle.px_cached.specs.Conditions.{source_number}
use Rattle.px_cached.specs.Watching.{IsWatch}
use Rattle.px_cached.proofs.watching.watches.Goals as goal

pub loop-name-preserved : goal.loop-name-preserved
loop-name-preserved c =
    let so_far = c.loop-name.invariant in
    let watches : List Watch = c.loop-name.watches.items in
    let watch = c.in_ok-of.field-0 in
    let parts = c.args.parts.now in
    let items = c.in_ok-push.ensures.items in
    let is = subst (λ dependents. IsWatch parts c.loop-name.name dependents watch)
    (c.dependents.ensures ∙ ap (dependents_of c.args.listeners.now) c.report_source-source.ensures.number) c.in_ok-of.ensures in
    record {
      names = omega (arith, ap length items, length-append watches (watch ∷ []), so_far.names);
      each = λ name d below.
          let dependents = dependents_of c.args.listeners.now (source_number (plan_of c.args.flat.now) (Reports name None)) in
          elim (cases_lt name c.loop-name.name) [
            | inl sooner ↦ subst (IsWatch parts name dependents)
                (sym (ap (λ all. get_or all name d) items ∙ get_or_append_left watches (watch ∷ []) d name (omega (arith, sooner, so_far.names))))
                (so_far.each name d sooner)
            | inr now ↦
                let same : c.loop-name.name ≡ name = omega (arith, now, below) in
                let last : length watches + 0 ≡ name = omega (arith, same, so_far.names) in
                subst (λ at. IsWatch parts name dependents (get_or c.push.new.self.items at d)) last
                (subst (IsWatch parts name dependents)
                (sym (ap (λ all. get_or all (length watches + 0) d) items ∙ get_or-append-add watches (watch ∷ []) 0 d))
                (subst (λ name. IsWatch parts name
                (dependents_of c.args.listeners.now (source_number (plan_of c.args.flat.now) (Reports name None))) watch) same is))
          ];
    }
