use Rattle.std.proofs.Common.{◌≡◌, ◌<◌, nat_eq, ◌∷◌, ◌++◌, [], length, get_or, set, Some, None, is_some, true, false, not, arith, rules, sym, ap, ◌∙◌}
use Rattle.std.specs.Cmp.{nat_eq_equiv}
use Rattle.std.proofs.lemmas.List.{length-set, get_or_read}
use Rattle.px_value.proofs.General.{once_push}
use Rattle.px_cells.specs.Marked.{Contents, MarkedData, written}
use Rattle.px_cells.proofs.Kept.{kept_write}
use Rattle.px_cells.proofs.Noting.{noted_first}
use Rattle.px_cells.proofs.Writing.{held, first_write, later_write, free_write}
use Rattle.px_cells.proofs.marked.Marked.put.Goals as goal
use Rattle.px_cells.proofs.marked.Marked.put.Goals.{else-self-via-then-self+else-is_none, else-self-via-else-self}

pub invariant_of-self : goal.invariant_of-self
invariant_of-self g c =
    let olds = c.self.inside.olds.items in
    let values = c.self.inside.values.items in
    let changed = c.self.inside.changed.items in
    let none : is_some (get_or olds c.args.at None) ≡ false = search rules in
    let pushed : c.push.new.self.items ≡ changed ++ c.args.at ∷ [] = search rules in
    let many : length c.args.self.now.contents.values ≡ length values = ap (λ (m : MarkedData g.row.T.Denot). length m.contents.values) (sym c.self.view_is) in
    let within : c.args.at < length olds = omega (arith, many, c.self.invariant.sized, c.requires.within) in
    let free = kept_write c.self.inside c.args.at c.replace-old.new.dest c.note.new.self c.self.invariant c.note.ensures in
    record {
      sized = length-set olds c.args.at (Some c.replace-old.result) ∙ free.sized;
      small = free.small;
      noted = rw pushed (noted_first olds changed c.args.at c.replace-old.result c.self.invariant.noted within);
      once = rw pushed (once_push nat_eq nat_eq_equiv.refl changed c.args.at (sym (c.self.invariant.noted c.args.at) ∙ none)
          c.self.invariant.once);
      unmarked = λ free. absurd (cc (sym free ∙ c.if-self.true));
      counted = free.counted;
      as_seen = free.as_seen;
    }

pub invariant_of-self-else-is_none : goal.invariant_of-self-else-is_none
invariant_of-self-else-is_none g c =
    kept_write c.self.inside c.args.at c.replace-old.new.dest c.note.new.self c.self.invariant c.note.ensures

pub invariant_of-self-else-self : goal.invariant_of-self-else-self
invariant_of-self-else-self g c =
    kept_write c.self.inside c.args.at c.replace-old.new.dest c.note.new.self c.self.invariant c.note.ensures

pub returns-then-is_none-clause-contents : goal.returns-then-is_none-clause-contents
returns-then-is_none-clause-contents g c =
    let olds = c.self.inside.olds.items in
    let values = c.self.inside.values.items in
    let changed = c.self.inside.changed.items in
    let none : is_some (get_or olds c.args.at None) ≡ false = search rules in
    let pushed : c.push.new.self.items ≡ changed ++ c.args.at ∷ [] = search rules in
    let old : c.replace-old.result ≡ get_or values c.args.at c.replace-old.result = search rules in
    let new : c.replace-old.new.dest ≡ c.args.value = search rules in
    rw (pushed, new) (
    (λ i. let contents : Contents g.row.T.Denot =
    held c.self.inside.is_marked (set olds c.args.at (Some (old i))) (set values c.args.at c.args.value) (changed ++ c.args.at ∷ [])
    in contents)
    ∙ first_write c.self.inside.is_marked olds values changed c.args.at c.args.value c.replace-old.result
    c.if-self.true c.self.invariant.noted none
    ∙ ap (λ (m : MarkedData g.row.T.Denot). written m.contents c.args.at c.args.value) c.self.view_is)

pub returns-else-self-clause-contents : goal.returns-else-self-clause-contents
returns-else-self-clause-contents g c =
    let olds = c.self.inside.olds.items in
    let values = c.self.inside.values.items in
    let changed = c.self.inside.changed.items in
    let new : c.replace-old.new.dest ≡ c.args.value = search rules in
    let many : length c.args.self.now.contents.values ≡ length values =
    ap (λ (m : MarkedData g.row.T.Denot). length m.contents.values) (sym c.self.view_is) in
    let within : c.args.at < length olds = omega (arith, many, c.self.invariant.sized, c.requires.within) in
    let after : written (held c.self.inside.is_marked olds values changed) c.args.at c.args.value
    ≡ written c.args.self.now.contents c.args.at c.args.value =
    ap (λ (m : MarkedData g.row.T.Denot). written m.contents c.args.at c.args.value) c.self.view_is in
    elim c.else-self.branch [
      | else-self-via-then-self+else-is_none w ↦
          let read : w.index.result.now ≡ get_or olds c.args.at None =
          get_or_read olds c.args.at w.index.result.now within w.index.ensures None in
          let kept : is_some (get_or olds c.args.at None) ≡ true =
          sym (ap is_some read) ∙ w.is_none.ensures ∙ ap not w.if-is_none.false in
          ap (λ (m : MarkedData g.row.T.Denot). m.contents) w.self-is
          ∙ ap (λ value. held c.self.inside.is_marked olds (set values c.args.at value) changed) new
          ∙ later_write c.self.inside.is_marked olds values changed c.args.at c.args.value w.if-self.true
          c.self.invariant.noted kept
          ∙ after
      | else-self-via-else-self w ↦
          ap (λ (m : MarkedData g.row.T.Denot). m.contents) w.self-is
          ∙ ap (λ value. held c.self.inside.is_marked olds (set values c.args.at value) changed) new
          ∙ free_write c.self.inside.is_marked olds values changed c.args.at c.args.value w.if-self.false
          ∙ after
    ]

pub note-requires : goal.note-requires
note-requires g c =
    let many = ap (λ (m : MarkedData g.row.T.Denot). length m.contents.values) c.self.view_is in
    omega (arith, many, c.self.invariant.counted, c.requires.within)
