use Rattle.std.proofs.Common.{◌≡◌, ◌<◌, length, get_or, ap, sym, ◌∙◌, arith}
use Rattle.std.specs.Prelude.{nat_eq}
use Rattle.std.proofs.lemmas.Bool.{and_from, and_left, and_right, eq-eqb, ne_eqb}
use Rattle.std.proofs.lemmas.List.{get_or_read}
use Rattle.px_value.proofs.General.{not_behind}
use Rattle.px_tally.specs.Tally.{is_counted}
use Rattle.px_assign.specs.declared.order.Writer.{Writer}
use Rattle.px_assign.specs.Ordering.{is_wanting}
use Rattle.px_assign.proofs.Places.{behind, nobody_first, someone, up_to_end}
use Rattle.px_assign.proofs.firsts.Firsts.first_from.Goals as goal
use Rattle.px_assign.proofs.firsts.Firsts.first_from.Goals.{After-index-writer, else-writer-variable-via-then-writer-variable+else-counts, else-writer-variable-via-else-writer-variable}

pub returns-then-is_nobody : goal.returns-then-is_nobody
returns-then-is_nobody c =
    c.len.ensures ∙ c.args.self.now.writers.ok.0
    ∙ sym (nobody_first c.args.wanting.now c.args.variable c.args.self.now.writers.items c.requires.ranked.groups
    (c.is_nobody.ensures.members.0 c.if-is_nobody.true))

module _ (c : After-index-writer) where
  inside : c.loop-place.place < length c.args.self.now.writers.items
  inside = omega (arith, c.loop-place-test.true, c.len-place-end.ensures, c.args.self.now.writers.ok.0)

  read : c.index-writer.result.now ≡ get_or c.args.self.now.writers.items c.loop-place.place someone
  read = get_or_read c.args.self.now.writers.items c.loop-place.place c.index-writer.result.now inside c.index-writer.ensures someone

pub returns-then-counts : goal.returns-then-counts
returns-then-counts c =
    let at = (goal.at.returns-then-counts c).After-index-writer in
    let test = is_wanting (is_counted c.args.wanting.now) c.args.variable in
    let writer : Writer = c.index-writer.result.now in
    let first = not_behind test c.args.self.now.writers.items c.loop-place.place someone
    (ap test (sym (read at))
    ∙ and_from (nat_eq writer.variable c.args.variable) (is_counted c.args.wanting.now writer.node)
    (eq-eqb writer.variable c.args.variable c.if-writer-variable.true) (sym c.counts.ensures ∙ c.if-counts.true)) in
    omega (arith, first, c.loop-place.invariant)

pub loop-place-preserved : goal.loop-place-preserved
loop-place-preserved c =
    let at = (goal.at.loop-place-preserved c).After-index-writer in
    let test = is_wanting (is_counted c.args.wanting.now) c.args.variable in
    let writer : Writer = c.index-writer.result.now in
    behind test c.args.self.now.writers.items c.loop-place.place someone (inside at) c.loop-place.invariant
    (ap test (sym (read at))
    ∙ elim c.else-writer-variable.branch [
      | else-writer-variable-via-then-writer-variable+else-counts w ↦
          and_right (nat_eq writer.variable c.args.variable) (is_counted c.args.wanting.now writer.node)
          (sym w.counts.ensures ∙ w.if-counts.false)
      | else-writer-variable-via-else-writer-variable w ↦
          and_left (nat_eq writer.variable c.args.variable) (is_counted c.args.wanting.now writer.node)
          (ne_eqb writer.variable c.args.variable w.if-writer-variable.false)
    ])

pub returns : goal.returns
returns c =
    let up = up_to_end (is_wanting (is_counted c.args.wanting.now) c.args.variable) c.args.self.now.writers.items in
    omega (
      arith,
      up,
      c.loop-place.invariant,
      c.loop-place-test.false,
      c.len-place-end.ensures,
      c.len-2.ensures,
      c.args.self.now.writers.ok.0,
    )
