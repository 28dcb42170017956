use Rattle.std.proofs.Common.{◌≡◌, ◌∙◌, ◌/◌, true, ap, sym, length, take, drop}
use Rattle.px_core.specs.declared.expr.BinaryOp.TheVariants as binary
use Rattle.px_core.proofs.Halves.{none_joined, one_of, halves_joined}
use Rattle.px_core.specs.Defaults.{is_finished, each_finished}
use Rattle.px_core.specs.Expr.{Binary, term_of}
use Rattle.px_core.proofs.defaults.+each_finished.Goals as goal

pub returns-in-empty : goal.returns-in-empty
returns-in-empty t c = c.truth.ensures ∙ sym (none_joined binary.And true is_finished c.args.paths.now c.in-empty.len_below)

pub returns-in-len1 : goal.returns-in-len1
returns-in-len1 t c =
    let one : each_finished c.args.paths.now ≡ is_finished c.path-item.result =
    one_of binary.And true is_finished c.args.paths.now c.path-item.result c.in-len1.len_below (sym c.path-item.is) c.in-len1.len_at_least in
    rw one c.is_finished.ensures

pub returns-in_ok-back-in_default : goal.returns-in_ok-back-in_default
returns-in_ok-back-in_default t c =
    let paths = c.args.paths.now in
    let front : term_of c.in_ok-front-in_default.front ≡ each_finished (take (length paths / 2) paths) =
    c.in_ok-front-in_default.ensures ∙ ap each_finished c.split_at.ensures.front in
    let back : term_of c.in_ok-back-in_default.back ≡ each_finished (drop (length paths / 2) paths) =
    c.in_ok-back-in_default.ensures ∙ ap each_finished c.split_at.ensures.back in
    let halves : each_finished paths ≡ Binary binary.And (each_finished (take (length paths / 2) paths)) (each_finished (drop (length paths / 2) paths)) =
    halves_joined binary.And true is_finished paths c.in_default.len_at_least in
    rw (halves, ← front, ← back) c.both.ensures
