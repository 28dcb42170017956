use Rattle.std.proofs.Common.{◌≡◌, ◌∙◌, ◌/◌, ap, sym, length, map, take, drop}
use Rattle.px_core.specs.Joined.{joined}
use Rattle.px_core.proofs.Halves.{none_joined, one_of, halves_joined}
use Rattle.px_forms.specs.Said.{said}
use Rattle.px_core.specs.Expr.{term_in}
use Rattle.px_forms.proofs.join.+joined.Goals as goal

pub returns-in-empty : goal.returns-in-empty
returns-in-empty t c = rw (none_joined c.args.op c.args.none (said c.args.what) c.args.paths.now c.in-empty.len_below) c.literal.ensures

pub returns-in-len1 : goal.returns-in-len1
returns-in-len1 t c =
    let one = one_of c.args.op c.args.none (said c.args.what) c.args.paths.now c.path-item.result c.in-len1.len_below (sym c.path-item.is) c.in-len1.len_at_least in
    rw one c.of.ensures

pub returns-in_ok-back-in_default : goal.returns-in_ok-back-in_default
returns-in_ok-back-in_default t c =
    let paths = c.args.paths.now in
    let op = c.args.op in
    let none = c.args.none in
    let say = said c.args.what in
    let front : term_in c.in_ok-front-in_default.front ≡ joined op none (map say (take (length paths / 2) paths)) =
    c.in_ok-front-in_default.ensures ∙ ap (λ some. joined op none (map say some)) c.split_at.ensures.front in
    let back : term_in c.in_ok-back-in_default.back ≡ joined op none (map say (drop (length paths / 2) paths)) =
    c.in_ok-back-in_default.ensures ∙ ap (λ some. joined op none (map say some)) c.split_at.ensures.back in
    rw (halves_joined op none say paths c.in_default.len_at_least, ← front, ← back) c.binary.ensures
