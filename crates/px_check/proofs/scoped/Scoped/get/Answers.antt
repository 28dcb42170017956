use Rattle.std.proofs.Common.{◌≡◌, ◌<◌, Some, None, sym, ap, ◌∙◌, reverse, length, get_or, subst, arith}
use Rattle.std.proofs.lemmas.List.{length-reverse, reverse-reverse}
use Rattle.px_check.specs.Scoped.{meaning_of, nearest_of}
use Rattle.px_check.proofs.Scoping.{nearest_within, nowhere, nearest_means}
use Rattle.px_check.proofs.scoped.Scoped.get.Goals as goal

pub returns-in_err-place : goal.returns-in_err-place
returns-in_err-place g c =
    let name = c.args.name.now in
    let entries = reverse c.self.inside.entries.items in
    let there : nearest_of name entries ≡ None =
    sym (c.self.invariant.1 name) ∙ sym c.in_err-place.ensures.value in
    c.from_residual.ensures ∙ sym (nowhere name entries there) ∙ ap (meaning_of name) c.self.view_is

pub index-requires : goal.index-requires
index-requires g c =
    let name = c.args.name.now in
    let items = c.self.inside.entries.items in
    let there : nearest_of name (reverse items) ≡ Some c.in_ok-place.field-0.now =
    sym (c.self.invariant.1 name) ∙ sym c.in_ok-place.ensures.value in
    let within = nearest_within name (reverse items) c.in_ok-place.field-0.now there in
    let less : c.in_ok-place.field-0.now < length items =
    subst (λ n. c.in_ok-place.field-0.now < n) (length-reverse items) within in
    omega (arith, c.self.inside.entries.ok.0)

pub returns : goal.returns
returns g c =
    let name = c.args.name.now in
    let items = c.self.inside.entries.items in
    let place = c.in_ok-place.field-0.now in
    let there : nearest_of name (reverse items) ≡ Some place =
    sym (c.self.invariant.1 name) ∙ sym c.in_ok-place.ensures.value in
    nearest_means name (reverse items) place c.index.result.now there
    (c.index.ensures ∙ ap (λ xs. get_or xs place c.index.result.now) (sym (reverse-reverse items)))
    ∙ ap (meaning_of name) c.self.view_is
