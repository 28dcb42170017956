use Rattle.std.proofs.Common.{◌≡◌, ℕ, List, ◌++◌, codes, append_assoc}
use Rattle.px_value.proofs.General.{begins_further, on_err}
use Rattle.px_trace.proofs.Appends.{keeps_on, ok_along}
use Rattle.px_trace.proofs.headings.push_numbered.Goals as goal

pub returns-in_err-push_event-clause-err : goal.returns-in_err-push_event-clause-err
returns-in_err-push_event-clause-err c =
    let number = keeps_on _ _ _ c.in_ok-push_all.ensures.ok in
    let source = begins_further _ _ _ number (keeps_on _ _ _ c.in_ok-push_source.ensures.ok) in
    on_err _ (begins_further _ _ _ source c.in_err-push_event.ensures.err)

-- five parts, one after another
five_parts : (old first second third fourth fifth a b c : List ℕ) → a ≡ old ++ first → b ≡ a ++ second
    → c ≡ b ++ (third ++ fourth) → c ++ fifth ≡ old ++ (first ++ second ++ third ++ fourth ++ fifth)
five_parts old first second third fourth fifth a b c is_a is_b is_c = rw (is_c, is_b, is_a) (simp append_assoc)

pub returns-clause-ok : goal.returns-clause-ok
returns-clause-ok c =
    let number = rw c.format.ensures.text at c.in_ok-push_all.ensures.ok in
    ok_along _ _ _ _
    (five_parts _ _ _ (codes " ") _ _ _ _ _ number c.in_ok-push_source.ensures.ok c.in_ok-push_event.ensures.ok)
    c.push_all-2.ensures.ok
