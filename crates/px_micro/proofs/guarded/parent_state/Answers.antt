use Rattle.std.proofs.Common.{ap, sym, ◌∙◌, inl, inr}
use Rattle.px_parts.specs.Parts.{record_of}
use Rattle.px_micro.proofs.Ancestors.{placed}
use Rattle.px_micro.proofs.Chains.{has_parent}
use Rattle.px_micro.proofs.Seeing.{parent_is, parent_at_top}
use Rattle.px_micro.proofs.guarded.parent_state.Goals as goal

pub returns-in-Some : goal.returns-in-Some
returns-in-Some c =
    let parts = c.args.parts.now in
    let found = has_parent parts.flat c.args.node c.in-Some.parent c.requires.node
    (sym c.row.ensures.parent ∙ c.in-Some.is) in
    c.state_of.ensures ∙ ap (λ parent. (record_of parts parent).state) (sym found.is)
    ∙ parent_is parts c.args.node found.under c.requires.node

pub returns-in-None : goal.returns-in-None
returns-in-None c =
    let parts = c.args.parts.now in
    elim (placed parts.flat c.args.node c.requires.node) [
      | inl top ↦ parent_at_top parts c.args.node top
      | inr under ↦ absurd (cc (sym under.number ∙ sym c.row.ensures.parent ∙ c.in-None.is))
    ]
