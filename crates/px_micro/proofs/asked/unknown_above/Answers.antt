use Rattle.std.proofs.Common.{◌≡◌, ◌<◌, ◌++◌, ◌∷◌, [], length, sym, ◌∙◌, subst, arith, rules, inl, inr, Some, None}
use Rattle.std.specs.BTreeMap.{get}
use Rattle.std.specs.Ordering.{nat_cmp}
use Rattle.px_micro.specs.Above.{IsChain}
use Rattle.px_parts.specs.Parts.{plan_in, world_in}
use Rattle.px_micro.proofs.Ancestors.{placed}
use Rattle.px_micro.proofs.Chains.{has_parent, chain_more, chain_within, asked_by_parent}
use Rattle.px_micro.proofs.Seeing.{asked_at_top}
use Rattle.px_micro.proofs.asked.unknown_above.Goals as goal

pub row-requires : goal.row-requires
row-requires c =
    chain_within c.args.parts.now.flat c.args.node c.ancestors.chain.items c.ancestors.last c.requires.node c.ancestors.invariant

pub returns-in-Some-get : goal.returns-in-Some-get
returns-in-Some-get c =
    let parts = c.args.parts.now in
    let inside : c.ancestors.last < length (plan_in parts) =
    chain_within parts.flat c.args.node c.ancestors.chain.items c.ancestors.last c.requires.node c.ancestors.invariant in
    let found : get nat_cmp c.args.known.now c.in-Some.parent ≡ Some c.in-Some-get.asked.now = search rules in
    record {
      last = c.ancestors.last;
      leads = c.ancestors.invariant;
      asked_is = c.requires.known c.in-Some.parent c.in-Some-get.asked.now found
          ∙ asked_by_parent parts.flat (world_in parts) c.ancestors.last c.in-Some.parent inside
          (sym c.row.ensures.parent ∙ c.in-Some.is);
    }

pub ancestors-smaller : goal.ancestors-smaller
ancestors-smaller c =
    let parts = c.args.parts.now in
    let inside : c.ancestors.last < length (plan_in parts) =
    chain_within parts.flat c.args.node c.ancestors.chain.items c.ancestors.last c.requires.node c.ancestors.invariant in
    let found = has_parent parts.flat c.ancestors.last c.in-Some.parent inside (sym c.row.ensures.parent ∙ c.in-Some.is) in
    omega (arith, found.under.before, found.is)

pub ancestors-preserved : goal.ancestors-preserved
ancestors-preserved c =
    let parts = c.args.parts.now in
    let pushed : c.push.new.self.items ≡ c.ancestors.chain.items ++ c.in-Some.parent ∷ [] = search rules in
    subst (λ chain. IsChain (plan_in parts) c.args.node chain c.in-Some.parent) (sym pushed)
    (chain_more (plan_in parts) c.args.node c.ancestors.chain.items c.ancestors.last c.in-Some.parent c.ancestors.invariant
    (sym c.row.ensures.parent ∙ c.in-Some.is))

pub returns : goal.returns
returns c =
    let parts = c.args.parts.now in
    let inside : c.ancestors.last < length (plan_in parts) =
    chain_within parts.flat c.args.node c.ancestors.chain.items c.ancestors.last c.requires.node c.ancestors.invariant in
    let none : c.row.result.now.parent ≡ None = search rules in
    elim (placed parts.flat c.ancestors.last inside) [
      | inl top ↦ record {
        last = c.ancestors.last;
        leads = c.ancestors.invariant;
        asked_is = asked_at_top (plan_in parts) (world_in parts) c.ancestors.last top;
      }
      | inr under ↦ absurd (cc (sym under.number ∙ sym c.row.ensures.parent ∙ none))
    ]
