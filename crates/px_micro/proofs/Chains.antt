-- Ways up from a node.
use Rattle.std.proofs.Common.{◌≡◌, ℕ, ◌<◌, Bool, true, false, cond, List, [], ◌∷◌, ◌++◌, length, refl, ap, sym, ◌∙◌, arith, inl, inr, Option, Some}
use Rattle.std.proofs.lemmas.Grind.{common_steps}
use Rattle.std.specs.Ordering.{is_eq, nat_cmp}
use Rattle.std.proofs.lemmas.Map.Lookups.{exact_unsigned}
use Rattle.px_core.specs.Plan.{Site}
use Rattle.px_sem.specs.World.{World}
use Rattle.px_flat.specs.declared.flat.Flat.{Flat}
use Rattle.px_flat.specs.Flat.{plan_of}
use Rattle.px_flat.specs.Row.{parent_number}
use Rattle.px_told.specs.declared.asks.Asks.{Asks}
use Rattle.px_micro.specs.Above.{asked_of, asked_below, AreRight, IsChain}
use Rattle.px_micro.proofs.Ancestors.{IsUnder, placed}
use Rattle.px_micro.proofs.Seeing.{asked_under}

-- a node with this parent
pub record HasParent (plan : List Site) (node parent : ℕ) : Type 0 where
  pub under : IsUnder plan node
  pub is : under.parent ≡ parent

pub has_parent : (flat : Flat) (node parent : ℕ) → node < length (plan_of flat)
    → parent_number (plan_of flat) node ≡ Some parent → HasParent (plan_of flat) node parent
has_parent flat node parent here number = elim (placed flat node here) [
  | inl top ↦ absurd (cc (sym top.number ∙ number))
  | inr under ↦
      let both : Some under.parent ≡ Some parent = sym under.number ∙ number in
      record { under = under; is = cc both }
]

pub chain_more : (plan : List Site) (node : ℕ) (chain : List ℕ) (last parent : ℕ) → IsChain plan node chain last
    → parent_number plan last ≡ Some parent → IsChain plan node (chain ++ parent ∷ []) parent
chain_more plan node [] last parent leads number = (ap (parent_number plan) (sym leads) ∙ number, refl)
chain_more plan node (first ∷ chain) last parent leads number =
    (leads.0, chain_more plan first chain last parent leads.1 number)

-- a way up without its last node
pub record IsLonger (plan : List Site) (node : ℕ) (chain : List ℕ) (parent last : ℕ) : Type 0 where
  pub before : ℕ
  pub leads : IsChain plan node chain before
  pub number : parent_number plan before ≡ Some parent
  pub last_is : last ≡ parent

pub chain_less : (plan : List Site) (node : ℕ) (chain : List ℕ) (parent last : ℕ)
    → IsChain plan node (chain ++ parent ∷ []) last → IsLonger plan node chain parent last
chain_less plan node [] parent last leads =
    record { before = node; leads = refl; number = leads.0; last_is = leads.1 }
chain_less plan node (first ∷ chain) parent last leads =
    let rest = chain_less plan first chain parent last leads.1 in
    record { before = rest.before; leads = (leads.0, rest.leads); number = rest.number; last_is = rest.last_is }

pub chain_within : (flat : Flat) (node : ℕ) (chain : List ℕ) (last : ℕ) → node < length (plan_of flat)
    → IsChain (plan_of flat) node chain last → last < length (plan_of flat)
chain_within flat node [] last here leads = omega (arith, leads, here)
chain_within flat node (first ∷ chain) last here leads =
    let found = has_parent flat node first here leads.0 in
    chain_within flat first chain last (omega (arith, found.under.before, found.is, here)) leads.1

-- what is asked of a node, by what is asked of the children of its parent
pub asked_by_parent : (flat : Flat) (now : World) (node parent : ℕ) → node < length (plan_of flat)
    → parent_number (plan_of flat) node ≡ Some parent
    → asked_below (plan_of flat) now parent ≡ asked_of (plan_of flat) now node
asked_by_parent flat now node parent here number =
    let found = has_parent flat node parent here number in
    ap (asked_below (plan_of flat) now) (sym found.is) ∙ asked_under (plan_of flat) now node found.under

-- what is known stays right where more is known of one node
pub still_right : (plan : List Site) (now : World) (old new : ℕ → Option Asks) (key : ℕ) (asked : Asks) (test : ℕ → Bool)
    → AreRight plan now old → asked ≡ asked_below plan now key
    → ((node : ℕ) → new node ≡ cond (test node) (Some asked) (old node))
    → ((node : ℕ) → test node ≡ true → key ≡ node) → AreRight plan now new
still_right plan now old new key asked test right is updates same node x found = by (test node) refl
  where
    by : (b : Bool) → test node ≡ b → x ≡ asked_below plan now node
    by true here =
        let both : Some x ≡ Some asked =
        sym found ∙ updates node ∙ ap (λ b. cond b (Some asked) (old node)) here in
        let made : x ≡ asked = (cc) in
        made ∙ is ∙ ap (asked_below plan now) (same node here)
    by false here =
        right node x (sym (ap (λ b. cond b (Some asked) (old node)) here) ∙ sym (updates node) ∙ found)

-- the key that a map finds
pub same_key : (key node : ℕ) → is_eq (nat_cmp key node) ≡ true → key ≡ node
same_key key node is = grind (arith, common_steps, exact_unsigned)
