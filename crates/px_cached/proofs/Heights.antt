-- Each part has one way up, and the climb looks at it and at each part of that way.
use Rattle.std.proofs.Common.{◌≡◌, ◌≢◌, ℕ, zero, suc, ◌+◌, ◌<◌, ◌≤◌, List, [], ◌∷◌, length, refl, ap, sym, ◌∙◌, subst, arith}
use Rattle.px_cached.specs.declared.part.Above.{Above}
use Rattle.px_cached.specs.declared.part.Above.TheVariants as aboves
use Rattle.px_cached.specs.declared.part.Part.{Part}
use Rattle.px_cached.specs.Carrying.{IsWayUp, LooksUp}
use Rattle.px_cached.specs.Climbs.{and_above, climb, climb_within}
use Rattle.px_cached.specs.Network.{IsNetwork, IsUnder, above_at}

-- a part that has a part above it is none that has a condition above it
pub not_top : (above : List Above) (part next top node : ℕ) → above_at above part ≡ aboves.Part next
    → above_at above top ≡ aboves.Condition node → part ≢ top
not_top above part next top node up at_top same =
    let both : aboves.Condition node ≡ aboves.Part next = sym at_top ∙ ap (above_at above) (sym same) ∙ up in
    cc

module _ (network : List Part) (above : List Above) (is : IsNetwork network above) where
  pub under : (part next : ℕ) → part < length network → above_at above part ≡ aboves.Part next
      → (part < next) × (next < length network)
  under part next there up = subst (IsUnder (length network) part) up (is.under part there)

  short : (part : ℕ) (way : List ℕ) → part < length network → IsWayUp above part way → part + length way < length network
  short part [] there leads = omega (arith, there)
  short part (next ∷ way) there leads =
      let on = under part next there leads.0 in
      omega (arith, on.0, short next way on.1 leads.1)

  as_long : (most part : ℕ) (way : List ℕ) → IsWayUp above part way → length way < most
      → climb_within above most part ≡ 1 + length way
  as_long zero part way leads few = absurd (omega (arith, few))
  as_long (suc most) part [] leads few = ap (and_above (climb_within above most)) leads.1
  as_long (suc most) part (next ∷ way) leads few = omega (
    arith,
    ap (and_above (climb_within above most)) leads.0,
    as_long most next way leads.1 (omega (arith, few)),
  )

  climb_is : (part : ℕ) (way : List ℕ) → part < length network → IsWayUp above part way → climb above part ≡ 1 + length way
  climb_is part way there leads = as_long (length above) part way leads (omega (arith, is.sized, short part way there leads))

  has_way : (most part : ℕ) → part < length network → length network ≤ part + most → (way : List ℕ) × IsWayUp above part way
  has_way zero part there far = absurd (omega (arith, there, far))
  has_way (suc most) part there far =
      by (above_at above part) refl (λ next inside far. has_way most next inside far)
    where
      by : (over : Above) → above_at above part ≡ over
          → ((next : ℕ) → next < length network → length network ≤ next + most → (way : List ℕ) × IsWayUp above next way)
          → (way : List ℕ) × IsWayUp above part way
      by (aboves.Condition node) top rest = ([], (node, top))
      by (aboves.Part next) up rest =
          let on = under part next there up in
          let way = rest next on.1 (omega (arith, far, on.0)) in
          (next ∷ way.0, (up, way.1))

  pub looked : (part looks : ℕ) → part < length network → LooksUp above part looks → looks ≤ climb above part
  looked part looks there up =
      let way = has_way (length network) part there (omega arith) in
      omega (arith, up way.0 way.1, climb_is part way.0 there way.1)

  pub climb_top : (part node : ℕ) → part < length network → above_at above part ≡ aboves.Condition node → climb above part ≡ 1
  climb_top part node there top = climb_is part [] there (node, top)

  pub climb_on : (part next : ℕ) → part < length network → above_at above part ≡ aboves.Part next
      → climb above part ≡ climb above next + 1
  climb_on part next there up =
      let on = under part next there up in
      let way = has_way (length network) next on.1 (omega arith) in
      omega (arith, climb_is part (next ∷ way.0) there (up, way.1), climb_is next way.0 on.1 way.1)
