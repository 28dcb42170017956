-- What a table of claims keeps, as one node wants or holds.
use Rattle.std.proofs.Common.{◌≡◌, ◌≢◌, ℕ, Bool, get_or, Some, None, sym, ◌∙◌}
use Rattle.std.proofs.lemmas.List.{length-set}
use Rattle.std.proofs.lemmas.Option.{none-some, same_Some}
use Rattle.px_links.specs.Links.{LinksData, HoldsOthersAsBefore}
use Rattle.px_tally.specs.Tally.{TallyData, marked}
use Rattle.px_assign.specs.Keeping.{AreTallies, HoldsContested, holder_for, is_contested}
use Rattle.px_assign.proofs.Contested.{as_held, as_wanted, judged, unjudged}

-- a member's group alone is concerned as it is marked
other_group : (old : TallyData) (node variable other : ℕ) → get_or old.group_of node None ≡ Some variable
    → other ≢ variable → get_or old.group_of node None ≢ Some other
other_group old node variable other of apart same = apart (same_Some other variable (sym same ∙ of))

no_group : (old : TallyData) (node other : ℕ) → get_or old.group_of node None ≡ None
    → get_or old.group_of node None ≢ Some other
no_group old node other none same = none-some other (sym none ∙ same)

module _ (wanting holding : TallyData) (are : AreTallies wanting holding) (node : ℕ) (turned : Bool) where
  pub wanted_tallies : AreTallies (marked wanting node turned) holding
  wanted_tallies = record {
    same = are.same;
    groups = are.groups;
    wanting_sized = length-set wanting.counting node turned ∙ are.wanting_sized;
    holding_sized = are.holding_sized;
    within = are.within;
  }

  pub held_tallies : AreTallies wanting (marked holding node turned)
  held_tallies = record {
    same = are.same;
    groups = are.groups;
    wanting_sized = are.wanting_sized;
    holding_sized = length-set holding.counting node turned ∙ are.holding_sized;
    within = are.within;
  }

  module _ (links links_now : LinksData) (kept : HoldsContested wanting holding links) where
    pub wanted_then : (variable : ℕ) → get_or wanting.group_of node None ≡ Some variable
        → HoldsOthersAsBefore links links_now variable
        (holder_for (is_contested (marked wanting node turned) holding variable))
        → HoldsContested (marked wanting node turned) holding links_now
    wanted_then variable of = judged wanting holding (marked wanting node turned) holding links links_now variable kept
        (λ other apart. as_wanted wanting holding node turned other (other_group wanting node variable other of apart))

    pub held_then : (variable : ℕ) → get_or holding.group_of node None ≡ Some variable
        → HoldsOthersAsBefore links links_now variable
        (holder_for (is_contested wanting (marked holding node turned) variable))
        → HoldsContested wanting (marked holding node turned) links_now
    held_then variable of = judged wanting holding wanting (marked holding node turned) links links_now variable kept
        (λ other apart. as_held wanting holding node turned other (other_group holding node variable other of apart))

  module _ (links : LinksData) (kept : HoldsContested wanting holding links) where
    pub wanted_alone : get_or wanting.group_of node None ≡ None → HoldsContested (marked wanting node turned) holding links
    wanted_alone none = unjudged wanting holding (marked wanting node turned) holding links kept
        (λ other. as_wanted wanting holding node turned other (no_group wanting node other none))

    pub held_alone : get_or holding.group_of node None ≡ None → HoldsContested wanting (marked holding node turned) links
    held_alone none = unjudged wanting holding wanting (marked holding node turned) links kept
        (λ other. as_held wanting holding node turned other (no_group holding node other none))
