-- What is to be looked at again for what was touched.
use Rattle.std.specs.Prelude.{◌≡◌, ℕ, ◌+◌, ◌≤◌, true, false, ◌⊎◌}
use Rattle.px_links.specs.Links.{LinksData, is_absent, SameCounts}
use Rattle.px_listen.specs.Listening.{ListenData, is_dependent}
use Rattle.px_cached.specs.Costs.{in_all, source_cost}

-- Nothing is touched any more. The dependents of what was touched are to be looked at, but for those of which this holds,
-- and what was to be looked at still is; together that costs no more than each by itself.
pub record IsNoticed (Stays : ℕ → Type 0) (listeners : ListenData) (touched_old touched_new stale_old stale_new : LinksData) : Type 0 where
  pub none : (source : ℕ) → is_absent touched_new source ≡ true
  pub marked : (source part : ℕ) → is_absent touched_old source ≡ false → is_dependent listeners source part ≡ true
      → (is_absent stale_new part ≡ false) ⊎ Stays part
  pub still : (part : ℕ) → is_absent stale_old part ≡ false → is_absent stale_new part ≡ false
  pub paid : (cost : ℕ → ℕ) → in_all cost touched_new ≡ 0
  pub owed : (cost : ℕ → ℕ) → in_all cost stale_new
      ≤ in_all cost stale_old + in_all (source_cost listeners cost) touched_old
  pub touched_counts : SameCounts touched_old touched_new
  pub stale_counts : SameCounts stale_old stale_new
