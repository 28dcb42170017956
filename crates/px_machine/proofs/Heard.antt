-- What was heard under a name, with one tolerance after another.
use Rattle.std.proofs.Common.{◌≡◌, ℕ, ◌+◌, ◌*◌, ◌<◌, true, false, nat_eq, List, [], length, get_or, Option, Some, None, ap, sym, ◌∙◌, subst, arith, inl, inr}
use Rattle.std.specs.List.{position_or_len}
use Rattle.std.specs.Option.{unwrap_or}
use Rattle.std.proofs.lemmas.Bool.{cases_lt, eqb-true, false≢true}
use Rattle.std.proofs.lemmas.List.Sums.{passes_at_first}
use Rattle.px_core.specs.Plan.{Site}
use Rattle.px_sem.specs.Tolerances.{tolerances}
use Rattle.px_flat.specs.Layout.{all_cells}
use Rattle.px_flat.specs.Lookups.{lookups_of}
use Rattle.px_flat.specs.Sources.{Reports, IsSameReport}
use Rattle.px_lookup.specs.Reports.{HasStayed}
use Rattle.px_cached.specs.Cached.{CachedData, is_touched}
use Rattle.px_cached.specs.Conditions.{source_number}
use Rattle.px_cached.proofs.Reported.{place_within}
use Rattle.px_cached.proofs.Seeing.{was_untouched}
use Rattle.px_parts.specs.declared.parts.Parts.{Parts}
use Rattle.px_parts.specs.Parts.{plan_in}
use Rattle.px_machine.specs.Hearing.{HasHeard, HasHeardLatched}
use Rattle.px_machine.proofs.Hearing.{stayed_reads}

module _ (parts : Parts) (lookup : ℕ) where
  abbrev plan : List Site
  plan = plan_in parts

  abbrev number : Option ℕ → ℕ
  number tolerance = source_number plan (Reports lookup tolerance)

  -- the first so many tolerances are heard of, and what is read with none is touched
  pub record HasHeardSome (old new : CachedData) (count : ℕ) : Type 0 where
    pub flat : new.flat ≡ old.flat
    pub truths : new.truths ≡ old.truths
    pub seen : new.seen ≡ old.seen
    pub others : (source : ℕ) → is_touched old source ≡ true → is_touched new source ≡ true
    pub last : is_touched new (number None) ≡ true
    pub stayed : (k : ℕ) → k < count → is_touched new (number (Some (get_or (tolerances plan) k 0))) ≡ false
        → HasStayed parts.reports (get_or (tolerances plan) k 0)

  pub one_heard : (old middle new : CachedData) (count tolerance : ℕ) → HasHeardSome old middle count
      → get_or (tolerances plan) count 0 ≡ tolerance → HasHeardLatched parts middle new lookup tolerance
      → HasHeardSome old new (count + 1)
  one_heard old middle new count tolerance so_far is heard = record {
    flat = heard.flat ∙ so_far.flat;
    truths = heard.truths ∙ so_far.truths;
    seen = heard.seen ∙ so_far.seen;
    others = λ source was. heard.others source (so_far.others source was);
    last = heard.others (number None) so_far.last;
    stayed = λ k few untouched. elim (cases_lt k count) [
      | inl sooner ↦ so_far.stayed k sooner
          (was_untouched middle new (number (Some (get_or (tolerances plan) k 0))) heard.others untouched)
      | inr later ↦
          let one : k ≡ count = omega (arith, later, few) in
          let same : get_or (tolerances plan) k 0 ≡ tolerance = ap (λ k. get_or (tolerances plan) k 0) one ∙ is in
          subst (HasStayed parts.reports) (sym same)
          (heard.stayed (ap (λ tolerance. is_touched new (number (Some tolerance))) (sym same) ∙ untouched))
    ];
  }

  -- a tolerance that is none of the plan's has the number of none
  pub all_heard : (old new : CachedData) → HasHeardSome old new (length (tolerances plan)) → HasHeard parts old new lookup
  all_heard old new some = record {
    flat = some.flat;
    truths = some.truths;
    seen = some.seen;
    others = some.others;
    stayed = by;
  }
    where
      by : (tolerance : Option ℕ) → is_touched new (number tolerance) ≡ false
          → IsSameReport plan (unwrap_or parts.reports.marked []) parts.reports.reports lookup tolerance
      by None untouched = absurd (false≢true (sym untouched ∙ some.last))
      by (Some tolerance) untouched =
          let place : ℕ = position_or_len (nat_eq tolerance) (tolerances plan) in
          elim (cases_lt place (length (tolerances plan))) [
            | inl there ↦
                let same : tolerance ≡ get_or (tolerances plan) place 0 =
                eqb-true tolerance (get_or (tolerances plan) place 0) (passes_at_first (nat_eq tolerance) (tolerances plan) 0 there) in
                stayed_reads plan parts.reports lookup tolerance (subst (HasStayed parts.reports) (sym same)
                (some.stayed place there (ap (λ tolerance. is_touched new (number (Some tolerance))) (sym same) ∙ untouched)))
            | inr behind ↦
                let last : place ≡ length (tolerances plan) =
                omega (arith, behind, place_within (tolerances plan) (Some tolerance)) in
                absurd (false≢true (sym untouched
                ∙ ap (λ place. is_touched new (all_cells plan + (place * length (lookups_of plan) + lookup))) last
                ∙ some.last))
          ]
