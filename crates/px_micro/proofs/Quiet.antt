-- A world is quiet exactly where no node goes.
use Rattle.std.proofs.Common.{◌≡◌, ◌≢◌, true, false, List, [], ◌∷◌, length, refl, ap, ◌∙◌, arith, is_none}
use Rattle.std.proofs.lemmas.List.{get_or_default}
use Rattle.std.proofs.lemmas.List.Folds.{list_all_at}
use Rattle.std.proofs.lemmas.List.Sums.{list_all-from_AllPass}
use Rattle.px_core.specs.Plan.{Site, no_site}
use Rattle.px_sem.specs.Conflicts.{transition, is_quiet}
use Rattle.px_sem.specs.World.{World}
use Rattle.px_micro.specs.declared.sight.Going.{Going}
use Rattle.px_micro.specs.Going.{AreAllGoing}
use Rattle.px_micro.proofs.Goers.{stays}

pub quiet : (plan : List Site) (now : World) (ones : List Going) → AreAllGoing plan now ones → length ones ≡ 0
    → is_quiet plan now ≡ true
quiet plan now (one ∷ ones) go none = absurd (omega (arith, none))
quiet plan now [] go none = list_all-from_AllPass (λ site. is_none (transition plan now site)) plan (λ k d within.
    ap (λ site. is_none (transition plan now site)) (get_or_default plan k d no_site within)
    ∙ ap is_none (stays plan now [] k go within refl))

pub loud : (plan : List Site) (now : World) (ones : List Going) → AreAllGoing plan now ones → length ones ≢ 0
    → is_quiet plan now ≡ false
loud plan now [] go some = absurd (some refl)
loud plan now (one ∷ ones) go some =
    list_all_at (λ site. is_none (transition plan now site)) plan one.node no_site (go.within 0 one (omega arith))
    (ap is_none (go.each 0 one (omega arith)))
