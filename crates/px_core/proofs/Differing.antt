-- Sites of which no two have one path.
use Rattle.std.proofs.Common.{◌≢◌, List, [], ◌∷◌}
use Rattle.std.specs.List.{AllByRecursion as Each}
use Rattle.px_core.specs.Plan.{Site}

abbrev pub Differ : List Site → Type 0
Differ [] = Unit {0}
Differ (site ∷ sites) = Each (λ other. site.path ≢ other.path) sites × Differ sites
