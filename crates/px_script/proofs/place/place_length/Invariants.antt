use Rattle.std.proofs.Common.{◌≡◌, ◌≤◌, ◌+◌, length}
use Rattle.px_script.specs.Place.{place_length}
use Rattle.px_script.specs.declared.place.Quoting.TheVariants.{Outside}
use Rattle.px_script.proofs.place.place_length.Given as goal

-- what is passed, and what is left of the place, make the place
abbrev pub invariant-loop-rest : goal.invariant-loop-rest
invariant-loop-rest l = record {
  place : length l.text + place_length l.quoting l.rest ≡ length l.rest + place_length Outside l.text;
  within : length l.rest ≤ length l.text;
}

abbrev pub decreases-loop-rest : goal.decreases-loop-rest
decreases-loop-rest l = length l.rest
