-- The places that moves write.
use Rattle.std.specs.Prelude.{Option, Some, None}
use Rattle.std.specs.Option.{option_map}
use Rattle.px_value.specs.Value.{place_in}
use Rattle.px_sem.specs.World as world
use Rattle.px_flat.specs.Numbered.{Numbered, TargetNumbered}
use Rattle.px_parts.specs.declared.parts.Parts.{Parts}
use Rattle.px_micro.specs.declared.places.Place.{Place}
use Rattle.px_micro.specs.declared.places.Place.TheVariants as places
use Rattle.px_parts.specs.Parts.{value_in}

-- a place as the semantics has it
abbrev pub place_data : Place → world.Place
place_data places.Whole = world.Whole
place_data (places.Element index) = world.Element index

-- the place of a numbered target, whose index is taken now; none where an array does not have the index
abbrev pub place_now : Parts → TargetNumbered → Option Place
place_now parts target = at target.index
  where
    at : Option Numbered → Option Place
    at None = Some places.Whole
    at (Some index) = option_map places.Element (place_in target.place.size (value_in parts index))
