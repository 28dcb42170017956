use Rattle.std.proofs.Common.{◌≡◌, ◌++◌, map, drop}
use Rattle.std.specs.Option.{option_map}
use Rattle.px_script.specs.SetLine.{all_values}
use Rattle.px_script.specs.Setting.{places_of}
use Rattle.px_script.specs.Value.{argument_of}
use Rattle.px_script.proofs.set_line.arguments_of.Given as goal

-- the values so far, before those of the places that are left, are all
abbrev pub invariant-loop-place : goal.invariant-loop-place
invariant-loop-place l =
    option_map (λ values. l.values.items ++ values) (all_values (map argument_of (places_of (drop l.place-index l.places))))
    ≡ all_values (map argument_of (places_of l.places))
