-- What the code keeps of a set line, as data.
use Rattle.std.specs.Borrow.{Bor}
use Rattle.std.specs.Prelude.{ℕ, List, map}
use Rattle.px_script.specs.SetLine.{Setting}
use Rattle.px_script.specs.declared.set_line.Setting.{Setting as KeptSetting}

abbrev pub places_of : List (Bor (List ℕ)) → List (List ℕ)
places_of places = map (λ place. place.now) places

abbrev pub setting_data : KeptSetting → Setting
setting_data setting =
    record { name = setting.name.now; args = places_of setting.args.items; value = setting.value.now }
