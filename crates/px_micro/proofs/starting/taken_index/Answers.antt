use Rattle.std.proofs.Common.{ap}
use Rattle.std.specs.Option.{option_map}
use Rattle.px_flat.specs.NumberedData.{target_data}
use Rattle.px_micro.proofs.starting.taken_index.Goals as goal

pub place_of-requires-clause-within : goal.place_of-requires-clause-within
place_of-requires-clause-within c =
    c.requires.taken (target_data c.in-Some.target) (ap (option_map target_data) c.in-Some.is)
