use Rattle.px_script.proofs.Cuts.{cut_place}
use Rattle.px_script.proofs.place.split_place.Goals as goal

pub split_at-requires : goal.split_at-requires
split_at-requires c = rw (c.place_length.ensures.place, c.as_bytes.ensures.value) (cut_place c.args.text.now)
