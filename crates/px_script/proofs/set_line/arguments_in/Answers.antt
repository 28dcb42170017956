use Rattle.std.proofs.Common.{rules, sym, ◌∙◌, arith, length}
use Rattle.std.proofs.lemmas.List.{length_push}
use Rattle.px_script.specs.SetLine.{arguments_in}
use Rattle.px_script.specs.Setting.{places_of}
use Rattle.px_script.proofs.Settings.{reading_all, comma_kept, close_step, places_push}
use Rattle.px_script.proofs.set_line.arguments_in.Goals as goal

pub loop-text-init : goal.loop-text-init
loop-text-init c = record {
  read = rw c.new-args.ensures.items (reading_all (arguments_in 8 c.args.text.now));
  few = rw c.new-args.ensures.items (omega arith);
  utf8 = c.utf8.text;
}

pub split_place-requires-text-text : goal.split_place-requires-text-text
split_place-requires-text-text c κs = c.loop-text.invariant.utf8

pub returns-in-Some : goal.returns-in-Some
returns-in-Some c =
    rw (c.in_ok-push.ensures.items, places_push c.loop-text.args.items c.split_place.result.0, c.split_place.ensures.place)
    (close_step (places_of c.loop-text.args.items) (length c.loop-text.args.items) c.loop-text.text.now c.in-Some.behind.now (search rules)
    (rw c.split_place.ensures.behind at (sym c.in-Some.ensures)))
    ∙ c.loop-text.invariant.read

pub loop-text-preserved : goal.loop-text-preserved
loop-text-preserved c = record {
  read =
      comma_kept c.loop-text.args.items c.push.new.self.items c.split_place.result.0 c.loop-text.text.now c.in-Some-behind_sign.more.now
      c.in_ok-push.ensures.items c.split_place.ensures.place (search rules) (rw c.split_place.ensures.behind at (sym c.in-Some-behind_sign.ensures))
      ∙ c.loop-text.invariant.read;
  few = rw c.in_ok-push.ensures.items (omega (arith, length_push c.loop-text.args.items c.split_place.result.0));
  utf8 = search rules;
}
