use Rattle.std.proofs.Common.{◌≡◌, ◌-◌, ◌≤◌, length}
use Rattle.std.specs.Str.{IsUtf8}
use Rattle.px_script.specs.SetLine.{arguments_in}
use Rattle.px_script.specs.Setting.{places_of}
use Rattle.px_script.proofs.Settings.{reading}
use Rattle.px_script.proofs.set_line.arguments_in.Given as goal

-- the arguments so far, before those that are read of the text that is left, are all
abbrev pub invariant-loop-text : goal.invariant-loop-text
invariant-loop-text l = record {
  read : reading (places_of l.args.items) (8 - length l.args.items) l.text ≡ arguments_in 8 l.initial.text;
  few : length l.args.items ≤ 8;
  utf8 : IsUtf8 l.text;
}

abbrev pub decreases-loop-text : goal.decreases-loop-text
decreases-loop-text l = 8 - length l.args.items
