use Rattle.std.proofs.Common.{◌≡◌, ◌+◌, ◌≤◌, true, length, map}
use Rattle.std.specs.Option.{option_copied}
use Rattle.px_script.specs.Kinds.{plan_of}
use Rattle.px_script.specs.Text.{lines_left}
use Rattle.px_script.specs.ParsedLine.{parsed_line}
use Rattle.px_script.specs.Script.{script}
use Rattle.px_script.specs.ThreadLine.{is_thread}
use Rattle.px_script.proofs.Reading.{read_on}
use Rattle.px_script.proofs.read.read_lines.Given as goal

-- what is left gives the script, behind the lines and the names that are kept; the thread is one of them; and no line is lost
-- or added
abbrev pub invariant-loop-left : goal.invariant-loop-left
invariant-loop-left l = record {
  reads : read_on l.lines.lines l.names l.thread (l.number + 1) (map (parsed_line (plan_of l.kinds)) (lines_left (option_copied l.left))) ≡ script (plan_of l.kinds) l.bytes;
  named : is_thread l.thread ≡ true;
  counted : l.number + length (lines_left (option_copied l.left)) ≤ 16777217;
}

abbrev pub decreases-loop-left : goal.decreases-loop-left
decreases-loop-left l = length (lines_left (option_copied l.left))
