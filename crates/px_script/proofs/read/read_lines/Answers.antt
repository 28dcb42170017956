use Rattle.std.proofs.Common.{◌≡◌, ◌+◌, ◌∷◌, length, List, ℕ, subst, sym, ap, ◌∙◌, refl, arith}
use Rattle.std.specs.Option.{option_copied}
use Rattle.px_core.specs.Plan.{Site}
use Rattle.px_script.specs.Kinds.{plan_of}
use Rattle.px_script.specs.ParsedLine.{parsed_line}
use Rattle.px_script.specs.Text.{lines_of, lines_left}
use Rattle.px_script.specs.declared.parsed_line.ParsedLine.{ParsedLine}
use Rattle.px_script.specs.declared.parsed_line.ParsedLine.TheVariants.{Thread}
use Rattle.px_script.proofs.FitLines.{IsFitParsedLine, all_fit, parsed_line_fit}
use Rattle.px_script.proofs.Texts.{few_lines}
use Rattle.px_script.proofs.Reading.{script_reads, next_line, behind_same}
use Rattle.px_script.proofs.read.read_lines.Goals as goal

pub loop-left-init : goal.loop-left-init
loop-left-init c = record {
  reads = script_reads _ _ _ c.new-lines.ensures c.new-names.ensures (all_fit (plan_of c.args.kinds.now) (lines_of c.args.bytes.now));
  named = refl;
  counted = omega (arith, few_lines c.args.bytes.now);
}

pub add_name-requires : goal.add_name-requires
add_name-requires c =
    let says : Thread c.in-Thread.named c.in-Thread.name ≡ parsed_line (plan_of c.args.kinds.now) c.split_line.result.0.now
    = sym c.in-Thread.is ∙ c.in_ok-read_line.ensures in
    (subst IsFitParsedLine (sym says) (parsed_line_fit (plan_of c.args.kinds.now) c.split_line.result.0.now)).1

pub loop-left-preserved : goal.loop-left-preserved
loop-left-preserved c =
    let plan : List Site = plan_of c.args.kinds.now in
    let line : List ℕ = c.split_line.result.0.now in
    let rest : List (List ℕ) = lines_left (option_copied c.split_line.result.1) in
    let cut : lines_left (option_copied c.loop-left.left) ≡ line ∷ rest
    = ap (λ left. lines_left (option_copied left)) c.in-Some.is ∙ c.split_line.ensures in
    let parsed : ParsedLine = Thread c.in-Thread.named c.in-Thread.name in
    let says : parsed ≡ parsed_line plan line = sym c.in-Thread.is ∙ c.in_ok-read_line.ensures in
    record {
      reads = rw c.in_ok-add_name-in-Thread.ensures.ok
          (behind_same c.loop-left.names (c.loop-left.number + 1) c.in-Thread.named c.in-Thread.name _ _ c.in_ok-add_name-in-Thread.ensures.same
          (next_line plan c.loop-left.lines.lines c.loop-left.names c.loop-left.thread (c.loop-left.number + 1) _ rest line parsed _ cut says c.loop-left.invariant.reads));
      named = (subst IsFitParsedLine (sym says) (parsed_line_fit plan line)).0;
      counted = omega (arith, ap length cut, c.loop-left.invariant.counted);
    }
