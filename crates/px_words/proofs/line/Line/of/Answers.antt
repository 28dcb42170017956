use Rattle.std.proofs.Common.{◌≡◌, ◌∙◌, ap, rules, codes, Some, None}
use Rattle.std.specs.Option.{option_map}
use Rattle.clap.specs.Words.{first_value, found_of}
use Rattle.px_words.specs.Limited.{count_of}
use Rattle.px_words.specs.Listed.{listed}
use Rattle.px_words.proofs.Found.{line_by}
use Rattle.px_words.proofs.line.Line.of.Goals as goal
use Rattle.px_words.proofs.line.Line.of.Goals.{in-Some+in_ok-limit-in-Some, in-None}

pub returns-in_err-limit-in-Some : goal.returns-in_err-limit-in-Some
returns-in_err-limit-in-Some c =
    let given : Some c.in-Some.number.now ≡ first_value (found_of c.args.found) (codes "events") = search rules in
    let none : None ≡ count_of c.in-Some.number.now = search rules in
    ap (option_map listed) c.from_residual.ensures ∙ line_by (found_of c.args.found) (Some c.in-Some.number.now) None given none

pub returns : goal.returns
returns c = elim c.match-get_str.branch [
  | in-Some+in_ok-limit-in-Some w ↦ line_by (found_of c.args.found) (Some w.in-Some.number.now) (Some c.match-get_str.limit) (search rules) (search rules)
  | in-None w ↦ line_by (found_of c.args.found) None (Some c.match-get_str.limit) (search rules) (search rules)
]
