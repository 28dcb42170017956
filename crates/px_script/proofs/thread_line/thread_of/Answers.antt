use Rattle.std.proofs.Common.{◌≡◌, ap, rules, subst, List, ℕ}
use Rattle.std.specs.Result.{result_ok}
use Rattle.std.specs.Str.Parse.{ParsesUnsigned}
use Rattle.px_script.proofs.Digits.{digits_text, unread}
use Rattle.px_script.proofs.thread_line.thread_of.Goals as goal

pub returns-in_default : goal.returns-in_default
returns-in_default c = absurd (c.in_default.ensures.cases.0 (digits_text c.args.digits.now c.requires))

pub returns-in_default-parse-2 : goal.returns-in_default-parse-2
returns-in_default-parse-2 c =
    let same : c.in-Ok.text.now ≡ c.args.digits.now = search rules in
    unread c.args.digits.now c.parse.result c.requires (subst (λ (text : List ℕ). ParsesUnsigned 8 10 text c.parse.result) same c.parse.ensures.value.0)
    (ap result_ok c.in_default-parse.is)
