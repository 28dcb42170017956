use Rattle.std.proofs.Common.{◌+◌, refl, sym, ◌∙◌, arith, true, false}
use Rattle.px_value.proofs.General.{handed_on}
use Rattle.px_lex.specs.declared.keyword.Keyword.TheVariants as words
use Rattle.px_lex.specs.declared.token.TokenKind.TheVariants as kinds
use Rattle.px_plan_parse.specs.declared.start.Start.TheVariants as starts
use Rattle.px_plan_parse.proofs.Globals.{lacks_here, makes_typed, no_word, worded, makes_worded}
use Rattle.px_plan_parse.proofs.Parts.{lack_behind, lack_made, part_behind, part_made, two}
use Rattle.px_plan_parse.proofs.Starts.{ends_type, here}
use Rattle.px_plan_parse.proofs.Shortests.{short_worded}
use Rattle.px_plan_parse.proofs.global.typed.Goals as goal

pub returns-in_err-name-in-Command-clause-fault : goal.returns-in_err-name-in-Command-clause-fault
returns-in_err-name-in-Command-clause-fault c =
    let is = sym c.start_at.ensures.value ∙ c.in-Command.is in
    handed_on _ _ _ c.from_residual.ensures.1 (lack_made (makes_typed c.args.tokens.now c.args.from c.args.answer c.requires.begins)
    (lack_made (ends_type worded c.args.tokens.now c.args.from c.args.answer c.requires.begins)
    (lack_made (makes_worded c.args.tokens.now (c.args.from + 1) true is)
    (lack_behind (here starts.Command (kinds.Keyword words.Command) (λ kind is_of. is_of) (λ e. cc) c.args.tokens.now (c.args.from + 1) is)
    (rw (two c.args.from) at c.in_err-name-in-Command.ensures.fault)))))

pub returns-in_ok-name-in-Command-clause-ok : goal.returns-in_ok-name-in-Command-clause-ok
returns-in_ok-name-in-Command-clause-ok c =
    let is = sym c.start_at.ensures.value ∙ c.in-Command.is in
    rw c.command.ensures (part_made (makes_typed c.args.tokens.now c.args.from c.args.answer c.requires.begins)
    (part_made (ends_type worded c.args.tokens.now c.args.from c.args.answer c.requires.begins)
    (part_made (makes_worded c.args.tokens.now (c.args.from + 1) true is)
    (part_behind (here starts.Command (kinds.Keyword words.Command) (λ kind is_of. is_of) (λ e. cc) c.args.tokens.now (c.args.from + 1) is)
    (rw (two c.args.from) at c.in_ok-name-in-Command.ensures.ok)))))

pub returns-in_err-name-in-Lookup-clause-fault : goal.returns-in_err-name-in-Lookup-clause-fault
returns-in_err-name-in-Lookup-clause-fault c =
    let is = sym c.start_at.ensures.value ∙ c.in-Lookup.is in
    handed_on _ _ _ c.from_residual-in_err-name-in-Lookup.ensures.1 (lack_made (makes_typed c.args.tokens.now c.args.from c.args.answer c.requires.begins)
    (lack_made (ends_type worded c.args.tokens.now c.args.from c.args.answer c.requires.begins)
    (lack_made (makes_worded c.args.tokens.now (c.args.from + 1) false is)
    (lack_behind (here starts.Lookup (kinds.Keyword words.Lookup) (λ kind is_of. is_of) (λ e. cc) c.args.tokens.now (c.args.from + 1) is)
    (rw (two c.args.from) at c.in_err-name-in-Lookup.ensures.fault)))))

pub returns-in_ok-name-in-Lookup-clause-ok : goal.returns-in_ok-name-in-Lookup-clause-ok
returns-in_ok-name-in-Lookup-clause-ok c =
    let is = sym c.start_at.ensures.value ∙ c.in-Lookup.is in
    rw c.lookup.ensures (part_made (makes_typed c.args.tokens.now c.args.from c.args.answer c.requires.begins)
    (part_made (ends_type worded c.args.tokens.now c.args.from c.args.answer c.requires.begins)
    (part_made (makes_worded c.args.tokens.now (c.args.from + 1) false is)
    (part_behind (here starts.Lookup (kinds.Keyword words.Lookup) (λ kind is_of. is_of) (λ e. cc) c.args.tokens.now (c.args.from + 1) is)
    (rw (two c.args.from) at c.in_ok-name-in-Lookup.ensures.ok)))))

pub returns-in_default-clause-fault : goal.returns-in_default-clause-fault
returns-in_default-clause-fault c =
    lack_made (makes_typed c.args.tokens.now c.args.from c.args.answer c.requires.begins)
    (lack_made (ends_type worded c.args.tokens.now c.args.from c.args.answer c.requires.begins)
    (lacks_here c.args.tokens.now (c.args.from + 1) _ refl (omega (arith, c.requires.place)) short_worded
    (no_word c.args.tokens.now (c.args.from + 1) (λ is. c.in_default.not-Command (c.start_at.ensures.value ∙ is))
    (λ is. c.in_default.not-Lookup (c.start_at.ensures.value ∙ is)))))
