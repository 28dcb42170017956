use Rattle.std.proofs.Common.{refl, sym, ap, ◌∙◌}
use Rattle.px_value.proofs.General.{handed_on}
use Rattle.px_lex.specs.declared.keyword.Keyword.TheVariants as words
use Rattle.px_lex.specs.declared.token.TokenKind.TheVariants as kinds
use Rattle.px_plan_parse.specs.declared.start.Start.TheVariants as starts
use Rattle.px_syntax.specs.PlanGrammar.{declaration}
use Rattle.px_plan_parse.specs.Start.{is_declaration}
use Rattle.px_plan_parse.proofs.Globals.{lacks_here, makes_command, not_declaration, declaration_starts}
use Rattle.px_plan_parse.proofs.Parts.{lack_behind, lack_made, part_behind, part_made}
use Rattle.px_plan_parse.proofs.Starts.{here, not_there}
use Rattle.px_plan_parse.proofs.Shortests.{short_declaration}
use Rattle.px_plan_parse.proofs.global.declaration.Goals as goal

pub returns-in_err-name-in-Command-clause-fault : goal.returns-in_err-name-in-Command-clause-fault
returns-in_err-name-in-Command-clause-fault c =
    let is = sym c.start_at.ensures.value ∙ c.in-Command.is in
    handed_on _ _ _ c.from_residual.ensures.1 (lack_made (makes_command c.args.tokens.now c.args.from is)
    (lack_behind (here starts.Command (kinds.Keyword words.Command) (λ kind is_of. is_of)
    (λ e. cc) c.args.tokens.now c.args.from is) c.in_err-name-in-Command.ensures.fault))

pub returns-in_ok-name-in-Command-clause-ok : goal.returns-in_ok-name-in-Command-clause-ok
returns-in_ok-name-in-Command-clause-ok c =
    let is = sym c.start_at.ensures.value ∙ c.in-Command.is in
    rw c.command.ensures (part_made (makes_command c.args.tokens.now c.args.from is)
    (part_behind (here starts.Command (kinds.Keyword words.Command) (λ kind is_of. is_of) (λ e. cc) c.args.tokens.now c.args.from is)
    c.in_ok-name-in-Command.ensures.ok))

pub returns-in_default-clause-fault : goal.returns-in_default-clause-fault
returns-in_default-clause-fault c =
    lacks_here c.args.tokens.now c.args.from _ refl c.requires short_declaration
    (not_there c.args.tokens.now c.args.from declaration is_declaration declaration_starts
    (ap is_declaration (sym c.start_at.ensures.value) ∙ not_declaration c.start_at.result c.in_default.not-Command c.in_default.not-Type))
