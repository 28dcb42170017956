use Rattle.std.proofs.Common.{refl}
use Rattle.std.proofs.lemmas.Bool.{false≢true}
use Rattle.px_lex.specs.declared.keyword.Keyword.TheVariants as words
use Rattle.px_lex.specs.declared.token.TokenKind.TheVariants as kinds
use Rattle.px_plan_parse.specs.declared.start.Start.TheVariants as starts
use Rattle.px_plan_parse.specs.Start.{keyword_start}
use Rattle.px_plan_parse.proofs.Bodies.{end_no_branch}
use Rattle.px_plan_parse.proofs.Parts.{optional_absent, optional_present}
use Rattle.px_plan_parse.proofs.Starts.{here, start_keyword}
use Rattle.px_plan_parse.proofs.body.end_if.Goals as goal

pub returns-then-begins : goal.returns-then-begins
returns-then-begins c =
    optional_present end_no_branch (c.if-begins.ensures.inside refl (λ e. cc))
    (here starts.EndIf (kinds.Keyword words.EndIf) (λ kind is_of. is_of) (λ e. cc) c.args.tokens.now c.args.from (c.if-begins.ensures.answer.0 refl))

pub returns-else-begins : goal.returns-else-begins
unfolding keyword_start
returns-else-begins c =
    optional_absent c.requires
    (λ has. false≢true (c.if-begins.ensures.answer.1 (start_keyword c.args.tokens.now c.args.from words.EndIf has)))
