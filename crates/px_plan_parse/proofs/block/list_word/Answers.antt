use Rattle.std.proofs.Common.{◌+◌, refl, sym, subst, arith}
use Rattle.px_value.proofs.General.{handed_on}
use Rattle.std.proofs.lemmas.Bool.{false≢true}
use Rattle.px_lex.specs.declared.keyword.Keyword.TheVariants as words
use Rattle.px_lex.specs.declared.token.TokenKind.TheVariants as kinds
use Rattle.px_plan_parse.specs.declared.start.Start.TheVariants as starts
use Rattle.px_syntax.specs.declared.word.BlockForm.{BlockForm}
use Rattle.px_syntax.specs.declared.word.BlockForm.TheVariants as forms
use Rattle.px_plan_parse.specs.Part.{IsLacking, IsPart}
use Rattle.px_plan_parse.specs.Start.{NoListWord}
use Rattle.px_plan_parse.specs.Tail.{list_word}
use Rattle.std.proofs.Common.{Option}
use Rattle.px_plan_parse.proofs.Blocks.{list_absent, list_given, list_lacks, list_present}
use Rattle.px_plan_parse.proofs.Starts.{here}
use Rattle.px_plan_parse.proofs.block.list_word.Goals as goal

pub returns-in-Some-clause-ok : goal.returns-in-Some-clause-ok
returns-in-Some-clause-ok c =
    subst (λ (word : Option BlockForm). IsPart (list_word word) NoListWord c.args.tokens.now c.args.from c.in-Some.form c.args.from)
    (sym c.in-Some.is) (list_given c.args.tokens.now c.args.from c.in-Some.form c.requires)

pub returns-then-not-begins-clause-ok : goal.returns-then-not-begins-clause-ok
returns-then-not-begins-clause-ok c =
    subst (λ (word : Option BlockForm). IsPart (list_word word) NoListWord c.args.tokens.now c.args.from forms.Plain c.args.from)
    (sym c.in_default.is)
    (list_absent c.args.tokens.now c.args.from c.requires (λ is. false≢true (c.if-not-begins.ensures.answer.1 is)))

pub returns-in_err-expect-clause-fault : goal.returns-in_err-expect-clause-fault
returns-in_err-expect-clause-fault c =
    let is = c.if-not-begins.ensures.answer.0 refl in
    handed_on _ _ _ c.from_residual.ensures.1 (subst
    (λ (word : Option BlockForm). IsLacking (list_word word) NoListWord c.args.tokens.now c.args.from c.in_err-expect.field-0.0)
    (sym c.in_default.is)
    (list_lacks c.args.tokens.now c.args.from is (here starts.NodeList (kinds.Keyword words.NodeList) (λ kind is_of. is_of)
    (λ e. cc) c.args.tokens.now c.args.from is) (omega (arith, c.if-not-begins.ensures.inside refl (λ e. cc))) c.in_err-expect.ensures.fault))

pub returns-clause-ok : goal.returns-clause-ok
returns-clause-ok c =
    let is = c.if-not-begins.ensures.answer.0 refl in
    subst (λ (word : Option BlockForm). IsPart (list_word word) NoListWord c.args.tokens.now c.args.from forms.NodeList (c.args.from + 2))
    (sym c.in_default.is)
    (list_present c.args.tokens.now c.args.from is
    (here starts.NodeList (kinds.Keyword words.NodeList) (λ kind is_of. is_of) (λ e. cc) c.args.tokens.now c.args.from is)
    c.in_ok-expect.ensures.ok.0 c.in_ok-expect.ensures.ok.1)
