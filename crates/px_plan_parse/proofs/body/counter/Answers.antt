use Rattle.std.proofs.Common.{◌≡◌, ℕ, ◌+◌, refl, sym, subst, arith}
use Rattle.px_value.proofs.General.{handed_on}
use Rattle.std.proofs.lemmas.Bool.{false≢true}
use Rattle.px_lex.specs.declared.keyword.Keyword.TheVariants as words
use Rattle.px_lex.specs.declared.token.TokenKind.TheVariants as kinds
use Rattle.px_plan_parse.specs.declared.start.Start.TheVariants as starts
use Rattle.px_syntax.specs.declared.word.TypeName.TheVariants as types
use Rattle.px_plan_parse.specs.Part.{Anything, IsPart}
use Rattle.px_plan_parse.specs.Tail.{counter}
use Rattle.std.proofs.lemmas.Int.{to_z-of_z}
use Rattle.std.proofs.Common.{ℤ}
use mir.Syntax.{w32}
use mir.Val.{SFits, of_z, to_z}
use Rattle.px_plan_parse.proofs.Parts.{lack_before, lack_behind, lack_kind, lack_token, of_found, part_before, part_behind, two, joins_both, lack_joined, part_joined}
use Rattle.px_plan_parse.proofs.Starts.{here, start_keyword}
use Rattle.px_expr_parse.proofs.Spans.{local_identifier}
use Rattle.px_plan_parse.proofs.Shortests.{short_counted}
use Rattle.px_plan_parse.proofs.Spans.{local_signed}
use Rattle.px_expr_parse.proofs.Completions.{short_behind}
use Rattle.px_plan_parse.proofs.Shortests.{short_first}
use Rattle.px_plan_parse.proofs.Parts.{lack_first, of_missing}
use Rattle.px_lex.specs.declared.sign.Sign.TheVariants as signs
use Rattle.px_syntax.specs.Form.{identifier}
use Rattle.px_plan_parse.specs.Start.{keyword_start}
use Rattle.px_plan_parse.proofs.body.counter.Goals as goal

three : (n : ℕ) → n + 3 ≡ n + 2 + 1
three n = omega arith

four : (n : ℕ) → n + 4 ≡ n + 3 + 1
four n = omega arith

pub returns-then-not-begins-clause-fault : goal.returns-then-not-begins-clause-fault
unfolding keyword_start
returns-then-not-begins-clause-fault c =
    lack_behind c.in_ok-expect.ensures.ok.1 (lack_kind (omega (arith, c.in_ok-expect.ensures.ok.0)) short_counted
    (refl, λ has. false≢true (c.if-not-begins.ensures.answer.1 (start_keyword c.args.tokens.now (c.args.from + 1) words.Integer has))))

pub returns-in_err-first-clause-fault : goal.returns-in_err-first-clause-fault
returns-in_err-first-clause-fault c =
    handed_on _ _ _ c.from_residual-in_err-first.ensures.1
    (lack_behind c.in_ok-expect.ensures.ok.1 (lack_behind
    (here (starts.Type types.Integer) (kinds.Keyword words.Integer) (λ kind is_of. is_of) (λ e. cc) c.args.tokens.now (c.args.from + 1)
    (c.if-not-begins.ensures.answer.0 refl)) (rw (sym (two c.args.from)) (
    lack_joined (joins_both (λ others part from end o next. tt) (local_identifier _) (of_found Anything c.in_ok-variable.ensures.ok))
    (rw (sym (three c.args.from)) (lack_behind c.in_ok-expect-2.ensures.ok.1 (lack_before {Next = Anything} (λ others place is. tt)
    (rw (four c.args.from) at c.in_err-first.ensures.fault))))))))

pub returns-in_err-expect-3-clause-fault : goal.returns-in_err-expect-3-clause-fault
returns-in_err-expect-3-clause-fault c =
    handed_on _ _ _ c.from_residual-in_err-expect-3.ensures.1
    (lack_behind c.in_ok-expect.ensures.ok.1 (lack_behind
    (here (starts.Type types.Integer) (kinds.Keyword words.Integer) (λ kind is_of. is_of) (λ e. cc) c.args.tokens.now (c.args.from + 1)
    (c.if-not-begins.ensures.answer.0 refl)) (rw (sym (two c.args.from)) (
    lack_joined (joins_both (λ others part from end o next. tt) (local_identifier _) (of_found Anything c.in_ok-variable.ensures.ok))
    (rw (sym (three c.args.from)) (lack_behind c.in_ok-expect-2.ensures.ok.1 (lack_token {Next = Anything} (λ others place is. tt) (local_signed _)
    (rw (four c.args.from) at c.in_ok-first.ensures.ok) c.in_err-expect-3.ensures.fault)))))))

pub returns-clause-ok : goal.returns-clause-ok
returns-clause-ok c =
    let same : to_z w32 (of_z w32 c.in_ok-first.first) ≡ c.in_ok-first.first = to_z-of_z w32 c.in_ok-first.first c.in_ok-first.ensures.fits in
    subst (λ (first : ℤ). IsPart counter Anything c.args.tokens.now c.args.from (c.in_ok-variable.variable, first) (c.in_ok-first.end + 1)) (sym same)
    (part_behind c.in_ok-expect.ensures.ok.1
    (part_behind (here (starts.Type types.Integer) (kinds.Keyword words.Integer) (λ kind is_of. is_of) (λ e. cc) c.args.tokens.now (c.args.from + 1)
    (c.if-not-begins.ensures.answer.0 refl))
    (rw (sym (two c.args.from)) (
    part_joined (joins_both (λ others part from end o next. tt) (local_identifier _) (of_found Anything c.in_ok-variable.ensures.ok))
    (rw (sym (three c.args.from)) (part_behind c.in_ok-expect-2.ensures.ok.1
    (part_before {Next = Anything} (λ others place is. tt) (local_signed _) c.in_ok-expect-3.ensures.ok.0
    (rw (four c.args.from) at c.in_ok-first.ensures.ok) c.in_ok-expect-3.ensures.ok.1)))))))

pub returns-clause-fits : goal.returns-clause-fits
returns-clause-fits c =
    let same : to_z w32 (of_z w32 c.in_ok-first.first) ≡ c.in_ok-first.first = to_z-of_z w32 c.in_ok-first.first c.in_ok-first.ensures.fits in
    subst (λ (first : ℤ). SFits w32 first) (sym same) c.in_ok-first.ensures.fits

pub returns-in_err-expect-clause-fault : goal.returns-in_err-expect-clause-fault
returns-in_err-expect-clause-fault c =
    handed_on _ _ _ c.from_residual.ensures.1 (lack_kind c.requires (short_behind (kinds.Keyword words.Integer) short_counted) c.in_err-expect.ensures.fault)

pub returns-in_err-variable-clause-fault : goal.returns-in_err-variable-clause-fault
returns-in_err-variable-clause-fault c =
    handed_on _ _ _ c.from_residual-in_err-variable.ensures.1
    (lack_behind c.in_ok-expect.ensures.ok.1 (lack_behind
    (here (starts.Type types.Integer) (kinds.Keyword words.Integer) (λ kind is_of. is_of) (λ e. cc) c.args.tokens.now (c.args.from + 1)
    (c.if-not-begins.ensures.answer.0 refl)) (rw (sym (two c.args.from)) (
    lack_first {Next = Anything} (λ others part from end o next. tt) (short_behind (kinds.Sign signs.Assign) short_first)
    (of_missing identifier c.args.tokens.now (c.args.from + 2) c.in_err-variable.field-0.0 Anything c.in_err-variable.ensures.fault)))))

pub returns-in_err-expect-2-clause-fault : goal.returns-in_err-expect-2-clause-fault
returns-in_err-expect-2-clause-fault c =
    handed_on _ _ _ c.from_residual-in_err-expect-2.ensures.1
    (lack_behind c.in_ok-expect.ensures.ok.1 (lack_behind
    (here (starts.Type types.Integer) (kinds.Keyword words.Integer) (λ kind is_of. is_of) (λ e. cc) c.args.tokens.now (c.args.from + 1)
    (c.if-not-begins.ensures.answer.0 refl)) (rw (sym (two c.args.from)) (
    lack_joined (joins_both (λ others part from end o next. tt) (local_identifier _) (of_found Anything c.in_ok-variable.ensures.ok))
    (rw (sym (three c.args.from)) (lack_kind (omega (arith, c.in_ok-variable.ensures.ok.within)) short_first c.in_err-expect-2.ensures.fault))))))
