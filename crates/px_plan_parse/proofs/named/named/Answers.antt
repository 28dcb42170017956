use Rattle.std.proofs.Common.{refl, map}
use Rattle.px_value.proofs.General.{handed_on}
use Rattle.std.proofs.lemmas.Bool.{false≢true}
use Rattle.px_plan_parse.proofs.Names.{assign_begins, makes_assignment, makes_call}
use Rattle.px_plan_parse.proofs.Parts.{lack_behind, lack_first, lack_kind, lack_made, part_behind, part_made, joins_both, lack_joined, part_joined}
use Rattle.px_plan_parse.specs.Named.{Calls, Writes, written_data}
use Rattle.px_syntax.specs.Expr.{in_turn, term_of}
use Rattle.std.specs.Option.{option_map}
use Rattle.px_plan_parse.proofs.Shortests.{short_assigned, short_written}
use Rattle.px_plan_parse.proofs.Spans.{local_index}
use Rattle.px_plan_parse.proofs.named.named.Goals as goal

pub returns-in_err-args-clause-fault : goal.returns-in_err-args-clause-fault
returns-in_err-args-clause-fault c =
    handed_on _ _ _ c.from_residual.ensures.1 (lack_made
    (makes_call c.args.tokens.now c.args.from (c.if-is_sign.ensures.answer.0 refl)) c.in_err-args.ensures.fault)

pub returns-then-is_sign-clause-ok : goal.returns-then-is_sign-clause-ok
returns-then-is_sign-clause-ok c = (
  Calls (in_turn (map term_of c.in_ok-args.args.items)),
  c.call.ensures,
  part_made (makes_call c.args.tokens.now c.args.from (c.if-is_sign.ensures.answer.0 refl)) c.in_ok-args.ensures.ok,
)

pub returns-in_err-index-clause-fault : goal.returns-in_err-index-clause-fault
returns-in_err-index-clause-fault c =
    handed_on _ _ _ c.from_residual-in_err-index.ensures.1
    (lack_made (makes_assignment c.args.tokens.now c.args.from (λ has. false≢true (c.if-is_sign.ensures.answer.1 has)))
    (lack_first assign_begins short_assigned c.in_err-index.ensures.fault))

pub returns-in_err-expect-clause-fault : goal.returns-in_err-expect-clause-fault
returns-in_err-expect-clause-fault c =
    handed_on _ _ _ c.from_residual-in_err-expect.ensures.1
    (lack_made (makes_assignment c.args.tokens.now c.args.from (λ has. false≢true (c.if-is_sign.ensures.answer.1 has)))
    (lack_joined (joins_both assign_begins (local_index _) c.in_ok-index.ensures.ok)
    (lack_kind c.in_ok-index.ensures.ok.within short_written c.in_err-expect.ensures.fault)))

pub returns-in_err-value-clause-fault : goal.returns-in_err-value-clause-fault
returns-in_err-value-clause-fault c =
    handed_on _ _ _ c.from_residual-in_err-value.ensures.1
    (lack_made (makes_assignment c.args.tokens.now c.args.from (λ has. false≢true (c.if-is_sign.ensures.answer.1 has)))
    (lack_joined (joins_both assign_begins (local_index _) c.in_ok-index.ensures.ok) (lack_behind c.in_ok-expect.ensures.ok.1 c.in_err-value.ensures.fault)))

pub returns-clause-ok : goal.returns-clause-ok
returns-clause-ok c = (
  Writes (option_map term_of c.in_ok-index.index) (written_data c.in_ok-value.value),
  c.written-2.ensures,
  part_made (makes_assignment c.args.tokens.now c.args.from (λ has. false≢true (c.if-is_sign.ensures.answer.1 has)))
      (part_joined (joins_both assign_begins (local_index _) c.in_ok-index.ensures.ok) (part_behind c.in_ok-expect.ensures.ok.1 c.in_ok-value.ensures.ok)),
)
