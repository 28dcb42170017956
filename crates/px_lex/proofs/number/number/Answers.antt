use Rattle.std.proofs.Common.{◌≡◌, false, true, refl, sym, ◌∙◌}
use Rattle.std.specs.Str.Parse.{digits_value}
use Rattle.px_lex.specs.Number.{IsNumber, is_numeral, is_fraction}
use Rattle.px_lex.proofs.Numbers.{numeral_none, numeral_some, real_number, bad_number, large_number}
use Rattle.px_lex.proofs.Words.{number_of_run}
use Rattle.px_lex.proofs.number.number.Goals as goal

pub returns-then-is_fraction-clause-fault : goal.returns-then-is_fraction-clause-fault
returns-then-is_fraction-clause-fault c =
    let run = c.split_run.result.0.now in
    let rest = c.split_run.result.1.now in
    let number : IsNumber run rest = number_of_run c.args.text.now run rest c.requires c.split_run.ensures.whole c.split_run.ensures.run c.split_run.ensures.longest in
    (refl, real_number c.args.text.now run rest c.split_run.ensures.whole number (sym (rw (c.as_bytes.ensures.value, c.as_bytes-2.ensures.value) at c.if-is_fraction.ensures)))

pub returns-then-not-is_numeral-clause-fault : goal.returns-then-not-is_numeral-clause-fault
returns-then-not-is_numeral-clause-fault c =
    let run = c.split_run.result.0.now in
    let rest = c.split_run.result.1.now in
    let number : IsNumber run rest = number_of_run c.args.text.now run rest c.requires c.split_run.ensures.whole c.split_run.ensures.run c.split_run.ensures.longest in
    let whole : is_fraction run rest ≡ false = sym (rw (c.as_bytes.ensures.value, c.as_bytes-2.ensures.value) at c.if-is_fraction.ensures) in
    let digits : is_numeral c.digits_of-base.result.1 c.digits_of-base.result.0.now ≡ false = sym (rw c.as_bytes-3.ensures.value at c.if-not-is_numeral.ensures) in
    (refl, bad_number c.args.text.now run rest c.split_run.ensures.whole number whole (c.digits_of-base.ensures.digits ∙ numeral_none c.digits_of-base.result.1 c.digits_of-base.result.0.now digits))

pub returns-in-None-clause-fault : goal.returns-in-None-clause-fault
returns-in-None-clause-fault c =
    let run = c.split_run.result.0.now in
    let rest = c.split_run.result.1.now in
    let number : IsNumber run rest = number_of_run c.args.text.now run rest c.requires c.split_run.ensures.whole c.split_run.ensures.run c.split_run.ensures.longest in
    let whole : is_fraction run rest ≡ false = sym (rw (c.as_bytes.ensures.value, c.as_bytes-2.ensures.value) at c.if-is_fraction.ensures) in
    let digits : is_numeral c.digits_of-base.result.1 c.digits_of-base.result.0.now ≡ true = sym (rw c.as_bytes-3.ensures.value at c.if-not-is_numeral.ensures) in (
      refl,
      large_number c.args.text.now run rest (digits_value c.digits_of-base.result.1 c.digits_of-base.result.0.now) c.split_run.ensures.whole number whole
          (c.digits_of-base.ensures.digits ∙ numeral_some c.digits_of-base.result.1 c.digits_of-base.result.0.now digits)
          c.in-None.ensures,
    )
