use Rattle.std.proofs.Common.{◌-◌, length, refl, rules}
use Rattle.std.proofs.lemmas.Result.{err_from_is_err_and}
use Rattle.px_lex.proofs.Pieces.{step_gap, step_token, fail}
use Rattle.px_lex.proofs.lexer.lex.Goals as goal

pub returns-in_err-kind-clause-fault : goal.returns-in_err-kind-clause-fault
returns-in_err-kind-clause-fault c =
    let p = err_from_is_err_and c.from_residual.result c.from_residual.ensures.1 in
    rw (p.1, p.2) (fail c.args.text.now c.loop-rest.rest.now c.loop-rest.tokens.items c.in_err-kind.field-0.0 c.loop-rest.invariant.so_far c.in_err-kind.ensures.fault)

pub loop-rest-preserved-in_ok-map_err : goal.loop-rest-preserved-in_ok-map_err
loop-rest-preserved-in_ok-map_err c =
    record {
      so_far = step_token c.args.text.now c.loop-rest.rest.now c.in_ok-kind.behind.now c.loop-rest.tokens.items c.push.new.self.items (length c.args.text.now - length c.loop-rest.rest.now) c.in_ok-kind.kind c.in-Some.kind c.loop-rest.invariant.so_far c.in_ok-kind.ensures.ok c.in-Some.is refl (search rules);
      utf8 = search rules;
    }

pub loop-rest-preserved : goal.loop-rest-preserved
loop-rest-preserved c =
    record {
      so_far = step_gap c.args.text.now c.loop-rest.rest.now c.in_ok-kind.behind.now c.loop-rest.tokens.items c.in_ok-kind.kind c.loop-rest.invariant.so_far c.in_ok-kind.ensures.ok c.in_default.is;
      utf8 = search rules;
    }
