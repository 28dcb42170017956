use Rattle.std.proofs.Common.{rules}
use Rattle.px_script.proofs.Quotes.{list_goes_on, opened_by}
use Rattle.px_script.proofs.value.ends_with_its_quote.Goals as goal

pub loop-rest-init : goal.loop-rest-init
loop-rest-init c = record {
  within = λ h. cc;
  left = λ content behind h. opened_by c.args.bytes.now content behind h;
}

pub loop-rest-preserved : goal.loop-rest-preserved
loop-rest-preserved c = record {
  within = search rules;
  left = λ content behind h.
      let left = c.loop-rest.invariant.left content behind h in
      rw c.behind-quoting.ensures (list_goes_on c.loop-rest.quoting c.loop-rest.rest.now left.0 behind c.loop-rest.invariant.within c.in-len1-up.len_at_least left.1);
}
