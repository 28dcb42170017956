use Rattle.std.proofs.Common.{map, sym, subst}
use Rattle.std.specs.String.{string_bytes}
use Rattle.px_output.specs.View.{view}
use Rattle.px_run.specs.Causes.{IsHandedBack}
use Rattle.px_run.specs.Headline.{Headline}
use Rattle.px_ending.specs.Statuses.{number_of}
use Rattle.px_run.proofs.Delivering.{done_delivered, fault_delivered, memory_delivered, refusal_delivered}
use Rattle.px_run.proofs.Returning.{done_handed_back, stop_handed_back, refusal_handed_back}
use Rattle.px_run.proofs.top.ended.Goals as goal
use Rattle.px_run.proofs.top.ended.Goals.{in-Ok, in-Err-Refused, in-Err-SinkFailed, in-Err-NoMemory}

pub returns-clause-headline : goal.returns-clause-headline
returns-clause-headline g c =
    let words = map string_bytes c.args.words.now in
    let before = view g.H.Host c.args.host.now in
    let mid = view g.H.Host c.carry_out-result.new.host in
    let carried = c.carry_out-result.result in
    let performed = c.carry_out-result.ensures.performs in
    let delivers : Headline g.D.Disk words before (view g.H.Host c.match-result.host) c.args.disk carried.disk (number_of c.match-result.status) =
    elim c.match-result.branch [
      | in-Ok w ↦ rw (w.host-is, w.status-is, w.status-status.ensures) (done_delivered g.D.Disk words before mid c.args.disk carried performed w.in-Ok.end w.in-Ok.is)
      | in-Err-Refused w ↦ rw (w.host-is, w.status-is) (refusal_delivered g.D.Disk words before mid c.args.disk carried performed w.in-Err-Refused.refusal
          (view g.H.Host w.refuse-status.new.host) (number_of w.refuse-status.result) _ w.in-Err-Refused.is (rw w.in-Err-Refused.is at w.in-Err-Refused.field-0-is)
          c.carry_out-result.ensures.keeps w.refuse-status.ensures.delivers w.refuse-status.ensures.only)
      | in-Err-SinkFailed w ↦ rw (w.host-is, w.status-is) (fault_delivered g.D.Disk words before mid c.args.disk carried performed _ w.in-Err-SinkFailed.is (rw w.in-Err-SinkFailed.is at w.in-Err-SinkFailed.field-0-is))
      | in-Err-NoMemory w ↦ rw (w.host-is, w.status-is) (memory_delivered g.D.Disk words before mid c.args.disk carried performed _ w.in-Err-NoMemory.is (rw w.in-Err-NoMemory.is at w.in-Err-NoMemory.field-0-is))
    ] in
    subst (Headline g.D.Disk words before (view g.H.Host c.match-result.host) c.args.disk carried.disk) (sym c.number.ensures) delivers

pub returns-clause-handed_back : goal.returns-clause-handed_back
returns-clause-handed_back g c =
    let carried = c.carry_out-result.result in
    let back = c.carry_out-result.ensures.performs.back in
    let handed : IsHandedBack g.D.Disk c.args.disk carried.disk (number_of c.match-result.status) =
    elim c.match-result.branch [
      | in-Ok w ↦ done_handed_back g.D.Disk c.args.disk carried back _ w.in-Ok.end w.in-Ok.is
      | in-Err-Refused w ↦ rw w.status-is (refusal_handed_back g.D.Disk c.args.disk carried back _ _ w.in-Err-Refused.refusal _ _ w.in-Err-Refused.is
          (rw w.in-Err-Refused.is at w.in-Err-Refused.field-0-is) w.refuse-status.ensures.delivers)
      | in-Err-SinkFailed w ↦ stop_handed_back g.D.Disk c.args.disk carried back _ _ _ w.in-Err-SinkFailed.is
          (rw w.in-Err-SinkFailed.is at w.in-Err-SinkFailed.field-0-is) (λ same. absurd (cc))
      | in-Err-NoMemory w ↦ stop_handed_back g.D.Disk c.args.disk carried back _ _ _ w.in-Err-NoMemory.is
          (rw w.in-Err-NoMemory.is at w.in-Err-NoMemory.field-0-is) (λ same. absurd (cc))
    ] in
    subst (IsHandedBack g.D.Disk c.args.disk carried.disk) (sym c.number.ensures) handed
