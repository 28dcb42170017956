use Rattle.px_parts.proofs.Stepped.{same_stand}
use Rattle.px_machine.proofs.Gone.{others_still}
use Rattle.px_machine.proofs.stepping.goers.Goals as goal

pub returns-clause-chosen : goal.returns-clause-chosen
returns-clause-chosen c =
    let parts = c.notice.new.parts in
    let look = c.in_ok-look.ensures in
    record {
      all = c.in_ok-contest.ensures;
      nobody = look.now.nobody;
      others =
          others_still parts c.look.new.kept c.look.new.going.items c.contest.new.going.items
          (same_stand c.args.parts.now parts c.notice.ensures.same c.requires.ready.stand) look.right look.now look.looked
          c.in_ok-contest.ensures;
    }
