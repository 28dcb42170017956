use Rattle.std.proofs.Common.{arith}
use Rattle.px_journal.proofs.Appending.{closed_within}
use Rattle.px_journal.proofs.Creating.{content_leaves, opened_leaves, if_opened}
use Rattle.px_journal.proofs.create.open_behind.Goals as goal

pub put-requires-clause-within : goal.put-requires-clause-within
put-requires-clause-within g c = λ told is. omega (arith, closed_within 0 told (c.requires.closed told is))

pub returns-in_err-put-clause-nothing_or_new : goal.returns-in_err-put-clause-nothing_or_new
returns-in_err-put-clause-nothing_or_new g c = λ version text short content_is told is.
    content_leaves version text told c.args.content.now short content_is (c.requires.closed told is) g.D.Disk.images _ _ _ _ is (c.requires.synced told is) _ c.put.ensures.puts

pub returns-clause-nothing_or_new : goal.returns-clause-nothing_or_new
returns-clause-nothing_or_new g c = λ version text short content_is told is.
    opened_leaves version text told c.args.content.now short content_is (c.requires.closed told is) g.D.Disk.images _ _ _ _ is (c.requires.synced told is) c.in_ok-put.ensures.puts
    _ _ _ c.put-2.ensures.puts

pub returns-clause-stands : goal.returns-clause-stands
returns-clause-stands g c = λ version text short content_is.
    if_opened version g.D.Disk.images _ _ _ _ _ _ text c.args.content.now _ short content_is c.requires.closed c.requires.synced c.in_ok-put.ensures.puts c.put-2.ensures.puts
