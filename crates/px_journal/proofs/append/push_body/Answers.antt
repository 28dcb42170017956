use Rattle.px_journal.proofs.Bodies.{name_fits, given_fits}
use Rattle.px_journal.proofs.append.push_body.Goals as goal

pub push_named-requires-clause-name : goal.push_named-requires-clause-name
push_named-requires-clause-name c = rw c.of.ensures.name (name_fits c.args.entry.now.thread c.args.names.now c.of.ensures.names)

pub returns-in-Two-clause-fit : goal.returns-in-Two-clause-fit
returns-in-Two-clause-fit c = given_fits c.args.version c.args.names.now c.args.entry.now c.of.ensures.names c.requires
