use Rattle.std.proofs.Common.{arith}
use Rattle.px_flat.proofs.Numbers.{row_is}
use Rattle.px_flat.proofs.Sites.{length-sites_of}
use Rattle.px_flat.proofs.flat.Flat.row.Goals as goal

pub index-requires : goal.index-requires
index-requires c =
    let names = c.args.self.now.names in omega (arith, c.requires, names.rows.ok.0, length-sites_of names.rows.items)

pub returns : goal.returns
returns c =
    let names = c.args.self.now.names in
    row_is names.rows.items names.laid c.args.node c.index.result.now
    (omega (arith, c.requires, length-sites_of names.rows.items)) c.index.ensures
