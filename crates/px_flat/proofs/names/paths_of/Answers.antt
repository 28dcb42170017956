use Rattle.std.proofs.Common.{ap, ◌∙◌, arith, List}
use Rattle.std.proofs.lemmas.List.{take_all, length-map}
use Rattle.indexmap.specs.IndexSet.{insert_key}
use Rattle.px_core.specs.Plan.{Site, is_same}
use Rattle.px_flat.specs.Row.{paths_of}
use Rattle.px_flat.specs.Rows.{sites_of}
use Rattle.px_flat.proofs.Numbers.{distinct_sites, paths_more, row_is}
use Rattle.px_flat.proofs.Sites.{length-sites_of}
use Rattle.px_flat.proofs.names.paths_of.Goals as goal

pub loop-row-preserved : goal.loop-row-preserved
loop-row-preserved c =
    let rows = c.args.rows.now in
    let plan : List Site = sites_of rows in
    let i = c.loop-row.row-index in
    let row = c.row-item.result in
    c.in_ok-insert.ensures.keys
    ∙ ap (λ keys. insert_key is_same keys c.in_ok-copy.field-0) c.loop-row.invariant
    ∙ paths_more plan i c.in_ok-copy.field-0 (distinct_sites rows c.requires)
    (omega (arith, length-sites_of rows, c.loop-row-test.true))
    (c.in_ok-copy.ensures ∙ (row_is rows c.requires i row c.loop-row-test.true c.row-item.is).path)

pub returns : goal.returns
returns c =
    let plan : List Site = sites_of c.args.rows.now in
    c.loop-row.invariant
    ∙ take_all c.loop-row.row-index (paths_of plan)
    (omega (arith, c.loop-row-test.false, length-map plan (λ site. site.path), length-sites_of c.args.rows.now))
