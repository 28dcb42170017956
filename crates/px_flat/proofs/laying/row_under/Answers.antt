use Rattle.std.proofs.Common.{◌+◌, ◌<◌, ap, sym, ◌∙◌, subst, length, Some, IfOk}
use Rattle.px_value.specs.Path.{below}
use Rattle.px_core.specs.Plan.{no_site}
use Rattle.px_core.specs.declared.node.CoreNode.TheViews.{out-CoreNode}
use Rattle.px_flat.specs.Laying.{IsRowAt}
use Rattle.px_flat.proofs.Sites.{site_at_linked}
use Rattle.px_flat.proofs.laying.row_under.Goals as goal

pub child-requires : goal.child-requires
child-requires c =
    let row = c.index-rows-parent.result in
    subst (λ path. length path + length (out-CoreNode c.args.node.now).name < 5000)
    (ap (λ site. site.path) (site_at_linked c.args.rows.now c.requires.linked c.args.parent no_site row
    c.requires.parent)) c.requires.short

pub returns : goal.returns
returns c =
    let row = c.index-rows-parent.result in
    let node = out-CoreNode c.args.node.now in
    subst (λ path. IfOk c.row_at.result (IsRowAt node path (Some c.args.parent)))
    (c.in_ok-child.ensures ∙ ap (λ site. below site.path node.name)
    (sym (site_at_linked c.args.rows.now c.requires.linked c.args.parent no_site row c.requires.parent)))
    c.row_at.ensures
