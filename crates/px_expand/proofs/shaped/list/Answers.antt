use Rattle.std.proofs.Common.{◌≡◌, ◌∙◌, IfOk, ap, map, subst, sym}
use Rattle.px_syntax.specs.Block.{block_of, item_data}
use Rattle.px_syntax.proofs.Trees.{block_is}
use Rattle.px_core.specs.declared.node.Kind.TheVariants as kinds
use Rattle.px_core.specs.Plan.{body_data, variable_data, trees_of}
use Rattle.px_expand.specs.Core.{items_of}
use Rattle.px_scope.specs.Items.{priority_of}
use Rattle.px_forms.specs.Nodes.{alone, list, node_at}
use Rattle.px_forms.specs.Placed.{place_terms, tree_in}
use Rattle.px_forms.specs.Shown.{given_terms}
use Rattle.px_expand.proofs.shaped.list.Goals as goal

pub returns : goal.returns
returns c =
    let block = c.args.block.now in
    let own = c.in_ok-own.own.value in
    let given = given_terms c.in_ok-given.given.value in
    let priority : own.priority ≡ priority_of (items_of (block_of block)) =
    c.in_ok-own.ensures.priority
    ∙ c.priority_of.ensures
    ∙ ap (λ items. priority_of (map item_data items)) c.deref.ensures.value
    ∙ ap (λ tree. priority_of (items_of tree)) (sym (block_is block)) in
    subst (λ given. IfOk c.node.result (λ node. tree_in node ≡ alone (list (place_terms c.args.place) c.args.paths.now
    given (priority_of (items_of (block_of block))) (map variable_data c.args.variables.items) (trees_of c.args.nodes.items))))
    c.in_ok-given.ensures
    (subst (λ priority. IfOk c.node.result (λ node. tree_in node ≡ alone (list (place_terms c.args.place) c.args.paths.now
    given priority (map variable_data c.args.variables.items) (trees_of c.args.nodes.items))))
    priority
    (subst (λ variables. IfOk c.node.result (λ node. tree_in node ≡ alone (list (place_terms c.args.place) c.args.paths.now
    given own.priority (map variable_data variables.items) (trees_of c.args.nodes.items))))
    c.in_ok-own.ensures.variables
    (subst (λ body. IfOk c.node.result (λ node. tree_in node ≡ alone (node_at (place_terms c.args.place) kinds.List
    c.args.paths.now given own.priority (map variable_data own.variables.items) (body_data body) (trees_of c.args.nodes.items))))
    c.in_ok-own.ensures.body
    c.node.ensures)))
