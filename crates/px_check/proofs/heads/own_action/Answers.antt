use Rattle.std.proofs.Common.{◌≡◌, true, false, length, map, ap, sym, ◌∙◌, rules}
use Rattle.std.proofs.lemmas.List.{length-map}
use Rattle.px_syntax.specs.declared.block.Action.{out-Action}
use Rattle.px_syntax.specs.declared.block.Block.{out-Block}
use Rattle.px_syntax.specs.Block.{item_data, action_of, body_of}
use Rattle.px_syntax.specs.Scope.{own_action}
use Rattle.px_syntax.proofs.Trees.{block_is}
use Rattle.px_check.proofs.Seeing.{own_several, own_labelled, own_alone, block_of_one}
use Rattle.px_check.proofs.heads.own_action.Goals as goal

pub returns-then-is_some : goal.returns-then-is_some
returns-then-is_some c =
    let block = c.args.block.now in
    let action = c.index-action.result.now in
    let one : length (out-Block block).actions.items ≡ 1 = search rules in
    own_labelled (out-Block block).form (map item_data (out-Block block).items.items) (out-Action action).label
    (body_of (out-Action action).body) (sym c.is_some.ensures ∙ c.if-is_some.true)
    ∙ ap own_action (sym (block_of_one block action one c.index-action.ensures))

pub returns-then-is_simple : goal.returns-then-is_simple
returns-then-is_simple c =
    let block = c.args.block.now in
    let action = c.index-action.result.now in
    let one : length (out-Block block).actions.items ≡ 1 = search rules in
    own_alone (out-Block block).form (map item_data (out-Block block).items.items) (out-Action action).label
    (body_of (out-Action action).body) true c.in-Plain.is (sym c.is_some.ensures ∙ c.if-is_some.false)
    (sym c.if-is_simple.true ∙ c.is_simple.ensures)
    ∙ ap own_action (sym (block_of_one block action one c.index-action.ensures))

pub returns-else-is_simple : goal.returns-else-is_simple
returns-else-is_simple c =
    let block = c.args.block.now in
    let action = c.index-action.result.now in
    let one : length (out-Block block).actions.items ≡ 1 = search rules in
    own_alone (out-Block block).form (map item_data (out-Block block).items.items) (out-Action action).label
    (body_of (out-Action action).body) false c.in-Plain.is (sym c.is_some.ensures ∙ c.if-is_some.false)
    (sym c.if-is_simple.false ∙ c.is_simple.ensures)
    ∙ ap own_action (sym (block_of_one block action one c.index-action.ensures))

pub returns-then-len-ne1 : goal.returns-then-len-ne1
returns-then-len-ne1 c =
    let block = c.args.block.now in
    let actions = (out-Block block).actions.items in
    let count : c.len.result ≡ length actions = search rules in
    own_several (out-Block block).form (map item_data (out-Block block).items.items) (map action_of actions)
    (λ one. c.if-len-ne1.true (count ∙ sym (length-map actions action_of) ∙ one))
    ∙ ap own_action (sym (block_is block))
