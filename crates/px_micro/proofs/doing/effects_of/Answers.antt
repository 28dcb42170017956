use Rattle.std.proofs.Common.{◌≡◌, ap, ◌∙◌}
use Rattle.std.proofs.lemmas.Option.{get_or_from_slice_get}
use Rattle.std.proofs.lemmas.Result.{IfOk-weaker}
use Rattle.px_core.specs.Plan.{Head}
use Rattle.px_core.specs.Plan as core
use Rattle.px_sem.specs.Effects.{move_kind}
use Rattle.px_flat.specs.declared.act.Act.TheVariants as under_way
use Rattle.px_flat.specs.Numbered.{NodeNumbered}
use Rattle.px_flat.specs.NumberedData.{body_data}
use Rattle.px_flat.specs.Parts.{act_of}
use Rattle.px_micro.specs.Doing.{done, kind_data}
use Rattle.px_micro.specs.Turns.{AreEffects}
use Rattle.px_micro.proofs.Meaning.{done_as, kept_small}
use Rattle.px_micro.proofs.doing.effects_of.Goals as goal

pub done-requires-clause-kept : goal.done-requires-clause-kept
done-requires-clause-kept c =
    let parts = c.args.parts.now in
    let act : act_of parts.actions.contents.values c.args.going.node ≡ c.of-act.result.now =
    get_or_from_slice_get parts.actions.contents.values c.args.going.node c.of-act.result.now under_way.Idle c.of-act.ensures in
    kept_small parts c.args.going.node c.of-act.result.now (body_data c.node.result.now.body) c.requires.stand c.requires.node
    act (ap (λ (node : NodeNumbered). node.body) c.node.ensures.node)

pub returns : goal.returns
returns c =
    let parts = c.args.parts.now in
    let going = c.args.going in
    let act : act_of parts.actions.contents.values going.node ≡ c.of-act.result.now =
    get_or_from_slice_get parts.actions.contents.values c.args.going.node c.of-act.result.now under_way.Idle c.of-act.ensures in
    IfOk-weaker c.done.result
    (λ made. made ≡ done parts c.of-act.result.now (kind_data c.move_kind-kind.result) (core.body_data c.row.result.now.head.body)
    (body_data c.node.result.now.body))
    (AreEffects parts going)
    (λ made is. done_as parts going (kind_data c.move_kind-kind.result) c.of-act.result.now
    (core.body_data c.row.result.now.head.body) (body_data c.node.result.now.body) made c.requires.stand c.requires.node
    (c.move_kind-kind.ensures ∙ ap (λ state. move_kind state going.arrival.to) c.state_of.ensures) act
    (ap (λ (head : Head). head.body) c.row.ensures.head) (ap (λ (node : NodeNumbered). node.body) c.node.ensures.node) is)
    c.done.ensures
