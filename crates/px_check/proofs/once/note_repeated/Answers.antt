use Rattle.std.proofs.Common.{◌∷◌, [], List, map, flat_map, refl, ap, sym, ◌∙◌}
use Rattle.std.specs.List.{list_any}
use Rattle.std.proofs.lemmas.List.{map-append}
use Rattle.px_value.proofs.General.{list_any-push, none_from}
use Rattle.px_syntax.specs.Block.{item_data}
use Rattle.px_syntax.specs.BlockFaults.{is_same_once, once_in, repeated}
use Rattle.px_syntax.specs.declared.block.Item.{Item}
use Rattle.px_syntax.specs.declared.fault.FaultKind.TheVariants.{DoubleCondition}
use Rattle.px_check.specs.Once.{once_data}
use Rattle.px_check.specs.declared.once.Once.{Once}
use Rattle.px_check.proofs.ItemWalks.{once_none, once_some, once_again}
use Rattle.px_check.proofs.Walking.{all_walked}
use Rattle.px_check.proofs.once.note_repeated.Goals as goal
use Rattle.px_check.proofs.once.note_repeated.Goals.{in-Some+then-not-is_again+in_ok-push, in-Some+else-not-is_again, in_default}

pub loop-item-preserved : goal.loop-item-preserved
loop-item-preserved c =
    let items = c.args.items.now in
    let place = c.loop-item.item-index in
    let item = c.item-item.result in
    let before = c.loop-item.seen.items in
    let among = λ (part : Once) (seen : List Once). list_any (is_same_once (once_data part)) (map once_data seen) in
    elim c.match-once_in.branch [
      | in-Some+then-not-is_again+in_ok-push w ↦
          once_some items place item c.once_in.result c.loop-item-test.true c.item-item.is c.once_in.ensures before _
          w.in-Some.part w.in-Some.token w.is_among-is_again.result _ _ w.in-Some.is
          (w.is_among-is_again.ensures ∙ ap (among w.in-Some.part) w.deref.ensures.value)
          (w.found-is ∙ w.note_where.ensures)
          (λ one. ap (λ seen. list_any (is_same_once one) (map once_data seen))
          (ap (λ seen. seen.items) w.seen-is ∙ w.in_ok-push.ensures.items)
          ∙ ap (list_any (is_same_once one)) (map-append once_data before (w.in-Some.part ∷ []))
          ∙ list_any-push (is_same_once one) (map once_data before) (once_data w.in-Some.part))
          ∙ c.loop-item.invariant
      | in-Some+else-not-is_again w ↦
          once_some items place item c.once_in.result c.loop-item-test.true c.item-item.is c.once_in.ensures before _
          w.in-Some.part w.in-Some.token w.is_among-is_again.result _ _ w.in-Some.is
          (w.is_among-is_again.ensures ∙ ap (among w.in-Some.part) w.deref.ensures.value)
          (w.found-is ∙ w.note_where.ensures)
          (λ one. ap (λ seen. list_any (is_same_once one) (map once_data seen.items)) w.seen-is
          ∙ once_again (once_data w.in-Some.part) (map once_data before)
          (sym (w.is_among-is_again.ensures ∙ ap (among w.in-Some.part) w.deref.ensures.value) ∙ w.if-not-is_again.false) one)
          ∙ c.loop-item.invariant
      | in_default w ↦
          once_none items place item c.once_in.result c.loop-item-test.true c.item-item.is c.once_in.ensures before _ _ _
          (none_from c.once_in.result w.in_default.not-Some) w.found-is (ap (λ seen. seen.items) w.seen-is)
          ∙ c.loop-item.invariant
    ]

pub returns : goal.returns
returns c =
    all_walked (λ (left : List Item). repeated is_same_once DoubleCondition (map once_data c.loop-item.seen.items)
    (flat_map once_in (map item_data left))) c.args.items.now c.loop-item.item-index c.loop-item.found refl
    c.loop-item-test.false
    ∙ c.loop-item.invariant
