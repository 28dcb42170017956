use Rattle.std.proofs.Common.{◌≡◌, ◌++◌, ◌∷◌, [], Option, map, option_map, ap, sym, ◌∙◌, append-nil}
use Rattle.std.proofs.lemmas.List.{map-append}
use Rattle.px_value.proofs.General.{none_from}
use Rattle.px_syntax.specs.declared.block.Branch.{Branch}
use Rattle.px_syntax.specs.declared.block.Guarded.{out-Guarded}
use Rattle.px_syntax.specs.Block.{branch_of, else_of}
use Rattle.px_syntax.specs.BlockFaults.{else_child}
use Rattle.px_syntax.specs.Scope.{branch_child}
use Rattle.px_check.specs.Nodes.{head_data}
use Rattle.px_check.proofs.Seeing.{chain_children, end_children}
use Rattle.px_check.proofs.branches.if_children.Goals as goal
use Rattle.px_check.proofs.branches.if_children.Goals.{in-Some+in_ok-branch_child+in_ok-push, in_default}

pub returns-then-others-gt0 : goal.returns-then-others-gt0
returns-then-others-gt0 c =
    c.in_ok-heads.ensures
    ∙ chain_children c.args.first.now c.args.others.now (else_child (else_of (option_map branch_of c.args.otherwise.now)))
    c.if-others-gt0.true

pub returns : goal.returns
returns c =
    let first = branch_child (branch_of (out-Guarded c.args.first.now).branch) in
    let before = c.in_ok-heads.heads.items in
    let last = λ (otherwise : Option Branch). else_child (else_of (option_map branch_of otherwise)) in
    let heads : map head_data c.match-otherwise.heads.items ≡ first ++ last c.args.otherwise.now =
    elim c.match-otherwise.branch [
      | in-Some+in_ok-branch_child+in_ok-push w ↦
          ap (λ heads. map head_data heads.items) w.heads-is
          ∙ ap (map head_data) w.in_ok-push.ensures.items
          ∙ map-append head_data before (w.in_ok-branch_child.field-0 ∷ [])
          ∙ (λ i. c.in_ok-heads.ensures i ++ w.in_ok-branch_child.ensures i)
          ∙ ap (λ otherwise. first ++ last otherwise) (sym w.in-Some.is)
      | in_default w ↦
          ap (λ heads. map head_data heads.items) w.heads-is ∙ c.in_ok-heads.ensures ∙ sym (append-nil first)
          ∙ ap (λ otherwise. first ++ last otherwise) (sym (none_from c.args.otherwise.now w.in_default.not-Some))
    ] in
    heads ∙ end_children c.args.first.now c.args.others.now (last c.args.otherwise.now) c.if-others-gt0.false
