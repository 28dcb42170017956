-- The parts may go to another thread: one lemma a type, from its parts.
use Rattle.std.proofs.Crossing.{crosses}
use denote.RattleType.{RattleType}
use denote.Struct.Declared.{shape}
use denote.Param.Send.{IsSend, sendable, plain_send, view_send, recorded_send, struct_send}
use denote.Param.SendFields.{as_row_send, declared_send, variants_send}
use Rattle.std.specs.contracts.option.Option as option
use Rattle.std.specs.contracts.vec.Vec as vec
use Rattle.std.specs.contracts.alloc.Global as global
use Rattle.std.specs.contracts.impls.GlobalAllocator.TheImpl as allocates
use Rattle.std.proofs.option.Option.TheSendSync as options
use Rattle.std.proofs.vec.Vec.TheSendSync as vecs
use Rattle.std.proofs.alloc.Global.TheSendSync as globals
use Rattle.std.below.std_heap.proofs.GlobalAllocator.TheSendSync as frees
use Rattle.indexmap.proofs.set.IndexSet.TheSendSync as sets
use Rattle.px_value.proofs.text.Text.TheSendSync as texts
use Rattle.px_value.proofs.value.Value.TheSendSync as values
use Rattle.px_value.proofs.path.Path.TheSendSync as paths
use Rattle.px_value.proofs.name.Name.TheSendSync as names
use Rattle.px_core.proofs.node.Kind.TheSendSync as kinds
use Rattle.px_core.proofs.variable.VarKind.TheSendSync as var_kinds
use Rattle.px_core.proofs.variable.Variable.TheSendSync as variables
use Rattle.px_core.proofs.expr.Expr.TheLaws.TheKnot.{send-Expr}
use Rattle.px_core.specs.contracts.conditions.Conditions as conditions
use Rattle.px_core.specs.contracts.expr.Expr as exprs
use Rattle.px_core.specs.contracts.body.Target as targets
use Rattle.px_core.specs.contracts.body.Pair as pairs
use Rattle.px_core.specs.contracts.body.Body as bodies
use Rattle.px_sem.proofs.moves.Move.TheSendSync as moves
use Rattle.px_cells.proofs.news.News.TheSendSync as news
use Rattle.px_cells.specs.contracts.marked.Marked as marked
use Rattle.px_cells.specs.contracts.marked.Marked.TheInside as marked_inside
use Rattle.px_lookup.proofs.reports.Reports.TheSendSync as reports
use Rattle.px_command.specs.contracts.actions.Actions as actions
use Rattle.px_command.specs.contracts.actions.Actions.TheInside as actions_inside
use Rattle.px_flat.proofs.act.Act.TheSendSync as acts
use Rattle.px_flat.proofs.row.Extent.TheSendSync as extents
use Rattle.px_flat.proofs.slots.Slots.TheSendSync as slots
use Rattle.px_flat.proofs.Sending.{numbered_send}
use Rattle.px_flat.specs.contracts.row.Head as heads
use Rattle.px_flat.specs.contracts.row.Row as rows
use Rattle.px_flat.specs.contracts.names.Names as tables
use Rattle.px_flat.specs.contracts.numbered.NumberedExpr as numbered
use Rattle.px_flat.specs.contracts.numbered.NumberedTarget as numbered_targets
use Rattle.px_flat.specs.contracts.numbered.NumberedBody as numbered_bodies
use Rattle.px_flat.specs.contracts.numbered.NumberedConditions as numbered_conditions
use Rattle.px_flat.specs.contracts.numbered.NumberedNode as numbered_nodes
use Rattle.px_flat.specs.contracts.flat.Flat as flat
use Rattle.px_parts.specs.contracts.parts.Parts as parts

-- ---- a plan's nodes

-- expressions, which refer to themselves
expr_send : IsSend (exprs.the_field.row)
expr_send =
    send-Expr (search (sendable, texts.the_send) depth 20) paths.the_send names.the_send (λ h s. search (sendable, crosses)) (search sendable depth 12)
    (λ h s. search (sendable, crosses)) (search (sendable, crosses)) (search sendable depth 12) (search sendable depth 20)

conditions_send : IsSend conditions.the_row
conditions_send =
    let e = as_row_send exprs.the_field expr_send in
    declared_send conditions.the_type (e, (e, (e, (e, (e, (e, (e, (e, tt))))))))

target_send : IsSend targets.the_row
target_send =
    declared_send targets.the_type
    (search (sendable, crosses, as_row_send, paths.the_send, names.the_send, expr_send) depth 20)

pair_send : IsSend pairs.the_row
pair_send = declared_send pairs.the_type (search (sendable, as_row_send, names.the_send, expr_send) depth 20)

body_send : IsSend bodies.the_row
body_send =
    variants_send bodies.enum
    (search (sendable, crosses, as_row_send, names.the_send, expr_send, target_send, pair_send) depth 20)

head_send : IsSend heads.the_row
head_send =
    declared_send heads.the_type
    (search (sendable, crosses, as_row_send, names.the_send, kinds.the_field_send, conditions_send, variables.the_send, body_send) depth 20)

row_send : IsSend rows.the_row
row_send = declared_send rows.the_type (search (sendable, crosses, as_row_send, paths.the_send, head_send) depth 20)

-- ---- with numbers in place of names

numbered_target_send : IsSend numbered_targets.the_row
numbered_target_send =
    declared_send numbered_targets.the_type
    (search (sendable, crosses, as_row_send, var_kinds.the_field_send, numbered_send) depth 20)

numbered_body_send : IsSend numbered_bodies.the_row
numbered_body_send =
    variants_send numbered_bodies.enum
    (search (sendable, crosses, as_row_send, numbered_send, numbered_target_send) depth 20)

numbered_conditions_send : IsSend numbered_conditions.the_row
numbered_conditions_send =
    let e = as_row_send numbered.the_field numbered_send in
    declared_send numbered_conditions.the_type (e, (e, (e, (e, (e, (e, (e, (e, tt))))))))

numbered_node_send : IsSend numbered_nodes.the_row
numbered_node_send =
    declared_send numbered_nodes.the_type
    (search (sendable, numbered_conditions_send, numbered_body_send) depth 20)

-- ---- what runs a plan

tables_send : IsSend tables.the_row
tables_send =
    declared_send tables.the_type (
      search (sendable, crosses, as_row_send, row_send) depth 12,
      (
        search (sendable, crosses, extents.the_send) depth 12,
        (
          search (sendable, crosses, sets.the_send, paths.the_send) depth 12,
          (
            search (sendable, crosses, slots.the_send) depth 12,
            (
              search (sendable, crosses, sets.the_send, names.the_send) depth 12,
              (search (sendable, crosses) depth 12, tt),
            ),
          ),
        ),
      ),
    )

flat_send : IsSend flat.the_row
flat_send =
    declared_send flat.the_type (search (sendable, crosses, as_row_send, tables_send, numbered_node_send) depth 20)

pub vec_send : (T : RattleType) → IsSend T → IsSend (vec.the_row T global.the_row allocates.ghosts)
vec_send T sent = vecs.the_send T global.the_row allocates.ghosts sent globals.the_send frees.the_frees

marked_send : (T : RattleType) → IsSend T → IsSend (marked.the_row T)
marked_send T sent =
    view_send (marked_inside.the_row T) _ _ _ _ (recorded_send (marked_inside.the_field T).row _ _ (marked_inside.the_type T).to_one
    (struct_send (shape (marked_inside.the_type T)) (
      vec_send T sent,
      (
        vec_send (option.the_row T) (options.the_send T sent),
        (
          search (sendable, crosses) depth 24,
          (
            plain_send _ _ _ _ _,
            (search (sendable, crosses) depth 24, (search (sendable, crosses, news.the_send) depth 24, tt)),
          ),
        ),
      ),
    )))

actions_send : IsSend actions.the_row
actions_send =
    view_send actions_inside.the_row _ _ _ _ (recorded_send actions_inside.the_field.row _ _ actions_inside.the_type.to_one
    (struct_send (shape actions_inside.the_type) (search (sendable, crosses, marked_send, acts.the_send) depth 24)))

pub parts_send : IsSend parts.the_row
parts_send =
    declared_send parts.the_type (
      search flat_send,
      (
        search (sendable, crosses, marked_send, values.the_send) depth 24,
        (
          search (sendable, reports.the_send),
          (
            search (sendable, actions_send),
            (search (sendable, crosses, moves.the_send) depth 12, tt),
          ),
        ),
      ),
    )
