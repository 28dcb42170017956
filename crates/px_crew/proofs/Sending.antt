-- An executive may go to another thread where its stepper and its disk may, so a desk over it may be shared, and its seats
-- dealt out.
use denote.RattleType.{RattleType}
use denote.Struct.Declared.{shape}
use denote.Param.Send.{IsSend, IsSync, sendable, view_send, recorded_send, struct_send}
use denote.Param.SendFields.{declared_send, declared_sync}
use Rattle.std.proofs.Crossing.{crosses}
use Rattle.px_sem.specs.declared.stepper.Stepper
use Rattle.px_ports.specs.declared.disk.Disk
use Rattle.px_journal.proofs.journal.Journal.TheSendSync as journals
use Rattle.px_event.proofs.entry.Entry.TheSendSync as entries
use Rattle.px_event.proofs.names.Names.TheSendSync as names
use Rattle.px_sem.proofs.log.LogEntry.TheSendSync as logs
use Rattle.px_exec.proofs.closing.Failed.TheSendSync as fails
use Rattle.px_exec.specs.contracts.exec.Exec as execs
use Rattle.px_exec.specs.contracts.exec.Exec.TheInside as exec_inside
use Rattle.px_exec.specs.contracts.exec.Opening as openings
use Rattle.px_turn.proofs.turn.Turn.TheSendSync as turns
use Rattle.px_desk.specs.contracts.kept.Kept as kepts
use Rattle.px_desk.specs.contracts.kept.Kept.TheInside as kept_inside
use Rattle.px_desk.specs.contracts.event_desk.EventDesk as desks

module _ (S D : RattleType) (runs : Stepper.Ghosts S.Denot) (members : Disk.Ghosts D.Denot) (s : IsSend S) (d : IsSend D) where
  opening_send : IsSend (openings.the_row S D)
  opening_send = declared_send (openings.the_type S D) (search (sendable, crosses) depth 20)

  exec_send : IsSend (execs.the_row S D runs members)
  exec_send =
      let inside = exec_inside.the_type S D runs members in
      view_send (exec_inside.the_row S D runs members) _ _ _ _ (recorded_send (exec_inside.the_field S D runs members).row _ _ inside.to_one
      (struct_send (shape inside) (
        search (sendable, crosses) depth 12,
        (
          search (sendable, crosses, journals.the_send, names.the_send) depth 12,
          (
            search (sendable, crosses, entries.the_send) depth 12,
            (
              search (sendable, crosses, logs.the_send) depth 12,
              (
                search (sendable, crosses, fails.the_send) depth 12,
                (search (sendable, crosses, opening_send) depth 12, tt),
              ),
            ),
          ),
        ),
      )))

  pub kept_send : IsSend (kepts.the_row S D runs members)
  kept_send =
      let inside = kept_inside.the_type S D runs members in
      view_send (kept_inside.the_row S D runs members) _ _ _ _ (recorded_send (kept_inside.the_field S D runs members).row _ _ inside.to_one
      (struct_send (shape inside) (search (sendable, crosses, exec_send) depth 12, tt)))

  pub desk_sync : IsSync (desks.the_row S D runs members)
  desk_sync =
      declared_sync (desks.the_type S D runs members) (
        search (sendable, crosses, turns.the_sync, kept_send) depth 12,
        (search (sendable, crosses) depth 12, (search (sendable, crosses) depth 12, tt)),
      )
