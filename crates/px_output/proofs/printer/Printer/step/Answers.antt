use Rattle.std.proofs.Common.{◌∙◌, ℕ, List, ◌++◌, ap}
use Rattle.px_sem.specs.Text.{step_text}
use Rattle.px_output.proofs.Gathered.{piece_gathered}
use Rattle.px_output.proofs.printer.Printer.step.Goals as goal

pub returns : goal.returns
returns g c =
    let line = step_text c.args.number c.args.moves.now in
    piece_gathered g.H.Host c.args.host.now c.emit_piece.new.host c.args.self.now _ c.emit_piece.new.self line _
    (◌∙◌ {A = List ℕ} c.in_ok-push_step.ensures.ok (ap (λ text. text ++ line) c.self.view_is)) c.emit_piece.ensures.gathers
