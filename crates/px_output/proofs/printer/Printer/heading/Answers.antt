use Rattle.std.proofs.Common.{◌∙◌, ℕ, List, ◌++◌, ap}
use Rattle.px_sem.specs.Text.{heading_text}
use Rattle.px_output.proofs.Gathered.{piece_gathered}
use Rattle.px_output.proofs.printer.Printer.heading.Goals as goal

pub returns : goal.returns
returns g c =
    let line = heading_text c.args.position c.args.entry.now in
    piece_gathered g.H.Host c.args.host.now c.emit_piece.new.host c.args.self.now _ c.emit_piece.new.self line _
    (◌∙◌ {A = List ℕ} c.in_ok-push_heading.ensures.ok (ap (λ text. text ++ line) c.self.view_is)) c.emit_piece.ensures.gathers
