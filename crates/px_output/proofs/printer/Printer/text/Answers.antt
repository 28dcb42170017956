use Rattle.std.proofs.Common.{◌++◌, ap, sym}
use Rattle.px_output.proofs.Gathered.{piece_gathered}
use Rattle.px_output.proofs.printer.Printer.text.Goals as goal

pub returns-clause-gathers : goal.returns-clause-gathers
returns-clause-gathers g c =
    piece_gathered g.H.Host c.args.host.now c.emit_piece.new.host c.args.self.now _ c.emit_piece.new.self c.args.text.items _
    (sym (ap (λ held. held ++ c.args.text.items) c.requires)) c.emit_piece.ensures.gathers
