use Rattle.std.proofs.Common.{◌∙◌, ℕ, List, ◌++◌, ap}
use Rattle.std.specs.Option.{option_copied}
use Rattle.px_trace.specs.Names.{name_line}
use Rattle.px_output.proofs.Gathered.{piece_gathered}
use Rattle.px_output.proofs.printer.Printer.name.Goals as goal

pub returns : goal.returns
returns g c =
    let line = name_line c.args.position (record { name = option_copied c.args.name; entry = c.args.entry.now }) in
    piece_gathered g.H.Host c.args.host.now c.emit_piece.new.host c.args.self.now _ c.emit_piece.new.self line _
    (◌∙◌ {A = List ℕ} c.in_ok-push_name.ensures.ok (ap (λ text. text ++ line) c.self.view_is)) c.emit_piece.ensures.gathers
