use Rattle.std.proofs.Common.{sym, ap, map, ◌∙◌, [], ◌<◌, length}
use Rattle.std.proofs.lemmas.Bool.{ltb-true, ltb-false}
use Rattle.std.proofs.lemmas.List.{get_or-map}
use Rattle.px_lex.specs.Table.{row_of}
use Rattle.px_lex.proofs.Keywords.{none_past}
use Rattle.px_lex.proofs.keyword.keyword_in.Goals as goal

pub returns-in-Some : goal.returns-in-Some
returns-in-Some c =
    let table = c.args.table.now in
    let place = length c.args.word.now in
    let within : place < length table = ltb-true place (length table) (sym c.in-Some.ensures.lookup.0) in
    c.row_of.ensures
    ∙ ap (λ rows. row_of (map (λ row. (row.0.now, row.1)) rows.now) c.args.word.now) c.in-Some.ensures.lookup.1
    ∙ sym (ap (λ rows. row_of rows c.args.word.now) (get_or-map (λ rows. map (λ row. (row.0.now, row.1)) rows.now) table place c.in-Some.rows.now [] within))

pub returns-in-None : goal.returns-in-None
returns-in-None c =
    let past = ltb-false (length c.args.word.now) (length c.args.table.now) (sym c.in-None.ensures.lookup.0) in
    sym (ap (λ rows. row_of rows c.args.word.now) (none_past (λ rows. map (λ row. (row.0.now, row.1)) rows.now) c.args.table.now (length c.args.word.now) [] past))
