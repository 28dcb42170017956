use Rattle.std.proofs.Common.{◌≡◌, ◌∙◌, codes, map, rules}
use Rattle.std.specs.Option.{option_map}
use Rattle.clap.specs.Words.{all_of, found_of, rows_of}
use Rattle.clap.proofs.WalkLemmas.{raw_values-rows}
use Rattle.px_words.proofs.line.Line.operands.Goals as goal

pub returns : goal.returns
returns c =
    let raw : option_map (λ words. map (λ word. word.now) words.now) c.get_raw.result ≡ all_of (codes "operands") (rows_of (found_of c.args.self.now.found)) =
    c.get_raw.ensures ∙ raw_values-rows (found_of c.args.self.now.found) (codes "operands") in
    search rules
