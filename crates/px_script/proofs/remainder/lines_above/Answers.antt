use Rattle.std.proofs.Common.{◌≡◌, rules}
use Rattle.std.proofs.lemmas.Fn.{filter_same}
use Rattle.px_script.specs.Remainder.{lines_above}
use Rattle.px_script.proofs.remainder.lines_above.Goals as goal

pub returns : goal.returns
returns c =
    let kept : c.retain.new.self.items ≡ lines_above c.args.number c.into_vec-lines.result.items
    = filter_same _ _ _ (λ x b f' k. search rules) _ _ c.retain.ensures.filtered in
    search rules
